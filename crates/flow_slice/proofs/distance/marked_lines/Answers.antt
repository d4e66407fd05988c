use Rattle.std.proofs.Common.{sym, ◌∙◌}
use Rattle.std.proofs.lemmas.Bool.{false≢true}
use Rattle.flow_graph.specs.Search.{IsMarked}
use Rattle.info_flow.proofs.Listing.{list_push, list_skip}
use Rattle.flow_slice.proofs.distance.marked_lines.Goals as goal
use Rattle.flow_slice.proofs.distance.marked_lines.Goals.{then-marks-line+in_ok-push, else-marks-line}

pub loop-line-preserved : goal.loop-line-preserved
loop-line-preserved c = elim c.if-marks-line.branch [
  | then-marks-line+in_ok-push w ↦
      rw (w.lines-is, w.in_ok-push.ensures.ok) (list_push (IsMarked c.args.marks.now) c.loop-line.line c.loop-line.lines w.if-marks-line.true c.loop-line.invariant)
  | else-marks-line w ↦
      rw w.lines-is (list_skip (IsMarked c.args.marks.now) c.loop-line.line c.loop-line.lines (λ h. false≢true (sym w.if-marks-line.false ∙ h)) c.loop-line.invariant)
]
