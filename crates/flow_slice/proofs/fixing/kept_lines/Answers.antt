use Rattle.std.proofs.Common.{sym, ◌∙◌}
use Rattle.std.proofs.lemmas.Bool.{false≢true}
use Rattle.flow_graph.specs.Search.{IsMarked}
use Rattle.info_flow.proofs.Listing.{list_push, list_skip}
use Rattle.flow_slice.proofs.fixing.kept_lines.Goals as goal
use Rattle.flow_slice.proofs.fixing.kept_lines.Goals.{then-is_kept+in_ok-push, else-is_kept}

pub loop-line-preserved : goal.loop-line-preserved
loop-line-preserved c = elim c.if-is_kept.branch [
  | then-is_kept+in_ok-push w ↦
      rw (w.kept-is, w.in_ok-push.ensures.ok)
      (list_push (λ k. IsMarked c.args.reached.now k × IsMarked c.args.marks.now k) c.loop-line.line c.loop-line.kept (c.is_kept.ensures.0 w.if-is_kept.true) c.loop-line.invariant)
  | else-is_kept w ↦
      rw w.kept-is
      (list_skip (λ k. IsMarked c.args.reached.now k × IsMarked c.args.marks.now k) c.loop-line.line c.loop-line.kept
      (λ h. false≢true (sym w.if-is_kept.false ∙ c.is_kept.ensures.1 h)) c.loop-line.invariant)
]
