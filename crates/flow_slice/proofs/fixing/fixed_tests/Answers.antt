use Rattle.std.proofs.Common.{ap, sym, ◌∙◌, map}
use Rattle.std.proofs.lemmas.Bool.{false≢true}
use Rattle.std.proofs.lemmas.Option.{same_Some}
use Rattle.il_core.specs.LineGraph.{heads_at}
use Rattle.il_core.specs.Procedure.{instruction_of}
use Rattle.flow_graph.specs.Graph.{kind_of}
use Rattle.flow_slice.specs.Distance.{side_of}
use Rattle.flow_slice.specs.Sides.{IsLoose, side_at}
use Rattle.flow_slice.proofs.FixedTests.{item_there, fixed_push, fixed_skip}
use Rattle.flow_slice.proofs.fixing.fixed_tests.Goals as goal
use Rattle.flow_slice.proofs.fixing.fixed_tests.Goals.{then-is_loose+in_ok-push, else-is_loose}

pub loop-line-preserved : goal.loop-line-preserved
loop-line-preserved c =
    let lines = map instruction_of c.args.lines.now in
    let there = item_there c.args.lines.now c.loop-line.line c.index-lines-line.result c.loop-line-test.true c.index-lines-line.is in
    elim c.if-is_loose.branch [
      | then-is_loose+in_ok-push w ↦
          let h = c.is_loose.ensures.0 w.if-is_loose.true in
          let side = w.side_of-taken.ensures ∙ ap (λ o. side_of c.args.distances.now (heads_at c.loop-line.line o)) (sym there) in
          rw (w.fixed-is, w.in_ok-push.ensures.ok)
          (fixed_push (IsLoose lines c.args.reached.now c.args.marks.now) (side_at c.args.distances.now lines) c.loop-line.line c.loop-line.fixed _
          (h.0, h.1, (instruction_of c.index-lines-line.result, there, h.2)) side c.loop-line.invariant)
      | else-is_loose w ↦
          rw w.fixed-is
          (fixed_skip (IsLoose lines c.args.reached.now c.args.marks.now) (side_at c.args.distances.now lines) c.loop-line.line c.loop-line.fixed
          (λ h. false≢true (sym w.if-is_loose.false ∙ c.is_loose.ensures.1 (h.0, h.1, ap kind_of (same_Some _ _ (sym there ∙ h.2.1)) ∙ h.2.2))) c.loop-line.invariant)
    ]
