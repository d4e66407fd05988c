use Rattle.std.proofs.Common.{sym, ap, subst, ◌∙◌}
use Rattle.il_core.specs.LineGraph.{IsIn}
use Rattle.flow_graph.proofs.Members.{IsIn-get_or}
use Rattle.info_flow.specs.declared.relevance.VariableSets.{VariableSets}
use Rattle.info_flow.proofs.MadeOf.{made_more, made_all}
use Rattle.report.specs.Sliced.{IsSliceRow}
use Rattle.report.specs.declared.report.SliceRow.{SliceRow}
use Rattle.malpas_suite.proofs.slices.slices_of.Goals as goal

pub slice_row-requires-clause-reached : goal.slice_row-requires-clause-reached
slice_row-requires-clause-reached c = rw c.as_slice-reached.ensures (record { size = c.in_ok-marks.ensures.size; exact = c.in_ok-marks.ensures.exact })

pub slice_row-requires-clause-before : goal.slice_row-requires-clause-before
slice_row-requires-clause-before c = rw c.as_slice-before.ensures (record { size = c.in_ok-rows.ensures.size; each = c.in_ok-rows.ensures.rows })

pub slice_row-requires-clause-least : goal.slice_row-requires-clause-least
slice_row-requires-clause-least c =
    c.requires.found.each _ (subst (IsIn c.args.found.now) (sym c.sets-item.is) (IsIn-get_or c.args.found.now c.loop-sets.sets-index _ c.loop-sets-test.true))

pub loop-sets-preserved : goal.loop-sets-preserved
loop-sets-preserved c =
    rw c.in_ok-push.ensures.ok
    (made_more (λ (s : VariableSets). s.place) (λ (r : SliceRow). r.place) (IsSliceRow c.args.graph.now) c.args.found.now c.loop-sets.sets-index _ c.loop-sets.slices c.in_ok-row.row
    c.loop-sets-test.true (c.in_ok-row.ensures.place ∙ ap (λ (s : VariableSets). s.place) c.sets-item.is) c.in_ok-row.ensures.row c.loop-sets.invariant)

pub returns : goal.returns
returns c = record {
  variables =
      made_all (λ (s : VariableSets). s.place) (λ (r : SliceRow). r.place) (IsSliceRow c.args.graph.now) c.args.found.now c.loop-sets.sets-index c.loop-sets.slices
      c.loop-sets-test.false c.loop-sets.invariant ∙ c.requires.found.variables;
  each = c.loop-sets.invariant.each;
}
