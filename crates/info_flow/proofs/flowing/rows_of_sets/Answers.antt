use Rattle.std.proofs.Common.{sym, ap, subst, ◌∙◌}
use Rattle.il_core.specs.LineGraph.{IsIn}
use Rattle.flow_graph.proofs.Members.{IsIn-get_or}
use Rattle.info_flow.specs.Sources.{AreSources}
use Rattle.info_flow.specs.declared.relevance.VariableSets.{VariableSets}
use Rattle.info_flow.specs.declared.row.FlowRow.{FlowRow}
use Rattle.info_flow.proofs.MadeOf.{made_more, made_all}
use Rattle.info_flow.proofs.flowing.rows_of_sets.Goals as goal

pub row_of_sets-requires-clause-least : goal.row_of_sets-requires-clause-least
row_of_sets-requires-clause-least c =
    c.requires.least _ (subst (IsIn c.args.found.now) (sym c.sets-item.is) (IsIn-get_or c.args.found.now c.loop-sets.sets-index _ c.loop-sets-test.true))

pub loop-sets-preserved : goal.loop-sets-preserved
loop-sets-preserved c =
    rw c.in_ok-push.ensures.ok
    (made_more (λ (s : VariableSets). s.place) (λ (r : FlowRow). r.place) (AreSources c.args.graph.now) c.args.found.now c.loop-sets.sets-index _ c.loop-sets.rows c.in_ok-row.row
    c.loop-sets-test.true (c.in_ok-row.ensures.place ∙ ap (λ (s : VariableSets). s.place) c.sets-item.is) c.in_ok-row.ensures.sources c.loop-sets.invariant)
