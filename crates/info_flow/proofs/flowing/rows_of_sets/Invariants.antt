use Rattle.info_flow.specs.Sources.{AreSources}
use Rattle.info_flow.specs.declared.relevance.VariableSets.{VariableSets}
use Rattle.info_flow.specs.declared.row.FlowRow.{FlowRow}
use Rattle.info_flow.proofs.MadeOf.{IsMadeOf}
use Rattle.info_flow.proofs.flowing.rows_of_sets.Given as goal

abbrev pub invariant-loop-sets : goal.invariant-loop-sets
invariant-loop-sets l = IsMadeOf (λ (s : VariableSets). s.place) (λ (r : FlowRow). r.place) (AreSources l.graph) l.found l.sets-index l.rows
