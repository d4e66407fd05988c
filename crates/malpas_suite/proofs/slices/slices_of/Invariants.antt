use Rattle.info_flow.specs.declared.relevance.VariableSets.{VariableSets}
use Rattle.info_flow.proofs.MadeOf.{IsMadeOf}
use Rattle.report.specs.Sliced.{IsSliceRow}
use Rattle.report.specs.declared.report.SliceRow.{SliceRow}
use Rattle.malpas_suite.proofs.slices.slices_of.Given as goal

abbrev pub invariant-loop-sets : goal.invariant-loop-sets
invariant-loop-sets l = IsMadeOf (λ (s : VariableSets). s.place) (λ (r : SliceRow). r.place) (IsSliceRow l.graph) l.found l.sets-index l.slices
