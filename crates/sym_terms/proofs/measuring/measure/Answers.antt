use Rattle.sym_terms.proofs.Capped.{measured_by}
use Rattle.sym_terms.proofs.measuring.measure.Goals as goal

pub returns-clause-exact : goal.returns-clause-exact
returns-clause-exact c = measured_by _ _ _ c.requires.places c.measure_in.ensures.value
