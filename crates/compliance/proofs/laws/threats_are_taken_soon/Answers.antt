use Rattle.compliance.proofs.NoBadRun.{input_in_range}
use Rattle.compliance.proofs.Bounded.{few_steps}
use Rattle.compliance.proofs.laws.threats_are_taken_soon.Goals as goal

pub returns : goal.returns
returns c = λ p loops pc r s n h b k i e t. few_steps p loops pc s r n h c.ways_are_steps.ensures c.ways_go_along_arcs.ensures b (input_in_range p.places pc s i) k.path e t
