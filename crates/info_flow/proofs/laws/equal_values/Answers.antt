use Rattle.info_flow.proofs.LineRuns.{equal_values}
use Rattle.info_flow.proofs.laws.equal_values.Goals as goal

pub returns : goal.returns
returns c = λ p v relevant needs s t to_s to_t k closed d e same. equal_values p k v relevant needs closed s t to_s to_t d e same
