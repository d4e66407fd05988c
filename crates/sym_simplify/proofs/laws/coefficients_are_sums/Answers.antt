use Rattle.sym_simplify.proofs.Exact.{norm_coefficient}
use Rattle.sym_simplify.proofs.laws.coefficients_are_sums.Goals as goal

pub returns : goal.returns
returns c = norm_coefficient
