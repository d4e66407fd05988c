use Rattle.sym_simplify.proofs.Exact.{norm_constant}
use Rattle.sym_simplify.proofs.laws.constants_are_sums.Goals as goal

pub returns : goal.returns
returns c = norm_constant
