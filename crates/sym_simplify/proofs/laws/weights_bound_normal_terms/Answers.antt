use Rattle.sym_simplify.proofs.Hefts.{norm_heft}
use Rattle.sym_simplify.proofs.laws.weights_bound_normal_terms.Goals as goal

pub returns : goal.returns
returns c = norm_heft
