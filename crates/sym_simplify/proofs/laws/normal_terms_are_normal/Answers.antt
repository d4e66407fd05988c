use Rattle.sym_simplify.proofs.Sides.{norm_normal}
use Rattle.sym_simplify.proofs.laws.normal_terms_are_normal.Goals as goal

pub returns : goal.returns
returns c = norm_normal
