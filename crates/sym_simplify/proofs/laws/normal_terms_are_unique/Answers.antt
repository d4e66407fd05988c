use Rattle.sym_simplify.proofs.Exact.{norm_unique}
use Rattle.sym_simplify.proofs.laws.normal_terms_are_unique.Goals as goal

pub returns : goal.returns
returns c = norm_unique
