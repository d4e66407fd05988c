use Rattle.sym_simplify.proofs.KeptBounds.{difference-norm}
use Rattle.sym_simplify.proofs.laws.differences_are_normal_terms.Goals as goal

pub returns : goal.returns
returns c = difference-norm
