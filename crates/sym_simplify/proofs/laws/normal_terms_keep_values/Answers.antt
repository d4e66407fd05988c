use Rattle.sym_simplify.proofs.NormValues.{norm_value}
use Rattle.sym_simplify.proofs.laws.normal_terms_keep_values.Goals as goal

pub returns : goal.returns
returns c = norm_value
