use Rattle.std.proofs.Common.{refl}
use Rattle.std.specs.Fmt.{digits}
use Rattle.sym_simplify.proofs.laws.worked_texts.Goals as goal

pub returns : goal.returns
unfolding digits
returns c = record {
  constants = refl;
  place_alone = refl;
  signs = refl;
  product_of_a_quotient = refl;
  remainder_of_a_quotient = refl;
  wrapped = refl;
  negative_side = refl;
  literal = refl;
}
