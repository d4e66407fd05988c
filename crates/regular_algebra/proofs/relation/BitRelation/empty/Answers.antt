use Rattle.std.proofs.Common.{subst}
use Rattle.std.proofs.lemmas.List.{get_or-replicate}
use Rattle.regular_algebra.specs.Relation.{HasBit}
use Rattle.regular_algebra.proofs.Bits.{no-bit}
use Rattle.regular_algebra.proofs.relation.BitRelation.empty.Goals as goal

pub returns : goal.returns
returns c = λ a b h. no-bit b (subst (λ r. HasBit r b) (get_or-replicate 66 a 0 0 h.0) h.2)
