use Rattle.std.proofs.Common.{◌↔◌, ◌≡◌, sym, subst}
use Rattle.regular_algebra.specs.Relation.{HasBit}
use Rattle.regular_algebra.proofs.Bits.{pow-bit, shifted-one}
use Rattle.regular_algebra.proofs.relation.bit.Goals as goal

pub returns : goal.returns
returns c = λ y. subst (λ r. HasBit r y ↔ (y ≡ c.args.b)) (sym (shifted-one c.args.b c.requires)) (pow-bit c.args.b y)
