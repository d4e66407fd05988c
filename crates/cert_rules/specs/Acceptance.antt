-- A certificate is accepted for some literals where its splits nest at most 16 deep and each sum is of 1 to 128 shares, each 1 to 65,536
-- times, and comes to a negative number; a split is of a `/=`, which is `<` for the one side and `>` for the other.
use Rattle.std.specs.Prelude.{◌≡◌, ℕ, ◌≤◌, ℤ, pos, ◌<ℤ◌, Some, List, [], ◌∷◌, ◌++◌, map, length, slice_get, slice_set}
use Rattle.il_core.specs.declared.line.Place.{Place}
use Rattle.il_core.specs.declared.operator.Relation.TheVariants.{Ne, Lt, Gt}
use Rattle.sym_simplify.specs.Form.{Form, constant}
use Rattle.sym_simplify.specs.Norm.{Summand, scaled, normal_of}
use Rattle.sym_simplify.specs.Literal.{LiteralForm, keep}
use Rattle.il_core.specs.declared.certificate.Share.{Share}
use Rattle.il_core.specs.Certificate.{Certificate, sum, split, nesting}
use Rattle.cert_rules.specs.Quantity.{IsQuantity}

-- the quantity of each share, as often as its factor says, which is 1 to 65,536
abbrev pub IsSumOf : List Place → ℕ → List LiteralForm → List Share → List Summand → Type 0
IsSumOf places pc fs [] q = q ≡ []
IsSumOf places pc fs (share ∷ shares) q = (1 ≤ share.times) × (share.times ≤ 65536)
    × ((here : List Summand) × (others : List Summand) × IsQuantity places pc fs share.item here × IsSumOf places pc fs shares others
    × (q ≡ map (scaled (pos share.times)) here ++ others))

-- 1 to 128 shares come to a number below 0
pub record IsNegativeSum (places : List Place) (pc : ℕ) (fs : List LiteralForm) (shares : List Share) : Type 0 where
  pub some : 1 ≤ length shares
  pub few : length shares ≤ 128
  pub summed : List Summand
  pub sum : IsSumOf places pc fs shares summed
  pub left : ℤ
  pub alone : normal_of summed ≡ constant left
  pub negative : left <ℤ pos 0

-- each sum of the certificate is negative
abbrev pub Refutes : List Place → ℕ → List LiteralForm → Certificate → Type 0
Refutes places pc fs (sum shares) = IsNegativeSum places pc fs shares
Refutes places pc fs (split i low high) = (n : Form) × (bound : ℤ) × (slice_get fs i ≡ Some (keep n Ne bound))
    × Refutes places pc (slice_set fs i (keep n Lt bound)) low × Refutes places pc (slice_set fs i (keep n Gt bound)) high

pub record IsAccepted (places : List Place) (pc : ℕ) (fs : List LiteralForm) (c : Certificate) : Type 0 where
  pub nested : nesting c ≤ 16
  pub refutes : Refutes places pc fs c
