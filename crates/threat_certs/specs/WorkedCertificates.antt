-- Some certificates over the places x and y, worked out by hand: which are accepted, and which are not.
use Rattle.std.specs.Prelude.{pos, negsuc, List, [], ◌∷◌}
use Rattle.il_core.specs.declared.operator.Relation.TheVariants.{Ne, Lt, Le, Ge}
use Rattle.sym_simplify.specs.Form.{times, Form, constant, part, place, pair}
use Rattle.sym_simplify.specs.Literal.{LiteralForm, keep, never}
use Rattle.il_core.specs.declared.certificate.Item.{Item}
use Rattle.il_core.specs.declared.certificate.Item.TheVariants.{Up, Down, Never}
use Rattle.il_core.specs.Certificate.{Certificate, sum, split}
use Rattle.cert_rules.specs.Acceptance.{IsAccepted}

-- these items, once each
abbrev pub both : Item → Item → Certificate
both i j = sum (record { item = i; times = 1 } ∷ record { item = j; times = 1 } ∷ [])

abbrev pub x : Form
x = part (pos 1) (place 0) (constant (pos 0))

abbrev pub y : Form
y = part (pos 1) (place 1) (constant (pos 0))

-- x*y < 3, x*y >= 3
abbrev pub products : List LiteralForm
products = keep (part (pos 1) (pair times x y) (constant (pos 0))) Lt (pos 3) ∷ keep (part (pos 1) (pair times x y) (constant (pos 0))) Ge (pos 3) ∷ []

-- 2*x - 2*y <= 1, 2*x - 2*y >= 1
abbrev pub twice_apart : Form
twice_apart = part (pos 2) (place 0) (part (negsuc 1) (place 1) (constant (pos 0)))

abbrev pub odd : List LiteralForm
odd = keep twice_apart Le (pos 1) ∷ keep twice_apart Ge (pos 1) ∷ []

-- x <= 0, x >= 0
abbrev pub zero_alone : List LiteralForm
zero_alone = keep x Le (pos 0) ∷ keep x Ge (pos 0) ∷ []

-- x /= 0, x <= 0, x >= 0
abbrev pub other_than_zero : List LiteralForm
other_than_zero = keep x Ne (pos 0) ∷ zero_alone

pub record WorkedCertificates : Type 0 where
  pub product : IsAccepted [] 1 products (both (Up 0) (Down 1))
  pub wrong_side : IsAccepted [] 1 products (both (Up 0) (Up 1)) → ⊥
  pub common_factor : IsAccepted [] 1 odd (both (Up 0) (Down 1))
  pub sum_of_zero : IsAccepted [] 1 zero_alone (both (Up 0) (Down 1)) → ⊥
  pub split_unequal : IsAccepted [] 1 other_than_zero (split 0 (both (Up 0) (Down 2)) (both (Down 0) (Up 1)))
  pub split_other : (low high : Certificate) → IsAccepted [] 1 other_than_zero (split 1 low high) → ⊥
  pub no_share : IsAccepted [] 1 (never ∷ []) (sum []) → ⊥
  pub never_holds : IsAccepted [] 1 (never ∷ []) (sum (record { item = Never 0; times = 1 } ∷ []))
