-- What is found of an item, of a share and of shares: a normal term of their summands, whose numbers are small, or that they have none.
use Rattle.std.specs.Prelude.{◌≡◌, ℕ, ◌≤◌, ℤ, pos, negsuc, Option, Some, None, List, [], ◌∷◌, map, slice_get, unwrap_or}
use Rattle.il_core.specs.declared.line.Place.{Place}
use Rattle.il_core.specs.declared.operator.Relation.{Relation}
use Rattle.il_core.specs.declared.operator.Relation.TheVariants.{Ne}
use Rattle.il_core.specs.declared.certificate.Share.{Share}
use Rattle.sym_simplify.specs.Form.{Form}
use Rattle.sym_simplify.specs.Norm.{Summand, alone, scaled, normal_of}
use Rattle.sym_simplify.specs.Literal.{LiteralForm, always, never, keep, literal_form_of}
use Rattle.sym_simplify.specs.declared.normal.LitForm.{LitForm}
use Rattle.cert_rules.specs.Quantity.{IsQuantity}
use Rattle.threat_certs.specs.Adding.{AreNumbersWithin, total_in}
use Rattle.sym_simplify.specs.Easy.{IsKept}
use Rattle.sym_simplify.specs.Held.{form_of}
use Rattle.threat_certs.specs.declared.quantity.Comparison.{Comparison}
use Rattle.threat_certs.specs.declared.adding.Total.{Total}

-- the literal with the relation of the side that is looked at, where it is split
abbrev pub on_side : LiteralForm → Option Relation → LiteralForm
on_side always o = always
on_side never o = never
on_side (keep n r b) o = keep n (unwrap_or o r) b

-- the forms of literals, each on the side that is looked at
abbrev pub on_sides : List LitForm → List (Option Relation) → List LiteralForm
on_sides [] os = []
on_sides (l ∷ ls) [] = literal_form_of l ∷ on_sides ls []
on_sides (l ∷ ls) (o ∷ os) = on_side (literal_form_of l) o ∷ on_sides ls os

-- n is the normal term of summands that are such, and its numbers are inside ±k
pub record IsNormalOf (k : ℕ) (P : List Summand → Type 0) (n : Form) : Type 0 where
  pub summands : List Summand
  pub are : P summands
  pub form : n ≡ normal_of summands
  pub small : AreNumbersWithin k n

-- the normal term of summands that are such; none where there are no such summands
abbrev pub IsMeasured : ℕ → (List Summand → Type 0) → Option Total → Type 0
IsMeasured k P None = (q : List Summand) → P q → ⊥
IsMeasured k P (Some t) = IsNormalOf k P (total_in t)

-- the quantity of a share as often as its factor says, which is 1 to 65,536
abbrev pub IsShareOf : List Place → ℕ → List LiteralForm → Share → List Summand → Type 0
IsShareOf places pc fs share q = (1 ≤ share.times) × (share.times ≤ 65536)
    × ((here : List Summand) × IsQuantity places pc fs share.item here × (q ≡ map (scaled (pos share.times)) here))

abbrev pub form_in : Comparison → LiteralForm
form_in c = keep (form_of c.kept.now.sum) c.relation c.kept.now.bound

-- what the literal compares, where there is one that compares
abbrev pub IsComparison : Option LiteralForm → Option Comparison → Type 0
IsComparison o None = (n : Form) (r : Relation) (b : ℤ) → o ≡ Some (keep n r b) → ⊥
IsComparison o (Some c) = (o ≡ Some (form_in c)) × IsKept (form_in c)

-- the literal at a position is a `/=`
abbrev pub IsUnequalAt : List LiteralForm → ℕ → Type 0
IsUnequalAt fs i = (n : Form) × (b : ℤ) × (slice_get fs i ≡ Some (keep n Ne b))

-- the literal never holds, and this is its quantity
abbrev pub IsNeverOf : LiteralForm → List Summand → Type 0
IsNeverOf f q = (f ≡ never) × (q ≡ alone (negsuc 0) ∷ [])
