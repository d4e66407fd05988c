-- The quantity of an item: a sum of numbers and atoms that is at least 0 in each input that meets the literals. That of a literal is how far
-- its parts, divided by their greatest common factor, are from the greatest or the least whole number that it allows.
use Rattle.std.specs.Prelude.{◌≡◌, ℕ, ◌+◌, ◌≤◌, ℤ, pos, negsuc, neg_ℤ, ◌+ℤ◌, ◌-ℤ◌, Option, Some, None, List, [], ◌∷◌, map, slice_get}
use Rattle.std.specs.Int.{int_div_euclid}
use Rattle.il_core.specs.Run.{inout_from, variable_count}
use Rattle.il_core.specs.declared.line.Place.{Place}
use Rattle.il_core.specs.declared.operator.Relation.{Relation}
use Rattle.il_core.specs.declared.operator.Relation.TheVariants.{Eq, Ne, Lt, Le, Gt, Ge}
use Rattle.sym_simplify.specs.Form.{Form, constant, part, place}
use Rattle.sym_simplify.specs.Norm.{Summand, alone, often, scaled}
use Rattle.sym_simplify.specs.Merge.{scale_parts}
use Rattle.sym_simplify.specs.Literal.{LiteralForm, never, keep}
use Rattle.il_core.specs.declared.certificate.Item.{Item}
use Rattle.il_core.specs.declared.certificate.Item.TheVariants.{Up, Down, Never, Low, High, OldUp, OldDown}

-- the greatest whole number that a relation to a bound allows, and the least; none where there is none
abbrev pub highest : Relation → ℤ → Option ℤ
highest Eq b = Some b
highest Ne b = None
highest Lt b = Some (b -ℤ pos 1)
highest Le b = Some b
highest Gt b = None
highest Ge b = None

abbrev pub lowest : Relation → ℤ → Option ℤ
lowest Eq b = Some b
lowest Ne b = None
lowest Lt b = None
lowest Le b = None
lowest Gt b = Some (b +ℤ pos 1)
lowest Ge b = Some b

-- n is g times m, and no times a greater number
pub record IsReduced (n : Form) (g : ℕ) (m : Form) : Type 0 where
  pub multiple : scale_parts (pos g) m ≡ n
  pub greatest : (d : ℕ) (other : Form) → scale_parts (pos d) other ≡ n → d ≤ g

-- the summands of a normal term
abbrev pub summands_in : Form → List Summand
summands_in (constant c) = alone c ∷ []
summands_in (part c a n) = often c a ∷ summands_in n

-- c times a normal term, and a number
abbrev pub times_and : ℤ → Form → ℤ → List Summand
times_and c m d = alone d ∷ map (scaled c) (summands_in m)

-- the literal allows no more than a number: the quotient of that number, rounded down, less the reduced parts
pub record IsUp (f : LiteralForm) (q : List Summand) : Type 0 where
  pub parts : Form
  pub relation : Relation
  pub bound : ℤ
  pub kept : f ≡ keep parts relation bound
  pub most : ℤ
  pub allowed : highest relation bound ≡ Some most
  pub factor : ℕ
  pub reduced : Form
  pub divided : IsReduced parts factor reduced
  pub quantity : q ≡ times_and (negsuc 0) reduced (int_div_euclid most (pos factor))

-- the literal allows no less than a number: the reduced parts less the quotient of that number, rounded up
pub record IsDown (f : LiteralForm) (q : List Summand) : Type 0 where
  pub parts : Form
  pub relation : Relation
  pub bound : ℤ
  pub kept : f ≡ keep parts relation bound
  pub fewest : ℤ
  pub allowed : lowest relation bound ≡ Some fewest
  pub factor : ℕ
  pub reduced : Form
  pub divided : IsReduced parts factor reduced
  pub quantity : q ≡ times_and (pos 1) reduced (int_div_euclid (neg_ℤ fewest) (pos factor))

-- place p is the OLD copy of place v
pub record IsCopyOf (places : List Place) (v p : ℕ) : Type 0 where
  pub number : ℕ
  pub copied : slice_get (inout_from 0 places) number ≡ Some v
  pub behind : p ≡ variable_count places + number

-- one place less another
abbrev pub less : ℕ → ℕ → List Summand
less p q = often (pos 1) (place p) ∷ often (negsuc 0) (place q) ∷ []

-- the item has this quantity; it has none where it is not allowed
abbrev pub IsQuantity : List Place → ℕ → List LiteralForm → Item → List Summand → Type 0
IsQuantity places pc fs (Up i) q = (f : LiteralForm) × (slice_get fs i ≡ Some f) × IsUp f q
IsQuantity places pc fs (Down i) q = (f : LiteralForm) × (slice_get fs i ≡ Some f) × IsDown f q
IsQuantity places pc fs (Never i) q = (slice_get fs i ≡ Some never) × (q ≡ alone (negsuc 0) ∷ [])
IsQuantity places pc fs (Low p) q = (at : Place) × (slice_get places p ≡ Some at) × (q ≡ often (pos 1) (place p) ∷ alone (neg_ℤ at.least) ∷ [])
IsQuantity places pc fs (High p) q = (at : Place) × (slice_get places p ≡ Some at) × (q ≡ often (negsuc 0) (place p) ∷ alone at.greatest ∷ [])
IsQuantity places pc fs (OldUp p) q = (pc ≡ 0) × ((v : ℕ) × IsCopyOf places v p × (q ≡ less v p))
IsQuantity places pc fs (OldDown p) q = (pc ≡ 0) × ((v : ℕ) × IsCopyOf places v p × (q ≡ less p v))
