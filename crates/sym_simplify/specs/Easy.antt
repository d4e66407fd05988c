-- A form is easy where it always or never holds, or compares one place, or the difference of two, times a number.
use Rattle.std.specs.Prelude.{◌≡◌, ◌≤◌, ◌^◌, ℕ, ℤ, pos, neg_ℤ, Bool, true, false, Option, Some, None, is_some, if◌then◌else◌, unsigned_abs}
use Rattle.std.specs.Option.{option_map}
use Rattle.std.specs.Ordering.{int_eq}
use Rattle.il_core.specs.Evaluation.{of_both}
use Rattle.il_core.specs.declared.operator.Relation.{Relation}
use Rattle.il_core.specs.declared.operator.Relation.TheVariants.{Eq, Ne, Lt, Le, Gt, Ge}
use Rattle.sym_simplify.specs.Form.{Form, constant, part, Factor, place, pair}
use Rattle.sym_simplify.specs.Literal.{LiteralForm, always, never, keep, BeginsAboveZero}
use Rattle.sym_simplify.specs.Normal.{IsNormal, constant_of}
use Rattle.sym_simplify.specs.declared.easy.Multiple.{Multiple}

abbrev pub place_in : Factor → Option ℕ
place_in (place p) = Some p
place_in (pair k m n) = None

abbrev pub single : ℤ → ℕ → Multiple
single c p = record { coefficient = c; left = p; right = None }

abbrev pub double : ℤ → ℕ → ℕ → Multiple
double c p q = record { coefficient = c; left = p; right = Some q }

-- the difference of two places, where the atoms are places and their coefficients opposite
abbrev pub double_of : ℤ → Factor → ℤ → Factor → Option Multiple
double_of c a e b = if int_eq e (neg_ℤ c) then of_both (λ p q. Some (double c p q)) (place_in a) (place_in b) else None

-- the parts of a normal term where they are one place, or two with opposite coefficients; none otherwise
abbrev pub multiple_of : Form → Option Multiple
multiple_of (constant d) = None
multiple_of (part c a (constant d)) = option_map (single c) (place_in a)
multiple_of (part c a (part e b (constant d))) = double_of c a e b
multiple_of (part c a (part e b (part f x n))) = None

abbrev pub is_easy : LiteralForm → Bool
is_easy always = true
is_easy never = true
is_easy (keep n r bound) = is_some (multiple_of n)

abbrev pub is_other_than : Relation → Bool
is_other_than Eq = false
is_other_than Ne = true
is_other_than Lt = false
is_other_than Le = false
is_other_than Gt = false
is_other_than Ge = false

-- a form that asks for two different numbers
abbrev pub is_unequal : LiteralForm → Bool
is_unequal always = false
is_unequal never = false
is_unequal (keep n r bound) = is_other_than r

-- each coefficient is inside ±k
abbrev pub AreCoefficientsWithin : ℕ → Form → Type 0
AreCoefficientsWithin k (constant c) = Unit {0}
AreCoefficientsWithin k (part c a n) = (unsigned_abs c ≤ k) × AreCoefficientsWithin k n

-- what each literal's form has: a normal term with the constant 0 and a first coefficient above 0; its coefficients and the bound are inside ±2^100
abbrev pub IsKept : LiteralForm → Type 0
IsKept always = Unit {0}
IsKept never = Unit {0}
IsKept (keep n r bound) = IsNormal n × (constant_of n ≡ pos 0) × BeginsAboveZero n × AreCoefficientsWithin (2 ^ 100) n × (unsigned_abs bound ≤ 2 ^ 100)
