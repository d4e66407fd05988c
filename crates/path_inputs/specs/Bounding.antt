-- Easy forms as constraints on the differences of places: a bound on a multiple is a bound on the places, divided by the factor and rounded to
-- the side that keeps the same whole numbers. And the places of a procedure as ranges, with each OLD copy equal to its variable at line 0.
use Rattle.std.specs.Prelude.{◌≡◌, ◌⊎◌, ℕ, zero, suc, ℤ, pos, negsuc, neg_ℤ, ◌+ℤ◌, ◌-ℤ◌, Bool, true, false, Option, Some, None, List, [], ◌∷◌, ◌++◌, length, take, drop, flat_map, slice_get}
use Rattle.std.specs.Int.{int_div_euclid}
use Rattle.il_core.specs.Run.{inout_from, variable_count}
use Rattle.il_core.specs.declared.line.Place.{Place}
use Rattle.il_core.specs.declared.operator.Relation.{Relation}
use Rattle.il_core.specs.declared.operator.Relation.TheVariants.{Eq, Ne, Lt, Le, Gt, Ge}
use Rattle.difference.specs.Answers.{sides, IsUnmet, IsFirst}
use Rattle.difference.specs.Constraints.{Meets, IsSolution}
use Rattle.difference.specs.declared.constraint.Range64.{Range64}
use Rattle.difference.specs.declared.constraint.Constraint.{Constraint}
use Rattle.difference.specs.declared.constraint.Split.{Split}
use Rattle.sym_simplify.specs.Literal.{LiteralForm, always, never, keep, literal_form_of}
use Rattle.sym_simplify.specs.declared.normal.LitForm.{LitForm}
use Rattle.sym_simplify.specs.Easy.{multiple_of}
use Rattle.sym_simplify.specs.declared.easy.Multiple.{Multiple}
use Rattle.path_inputs.specs.declared.reading.Reading.{Reading}
use Rattle.path_inputs.specs.declared.reading.Reading.TheVariants.{Free, One, Two, Either}

-- the multiple is at most b
abbrev pub at_most : Multiple → ℤ → Constraint
at_most m b = record { left = Some m.left; right = m.right; bound = int_div_euclid b m.coefficient }

-- the multiple is at least b
abbrev pub at_least : Multiple → ℤ → Constraint
at_least m b = record { left = m.right; right = Some m.left; bound = int_div_euclid (neg_ℤ b) m.coefficient }

-- 0 is at most -1
abbrev pub impossible : Constraint
impossible = record { left = None; right = None; bound = negsuc 0 }

abbrev pub either_side : Multiple → ℤ → Split
either_side m b = record { low = at_most m (b -ℤ pos 1); high = at_least m (b +ℤ pos 1) }

abbrev pub relation_reading : Multiple → Relation → ℤ → Reading
relation_reading m Eq b = Two (at_most m b) (at_least m b)
relation_reading m Ne b = Either (either_side m b)
relation_reading m Lt b = One (at_most m (b -ℤ pos 1))
relation_reading m Le b = One (at_most m b)
relation_reading m Gt b = One (at_least m (b +ℤ pos 1))
relation_reading m Ge b = One (at_least m b)

abbrev pub multiple_reading : Option Multiple → Relation → ℤ → Reading
multiple_reading None r b = Free
multiple_reading (Some m) r b = relation_reading m r b

-- what a form asks of the places: nothing where it is hard
abbrev pub reading_of : LiteralForm → Reading
reading_of always = Free
reading_of never = One impossible
reading_of (keep n r b) = multiple_reading (multiple_of n) r b

abbrev pub constraints_in : Reading → List Constraint
constraints_in Free = []
constraints_in (One c) = c ∷ []
constraints_in (Two c d) = c ∷ d ∷ []
constraints_in (Either s) = []

abbrev pub splits_in : Reading → List Split
splits_in Free = []
splits_in (One c) = []
splits_in (Two c d) = []
splits_in (Either s) = s ∷ []

abbrev pub constraints_of : LiteralForm → List Constraint
constraints_of f = constraints_in (reading_of f)

abbrev pub splits_of : LiteralForm → List Split
splits_of f = splits_in (reading_of f)

abbrev pub constraints_of_literal : LitForm → List Constraint
constraints_of_literal l = constraints_of (literal_form_of l)

abbrev pub splits_of_literal : LitForm → List Split
splits_of_literal l = splits_of (literal_form_of l)

abbrev pub range_of : Place → Range64
range_of p = record { least = p.least; greatest = p.greatest }

-- one place is at most another
abbrev pub not_above : ℕ → ℕ → Constraint
not_above p q = record { left = Some p; right = Some q; bound = pos 0 }

-- places from c on equal those named
abbrev pub equal_from : ℕ → List ℕ → List Constraint
equal_from c [] = []
equal_from c (k ∷ ks) = not_above c k ∷ not_above k c ∷ equal_from (suc c) ks

abbrev pub copies : List Place → ℕ → List Constraint
copies places zero = equal_from (variable_count places) (inout_from 0 places)
copies places (suc pc) = []

-- the constraints of an input that meets the plain ones of the forms
abbrev pub all_constraints : List Place → ℕ → List LiteralForm → List Constraint
all_constraints places pc fs = copies places pc ++ flat_map constraints_of fs

-- values meet a side of the split
abbrev pub MeetsEither : List ℤ → Split → Type 0
MeetsEither vals s = Meets vals s.low ⊎ Meets vals s.high

-- whether some solution meets a side of the split and of each other one
abbrev pub IsJudged : List Range64 → List Constraint → List Split → Bool → Type 0
IsJudged ranges cs splits true = (vals : List ℤ) × (choice : List Bool) × (length choice ≡ length splits) × IsSolution ranges (cs ++ sides choice splits) vals
IsJudged ranges cs splits false = IsUnmet ranges cs splits

-- whether this is so for each of the other splits
abbrev pub AreJudged : List Range64 → List Constraint → List Split → List Split → Bool → Type 0
AreJudged ranges cs splits others true = (j : ℕ) (s : Split) → slice_get others j ≡ Some s → IsJudged ranges cs (s ∷ splits) true
AreJudged ranges cs splits others false = (j : ℕ) × (s : Split) × (slice_get others j ≡ Some s) × IsJudged ranges cs (s ∷ splits) false

-- the first eight splits are solved together, and each of the others is judged beside them
abbrev pub IsAnswered : List Range64 → List Constraint → List Split → Option (List ℤ) → Type 0
IsAnswered ranges cs splits None = IsUnmet ranges cs (take 8 splits) ⊎ AreJudged ranges cs (take 8 splits) (drop 8 splits) false
IsAnswered ranges cs splits (Some vals) = IsFirst ranges cs (take 8 splits) vals × AreJudged ranges cs (take 8 splits) (drop 8 splits) true
