-- The value of an expression in a state, found from left to right: a whole number, a truth value, or none where a divisor is 0.
use Rattle.std.specs.Prelude.{ℕ, ℤ, pos, neg_ℤ, ◌+ℤ◌, ◌-ℤ◌, ◌*ℤ◌, Bool, true, false, not, Option, Some, None, List, if◌then◌else◌, int_lt, int_le, slice_index_or}
use Rattle.std.specs.Int.{int_div_euclid, int_rem_euclid}
use Rattle.std.specs.Ordering.{int_eq}
use Rattle.std.specs.Option.{option_map}
use Rattle.il_core.specs.Expression.{Expression, number, variable, flag, truth, minus, opposite, two}
use Rattle.il_core.specs.declared.operator.BinOp.{BinOp}
use Rattle.il_core.specs.declared.operator.BinOp.TheVariants.{Add, Sub, Mul, Div, Mod, Compare, And, Or}
use Rattle.il_core.specs.declared.operator.Relation.{Relation}
use Rattle.il_core.specs.declared.operator.Relation.TheVariants.{Eq, Ne, Lt, Le, Gt, Ge}

-- a state gives each place its value
abbrev pub State : Type 0
State = List ℤ

abbrev pub value_at : State → ℕ → ℤ
value_at s p = slice_index_or s p (pos 0)

-- what an operator makes of two whole numbers; none is division by zero. DIV and MOD are the quotient and the remainder
-- of the division whose remainder is at least 0 and below the divisor's absolute value
abbrev pub calculated : BinOp → ℤ → ℤ → Option ℤ
calculated Add a b = Some (a +ℤ b)
calculated Sub a b = Some (a -ℤ b)
calculated Mul a b = Some (a *ℤ b)
calculated Div a b = if int_eq b (pos 0) then None else Some (int_div_euclid a b)
calculated Mod a b = if int_eq b (pos 0) then None else Some (int_rem_euclid a b)
calculated (Compare r) a b = None
calculated And a b = None
calculated Or a b = None

abbrev pub compares : Relation → ℤ → ℤ → Bool
compares Eq a b = int_eq a b
compares Ne a b = not (int_eq a b)
compares Lt a b = int_lt a b
compares Le a b = int_le a b
compares Gt a b = int_lt b a
compares Ge a b = int_le b a

-- the left side first, then the right one; none where either is none
abbrev pub of_both : {A B C : Type 0} → (A → B → Option C) → Option A → Option B → Option C
of_both f None b = None
of_both f (Some a) None = None
of_both f (Some a) (Some b) = f a b

-- the whole number that an expression of that kind is in a state; none where a divisor is 0
abbrev pub whole : Expression → State → Option ℤ
whole (number n) s = Some n
whole (variable p) s = Some (value_at s p)
whole (flag p) s = None
whole (truth b) s = None
whole (minus e) s = option_map neg_ℤ (whole e s)
whole (opposite e) s = None
whole (two o a b) s = of_both (calculated o) (whole a s) (whole b s)

-- AND is decided by a false left side, OR by a true one; only then the right side is not evaluated
abbrev pub both_hold : Option Bool → Option Bool → Option Bool
both_hold None b = None
both_hold (Some false) b = Some false
both_hold (Some true) b = b

abbrev pub either_holds : Option Bool → Option Bool → Option Bool
either_holds None b = None
either_holds (Some true) b = Some true
either_holds (Some false) b = b

-- what an operator between two conditions, or a comparison, gives
abbrev pub decided_by : BinOp → Option ℤ → Option ℤ → Option Bool → Option Bool → Option Bool
decided_by (Compare r) a b p q = of_both (λ x y. Some (compares r x y)) a b
decided_by And a b p q = both_hold p q
decided_by Or a b p q = either_holds p q
decided_by Add a b p q = None
decided_by Sub a b p q = None
decided_by Mul a b p q = None
decided_by Div a b p q = None
decided_by Mod a b p q = None

-- the truth of a condition in a state; none where a divisor that is evaluated is 0
abbrev pub holds : Expression → State → Option Bool
holds (number n) s = None
holds (variable p) s = None
holds (flag p) s = Some (int_le (pos 1) (value_at s p))
holds (truth b) s = Some b
holds (minus e) s = None
holds (opposite e) s = option_map not (holds e s)
holds (two o a b) s = decided_by o (whole a s) (whole b s) (holds a s) (holds b s)
