-- The numbers that come up in a well typed expression with small static bounds are small in each state in range.
use Rattle.std.proofs.Common.{◌≡◌, refl, sym, subst, ℤ, Option, Some, None, List, arith}
use Rattle.std.proofs.lemmas.Int.{ints}
use Rattle.il_core.specs.Expression.{Expression, number, variable, flag, truth, minus, opposite, two}
use Rattle.il_core.specs.Evaluation.{State, whole, calculated, of_both}
use Rattle.il_core.specs.Bounds.{Bounds, AreSmall, IsNarrow, bounds_of}
use Rattle.il_core.specs.Kind.{IsWhole, IsCondition}
use Rattle.il_core.specs.Run.{IsInRange}
use Rattle.il_core.specs.declared.line.Place.{Place}
use Rattle.il_core.specs.declared.operator.BinOp.{BinOp}
use Rattle.il_core.specs.declared.operator.BinOp.TheVariants.{Add, Sub, Mul, Div, Mod, Compare, And, Or}
use Rattle.il_core.proofs.BoundsHold.{IsWithin, bounds-hold, whole-sides}
use Rattle.line_machine.specs.Fits.{IsSmall, PartsFit}

-- a value within small bounds is small
within-small : (a : Bounds) (o : Option ℤ) → AreSmall a → ((v : ℤ) → o ≡ Some v → IsWithin a v) → IsSmall o
within-small a None s w = tt
within-small a (Some v) s w = let k = w v refl in omega (arith, ints, k.low, k.high, s.0, s.1)

-- of a numeric expression
pub whole-fits : (places : List Place) (s : State) → IsInRange places s → (e : Expression) → IsWhole places e → IsNarrow places e → PartsFit s e
whole-fits places s r (number n) t n' = n'.0
whole-fits places s r (variable p) t n = within-small (bounds_of places (variable p)) (whole (variable p) s) n (λ v. bounds-hold places s r (variable p) v t)
whole-fits places s r (flag p) t n = tt
whole-fits places s r (truth b) t n = tt
whole-fits places s r (minus e) t n =
    (whole-fits places s r e t n.0, within-small (bounds_of places (minus e)) (whole (minus e) s) n.1 (λ v. bounds-hold places s r (minus e) v t))
whole-fits places s r (opposite e) t n = absurd t
whole-fits places s r (two o a b) t n =
    let sides = whole-sides o (IsWhole places a) (IsWhole places b) t in (
      whole-fits places s r a sides.0 n.0,
      whole-fits places s r b sides.1 n.1,
      within-small (bounds_of places (two o a b)) (whole (two o a b) s) n.2 (λ v. bounds-hold places s r (two o a b) v t),
    )

-- an operator that makes no number of two numbers makes none of what is none or a number
no_outcome : (o : BinOp) → ((x y : ℤ) → calculated o x y ≡ None) → (u v : Option ℤ) → IsSmall (of_both (calculated o) u v)
no_outcome o n None v = tt
no_outcome o n (Some x) None = tt
no_outcome o n (Some x) (Some y) = subst IsSmall (sym (n x y)) tt

-- of a condition
pub condition-fits : (places : List Place) (s : State) → IsInRange places s → (e : Expression) → IsCondition places e → IsNarrow places e → PartsFit s e
condition-fits places s r (number n) t n' = absurd t
condition-fits places s r (variable p) t n = absurd t
condition-fits places s r (flag p) t n = tt
condition-fits places s r (truth b) t n = tt
condition-fits places s r (minus e) t n = absurd t
condition-fits places s r (opposite e) t n = condition-fits places s r e t n
condition-fits places s r (two (Compare o) a b) t n =
    (whole-fits places s r a t.0 n.0, whole-fits places s r b t.1 n.1, no_outcome (Compare o) (λ x y. refl) (whole a s) (whole b s))
condition-fits places s r (two And a b) t n = (condition-fits places s r a t.0 n.0, condition-fits places s r b t.1 n.1, no_outcome And (λ x y. refl) (whole a s) (whole b s))
condition-fits places s r (two Or a b) t n = (condition-fits places s r a t.0 n.0, condition-fits places s r b t.1 n.1, no_outcome Or (λ x y. refl) (whole a s) (whole b s))
condition-fits places s r (two Add a b) t n = absurd t
condition-fits places s r (two Sub a b) t n = absurd t
condition-fits places s r (two Mul a b) t n = absurd t
condition-fits places s r (two Div a b) t n = absurd t
condition-fits places s r (two Mod a b) t n = absurd t
