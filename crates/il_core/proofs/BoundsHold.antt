-- The value that evaluation gives in a state in range lies within the static bounds.
use Rattle.std.proofs.Common.{◌≡◌, ◌≢◌, refl, ℕ, ◌≤◌, max, ℤ, pos, neg_ℤ, ◌+ℤ◌, ◌-ℤ◌, ◌*ℤ◌, ◌≤ℤ◌, ◌<ℤ◌, unsigned_abs, Bool, true, false, ◌&&◌, cond, Option, Some, None, List, slice_get, arith}
use Rattle.std.specs.Prelude.{int_lt, int_le}
use Rattle.std.proofs.lemmas.Int.{ints, clamps}
use Rattle.std.proofs.lemmas.Bool.Decides.{Decides-int_eq}
use Rattle.std.specs.Int.{int_div_euclid, int_rem_euclid, int_max}
use Rattle.std.specs.Ordering.{int_eq}
use Rattle.std.specs.Option.{option_map}
use Rattle.il_core.specs.Expression.{Expression, number, variable, flag, truth, minus, opposite, two}
use Rattle.il_core.specs.Evaluation.{State, value_at, calculated, of_both, whole}
use Rattle.il_core.specs.Bounds.{Bounds, spanning, reach, is_positive_constant, are_natural, quotient_bounds, remainder_bounds, operator_bounds, place_bounds, bounds_of}
use Rattle.il_core.specs.Kind.{HasFlag, WholeSides, IsWhole}
use Rattle.il_core.specs.Run.{IsInRange}
use Rattle.il_core.specs.declared.line.Place.{Place}
use Rattle.il_core.specs.declared.operator.BinOp.{BinOp}
use Rattle.il_core.specs.declared.operator.BinOp.TheVariants.{Add, Sub, Mul, Div, Mod, Compare, And, Or}
use Rattle.il_core.proofs.Integers.{remainder-low, remainder-high, quotient-abs, quotient-natural, quotient-monotone, product-between, product-between_right, least-of_four, greatest-of_four}

pub record IsWithin (a : Bounds) (v : ℤ) : Type 0 where
  pub low : a.low ≤ℤ v
  pub high : v ≤ℤ a.high

-- an outcome that is none at 0 and there is not none
pub unless_zero : (b t v : ℤ) → cond (int_eq b (pos 0)) None (Some t) ≡ Some v → (b ≢ pos 0) × (t ≡ v)
unless_zero b t v = by_test (int_eq b (pos 0)) refl
  where
    by_test : (c : Bool) → int_eq b (pos 0) ≡ c → cond c None (Some t) ≡ Some v → (b ≢ pos 0) × (t ≡ v)
    by_test true e h = absurd (cc)
    by_test false e h = ((λ z. absurd (let k = (Decides-int_eq b (pos 0)).1 z in cc)), cc)

both-some : {A B C : Type 0} (f : A → B → Option C) (a : Option A) (b : Option B) (v : C) → of_both f a b ≡ Some v
    → (x : A) × (y : B) × (a ≡ Some x) × (b ≡ Some y) × (f x y ≡ Some v)
both-some f None b v h = absurd (cc)
both-some f (Some x) None v h = absurd (cc)
both-some f (Some x) (Some y) v h = (x, y, refl, refl, h)

product-within : (a b : Bounds) (x y : ℤ) → IsWithin a x → IsWithin b y
    → IsWithin (spanning (a.low *ℤ b.low) (a.low *ℤ b.high) (a.high *ℤ b.low) (a.high *ℤ b.high)) (x *ℤ y)
product-within a b x y p q =
    let u = product-between_right b.low b.high a.low y q.low q.high in
    let v = product-between_right b.low b.high a.high y q.low q.high in
    let w = product-between a.low a.high x y p.low p.high in
    record { low = least-of_four _ _ _ _ _ _ _ u v w; high = greatest-of_four _ _ _ _ _ _ _ u v w }

constant-means : (b : Bounds) → is_positive_constant b ≡ true → (b.low ≡ b.high) × (pos 0 <ℤ b.low)
constant-means b h = by_test (int_eq b.low b.high) refl h
  where
    by_test : (c : Bool) → int_eq b.low b.high ≡ c → (c && int_lt (pos 0) b.low) ≡ true → (b.low ≡ b.high) × (pos 0 <ℤ b.low)
    by_test true e k = ((Decides-int_eq b.low b.high).0 e, grind (arith, ints))
    by_test false e k = absurd (cc)

natural-means : (a b : Bounds) → are_natural a b ≡ true → (pos 0 ≤ℤ a.low) × (pos 0 ≤ℤ b.low)
natural-means a b h = by_test (int_le (pos 0) a.low) refl h
  where
    by_test : (c : Bool) → int_le (pos 0) a.low ≡ c → (c && int_le (pos 0) b.low) ≡ true → (pos 0 ≤ℤ a.low) × (pos 0 ≤ℤ b.low)
    by_test true e k = (grind (arith, ints), grind (arith, ints))
    by_test false e k = absurd (cc)

-- a number that is no further from 0 than one between l and h
within_reach : (l h x t : ℤ) → l ≤ℤ x → x ≤ℤ h → unsigned_abs t ≤ unsigned_abs x
    → (neg_ℤ (pos (max (unsigned_abs l) (unsigned_abs h))) ≤ℤ t) × (t ≤ℤ pos (max (unsigned_abs l) (unsigned_abs h)))
within_reach l h x t p q r = (omega (arith, ints), omega (arith, ints))

quotient-within : (a b : Bounds) (x y : ℤ) → IsWithin a x → IsWithin b y → y ≢ pos 0 → IsWithin (quotient_bounds a b) (int_div_euclid x y)
quotient-within a b x y p q n = by_constant (is_positive_constant b) refl
  where
    small : unsigned_abs (int_div_euclid x y) ≤ unsigned_abs x
    small = quotient-abs x y n

    by_natural : (c : Bool) → are_natural a b ≡ c
        → IsWithin (cond c (record { low = pos 0; high = a.high }) (record { low = neg_ℤ (pos (reach a)); high = pos (reach a) })) (int_div_euclid x y)
    by_natural true e =
        let m = natural-means a b e in
        let natural : pos 0 ≤ℤ x = omega (arith, ints, m.0, p.low) in
        let divisor : pos 0 ≤ℤ y = omega (arith, ints, m.1, q.low) in
        let s : unsigned_abs (int_div_euclid x y) ≤ unsigned_abs x = quotient-abs x y n in
        record { low = quotient-natural x y natural divisor; high = omega (arith, ints, s, natural, p.high) }
    by_natural false e =
        let w = within_reach a.low a.high x (int_div_euclid x y) p.low p.high (quotient-abs x y n) in
        record { low = w.0; high = w.1 }

    by_constant : (c : Bool) → is_positive_constant b ≡ c
        → IsWithin (cond c (record { low = int_div_euclid a.low b.low; high = int_div_euclid a.high b.low })
        (cond (are_natural a b) (record { low = pos 0; high = a.high }) (record { low = neg_ℤ (pos (reach a)); high = pos (reach a) }))) (int_div_euclid x y)
    by_constant true e =
        let m = constant-means b e in
        let same : y ≡ b.low = omega (arith, ints, m.0, q.low, q.high) in
        rw same (record { low = quotient-monotone a.low x b.low m.1 p.low; high = quotient-monotone x a.high b.low m.1 p.high })
    by_constant false e = by_natural (are_natural a b) refl

remainder-within : (b : Bounds) (x y : ℤ) → IsWithin b y → y ≢ pos 0 → IsWithin (remainder_bounds b) (int_rem_euclid x y)
remainder-within b x y q n =
    let r = remainder-high x y n in
    let w = within_reach b.low b.high y y q.low q.high (omega arith) in
    record { low = remainder-low x y n; high = below_reach b.low b.high y (int_rem_euclid x y) q.low q.high r }
  where
    below_reach : (l h z t : ℤ) → l ≤ℤ z → z ≤ℤ h → t <ℤ pos (unsigned_abs z)
        → t ≤ℤ int_max (pos 0) (pos (max (unsigned_abs l) (unsigned_abs h)) -ℤ pos 1)
    below_reach l h z t a c d = omega (arith, ints, clamps)

-- the bounds of an operator hold of what it makes of values within the bounds of its sides
pub operator-within : (o : BinOp) (a b : Bounds) (x y v : ℤ) → IsWithin a x → IsWithin b y → calculated o x y ≡ Some v → IsWithin (operator_bounds o a b) v
operator-within Add a b x y v p q h = let e : x +ℤ y ≡ v = cc in rw (← e) (record { low = omega (arith, ints); high = omega (arith, ints) })
operator-within Sub a b x y v p q h = let e : x -ℤ y ≡ v = cc in rw (← e) (record { low = omega (arith, ints); high = omega (arith, ints) })
operator-within Mul a b x y v p q h = let e : x *ℤ y ≡ v = cc in rw (← e) (product-within a b x y p q)
operator-within Div a b x y v p q h = let e = unless_zero y (int_div_euclid x y) v h in rw (← e.1) (quotient-within a b x y p q e.0)
operator-within Mod a b x y v p q h = let e = unless_zero y (int_rem_euclid x y) v h in rw (← e.1) (remainder-within b x y q e.0)
operator-within (Compare r) a b x y v p q h = absurd (cc)
operator-within And a b x y v p q h = absurd (cc)
operator-within Or a b x y v p q h = absurd (cc)

-- what a variable that exists holds in a state in range
place-within : (places : List Place) (s : State) (p : ℕ) (f : Bool) (o : Option Place) → IsInRange places s → slice_get places p ≡ o → HasFlag o f
    → IsWithin (place_bounds o) (value_at s p)
place-within places s p f None r e h = absurd h
place-within places s p f (Some place) r e h = record { low = r.least p place e; high = r.greatest p place e }

-- the sides of an operator for whole numbers are for whole numbers
pub whole-sides : (o : BinOp) (a b : Type 0) → WholeSides o a b → a × b
whole-sides Add a b h = h
whole-sides Sub a b h = h
whole-sides Mul a b h = h
whole-sides Div a b h = h
whole-sides Mod a b h = h
whole-sides (Compare r) a b h = absurd h
whole-sides And a b h = absurd h
whole-sides Or a b h = absurd h

negated-within : (a : Bounds) (o : Option ℤ) (v : ℤ) → ((x : ℤ) → o ≡ Some x → IsWithin a x) → option_map neg_ℤ o ≡ Some v
    → IsWithin (record { low = neg_ℤ a.high; high = neg_ℤ a.low }) v
negated-within a None v f h = absurd (cc)
negated-within a (Some x) v f h =
    let w = f x refl in let e : neg_ℤ x ≡ v = cc in rw (← e) (record { low = omega (arith, ints, w.high); high = omega (arith, ints, w.low) })

-- the value of a well typed expression in a state in range lies within its static bounds
pub bounds-hold : (places : List Place) (s : State) → IsInRange places s → (e : Expression) (v : ℤ) → IsWhole places e → whole e s ≡ Some v
    → IsWithin (bounds_of places e) v
bounds-hold places s r (number n) v t h = let e : n ≡ v = cc in rw (← e) (record { low = omega (arith, ints); high = omega (arith, ints) })
bounds-hold places s r (variable p) v t h =
    let e : value_at s p ≡ v = cc in rw (← e) (place-within places s p false (slice_get places p) r refl t)
bounds-hold places s r (flag p) v t h = absurd t
bounds-hold places s r (truth b) v t h = absurd t
bounds-hold places s r (minus e) v t h = negated-within (bounds_of places e) (whole e s) v (λ x k. bounds-hold places s r e x t k) h
bounds-hold places s r (opposite e) v t h = absurd t
bounds-hold places s r (two o a b) v t h =
    let sides = whole-sides o (IsWhole places a) (IsWhole places b) t in
    let found = both-some (calculated o) (whole a s) (whole b s) v h in
    operator-within o (bounds_of places a) (bounds_of places b) found.0 found.1 v
    (bounds-hold places s r a found.0 sides.0 found.2) (bounds-hold places s r b found.1 sides.1 found.3) found.4
