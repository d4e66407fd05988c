-- The way that a state in range takes through a line of a checked procedure is the step of the line machine.
use Rattle.std.proofs.Common.{◌≡◌, refl, sym, ap, ◌∙◌, ℕ, ◌+◌, ℤ, pos, ◌≤ℤ◌, Bool, true, false, ◌&&◌, cond, Option, Some, None, List, slice_get, slice_set, arith}
use Rattle.std.specs.Prelude.{int_lt, int_le}
use Rattle.std.specs.Option.{option_map}
use Rattle.std.proofs.lemmas.Int.{ints}
use Rattle.il_core.specs.Expression as e
use Rattle.il_core.specs.Expression.{Expression}
use Rattle.il_core.specs.Evaluation.{State, value_at, whole, holds}
use Rattle.il_core.specs.Bounds.{Bounds, bounds_of}
use Rattle.il_core.specs.Kind.{IsCondition, HasFlag}
use Rattle.il_core.specs.Machine.{goes, stays, decided, bit, lies_in, wrapped, kept, stored, assigned_to, assigned, stepped, stepped_at, step}
use Rattle.il_core.specs.Procedure.{Procedure, Instruction, pre, assign, if_true, otherwise, end_if, loop, end_loop, exit, exit_when, label, goto, skip, assert, return, end_procedure}
use Rattle.il_core.specs.LineGraph.{IsIn}
use Rattle.il_core.specs.Run.{IsInRange}
use Rattle.il_core.specs.Checked.{IsChecked, FitsAt, HasRange, Suits}
use Rattle.il_core.specs.declared.line.Place.{Place}
use Rattle.il_core.specs.declared.line.Halt.TheVariants.{DivZero, Range}
use Rattle.il_core.proofs.BoundsHold.{IsWithin, bounds-hold}
use Rattle.il_core.proofs.Wrapped.{wrapped_own}
use Rattle.sym_terms.specs.Tree.{Tree, number}
use Rattle.sym_terms.specs.Value.{value_of}
use Rattle.test_graph.specs.Term.{term_of, wrapped_term}
use Rattle.il_core.specs.declared.operator.Relation.TheVariants.{Le, Ge}
use Rattle.test_graph.specs.Decision.{ask, sets, halts, lies_within, fitted_term, at_least, at_most, ranged, whole_given, bit_given, flag_given, given_to, decision_of, decision_there, decision_at}
use Rattle.test_graph.specs.Way.{Way, line_paths, all_hold, way_taken, led_by}
use Rattle.test_graph.proofs.TermValue.{term_value, wrapped_value}
use Rattle.test_graph.proofs.Ends.{ended, led-taken, on_value, divided-ends, decided-ends}
use Rattle.test_graph.proofs.OneWay.{taken}

-- a place keeps a value of its range
kept-own : (p : Place) (v : ℤ) → p.least ≤ℤ v → v ≤ℤ p.greatest → kept p v ≡ Some v
kept-own p v l h = by_wrap p.wrap
  where
    inside : lies_in p v ≡ true
    inside = grind (arith, ints)

    by_wrap : (w : Bool) → cond w (Some (wrapped p v)) (cond (lies_in p v) (Some v) None) ≡ Some v
    by_wrap true = ap Some (wrapped_own p v l h)
    by_wrap false = ap (λ b. cond b (Some v) None) inside

-- a place for truth values keeps 0 and 1
kept-bit : (p : Place) → HasRange p → p.flag ≡ true → (b : Bool) → kept p (bit b) ≡ Some (bit b)
kept-bit p h f true = let k = h.bits f in kept-own p (pos 1) (omega (arith, ints, k.0)) (omega (arith, ints, k.1))
kept-bit p h f false = let k = h.bits f in kept-own p (pos 0) (omega (arith, ints, k.0)) (omega (arith, ints, k.1))

lies-means : (low high : ℤ) (p : Place) → (int_le p.least low && int_le high p.greatest) ≡ true → (p.least ≤ℤ low) × (high ≤ℤ p.greatest)
lies-means low high p h = by_test (int_le p.least low) refl h
  where
    by_test : (c : Bool) → int_le p.least low ≡ c → (c && int_le high p.greatest) ≡ true → (p.least ≤ℤ low) × (high ≤ℤ p.greatest)
    by_test true e k = (grind (arith, ints), grind (arith, ints))
    by_test false e k = absurd (cc)

-- the term that a wrapping place gets has the wrapped value
fitted-value : (p : Place) (b : Bounds) (t : Tree) (s : State) (v : ℤ) → p.least ≤ℤ p.greatest → IsWithin b v → value_of t s ≡ v
    → value_of (fitted_term p b t) s ≡ wrapped p v
fitted-value p b t s v h w k = by_test (lies_within p b) refl
  where
    by_test : (c : Bool) → lies_within p b ≡ c → value_of (cond c t (wrapped_term p t)) s ≡ wrapped p v
    by_test true e =
        let m = lies-means b.low b.high p e in
        let low : p.least ≤ℤ v = omega (arith, ints, m.0, w.low) in
        let high : v ≤ℤ p.greatest = omega (arith, ints, m.1, w.high) in
        k ∙ sym (wrapped_own p v low high)
    by_test false e = wrapped_value p t s h ∙ ap (wrapped p) k

-- the decisions on the range lead where the place keeps the value or does not
ranged-ends : (pc p : ℕ) (place : Place) (b : Bounds) (t : Tree) (s : State) (v : ℤ) → place.least ≤ℤ place.greatest → IsWithin b v → value_of t s ≡ v
    → ended (ranged pc p place b t) s ≡ stored pc p s (kept place v)
ranged-ends pc p place b t s v h w k = by_wrap place.wrap
  where
    by_high : (c d : Bool) → int_lt place.greatest b.high ≡ c → int_le v place.greatest ≡ d → int_le place.least v ≡ true
        → ended (cond c (ask (record { left = t; relation = Le; right = number place.greatest }) (sets pc p t) (halts (Range pc))) (sets pc p t)) s
        ≡ stored pc p s (cond (int_le place.least v && int_le v place.greatest) (Some v) None)
    by_high true true e f g = rw (k, g, f) refl
    by_high true false e f g = rw (k, g, f) refl
    by_high false true e f g = rw (k, g, f) refl
    by_high false false e f g = let top : v ≤ℤ b.high = w.high in absurd (let q : int_le v place.greatest ≡ true = grind (arith, ints) in cc)

    by_low : (c d : Bool) → int_lt b.low place.least ≡ c → int_le place.least v ≡ d
        → ended (cond c (ask (record { left = t; relation = Ge; right = number place.least }) (at_most place b t (sets pc p t) (halts (Range pc))) (halts (Range pc))) (at_most place b t (sets pc p t) (halts (Range pc)))) s
        ≡ stored pc p s (cond (int_le place.least v && int_le v place.greatest) (Some v) None)
    by_low true true e g =
        ap (λ y. cond (int_le place.least y) (ended (at_most place b t (sets pc p t) (halts (Range pc))) s) (stays (Range pc) s)) k ∙ ap (λ x. cond x (ended (at_most place b t (sets pc p t) (halts (Range pc))) s) (stays (Range pc) s)) g
        ∙ by_high (int_lt place.greatest b.high) (int_le v place.greatest) refl refl g
    by_low true false e g =
        ap (λ y. cond (int_le place.least y) (ended (at_most place b t (sets pc p t) (halts (Range pc))) s) (stays (Range pc) s)) k ∙ ap (λ x. cond x (ended (at_most place b t (sets pc p t) (halts (Range pc))) s) (stays (Range pc) s)) g
        ∙ ap (λ x. stored pc p s (cond (x && int_le v place.greatest) (Some v) None)) (sym g)
    by_low false true e g = by_high (int_lt place.greatest b.high) (int_le v place.greatest) refl refl g
    by_low false false e g = let bottom : b.low ≤ℤ v = w.low in absurd (let q : int_le place.least v ≡ true = grind (arith, ints) in cc)

    by_wrap : (c : Bool)
        → ended (cond c (sets pc p (fitted_term place b t)) (at_least place b t (at_most place b t (sets pc p t) (halts (Range pc))) (halts (Range pc)))) s
        ≡ stored pc p s (cond c (Some (wrapped place v)) (cond (lies_in place v) (Some v) None))
    by_wrap true = ap (λ x. goes (pc + 1) (slice_set s p x)) (fitted-value place b t s v h w k)
    by_wrap false = by_low (int_lt b.low place.least) (int_le place.least v) refl refl

-- an assignment of a whole number
whole-ends : (places : List Place) (s : State) (pc p : ℕ) (place : Place) (x : Expression) → IsInRange places s → Suits false places x → HasRange place
    → ended (whole_given places pc p place x) s ≡ assigned_to pc p place s (whole x s)
whole-ends places s pc p place x r t h =
    divided-ends places s r x t (ranged pc p place (bounds_of places x) (term_of x)) (halts (DivZero pc)) ∙ by_value (whole x s) refl
  where
    by_value : (o : Option ℤ) → whole x s ≡ o
        → on_value o (ended (ranged pc p place (bounds_of places x) (term_of x)) s) (stays (DivZero pc) s) ≡ assigned_to pc p place s o
    by_value None k = refl
    by_value (Some v) k = ranged-ends pc p place (bounds_of places x) (term_of x) s v h.ordered (bounds-hold places s r x v t k) (term_value x s v k)

-- a condition's 1 or 0
bit-ends : (places : List Place) (s : State) (pc p : ℕ) (place : Place) (x : Expression) → IsInRange places s → IsCondition places x → HasRange place → place.flag ≡ true
    → ended (bit_given places pc p x) s ≡ assigned_to pc p place s (option_map bit (holds x s))
bit-ends places s pc p place x r t h f =
    decided-ends places s r x t (sets pc p (number (pos 1))) (sets pc p (number (pos 0))) (halts (DivZero pc)) ∙ by_truth (holds x s)
  where
    by_truth : (o : Option Bool) → decided o (stays (DivZero pc) s) (goes (pc + 1) (slice_set s p (pos 1))) (goes (pc + 1) (slice_set s p (pos 0)))
        ≡ assigned_to pc p place s (option_map bit o)
    by_truth None = refl
    by_truth (Some true) = ap (stored pc p s) (sym (kept-bit place h f true))
    by_truth (Some false) = ap (stored pc p s) (sym (kept-bit place h f false))

-- a truth value in range is the bit of its test
own-bit : (v : ℤ) → pos 0 ≤ℤ v → v ≤ℤ pos 1 → bit (int_le (pos 1) v) ≡ v
own-bit v l h = by_test (int_le (pos 1) v) refl
  where
    by_test : (b : Bool) → int_le (pos 1) v ≡ b → bit b ≡ v
    by_test true e = grind (arith, ints)
    by_test false e = grind (arith, ints)

-- a copy of a truth value
copy-ends : (places : List Place) (s : State) (pc p : ℕ) (place : Place) (q : ℕ) → IsInRange places s → HasFlag (slice_get places q) true → HasRange place
    → place.flag ≡ true → ((k : ℕ) (x : Place) → slice_get places k ≡ Some x → HasRange x)
    → goes (pc + 1) (slice_set s p (value_at s q)) ≡ assigned_to pc p place s (option_map bit (holds (e.flag q) s))
copy-ends places s pc p place q r t h f all = by_place (slice_get places q) refl t
  where
    by_place : (o : Option Place) → slice_get places q ≡ o → HasFlag o true
        → goes (pc + 1) (slice_set s p (value_at s q)) ≡ assigned_to pc p place s (option_map bit (holds (e.flag q) s))
    by_place None e k = absurd k
    by_place (Some source) e k =
        let bits = (all q source e).bits k in
        let same : bit (int_le (pos 1) (value_at s q)) ≡ value_at s q =
        own-bit (value_at s q) (let l = r.least q source e in omega (arith, ints, bits.0)) (let l = r.greatest q source e in omega (arith, ints, bits.1)) in
        ap (λ v. goes (pc + 1) (slice_set s p v)) (sym same) ∙ ap (stored pc p s) (sym (kept-bit place h f (int_le (pos 1) (value_at s q))))

-- an assignment of a truth value
flag-ends : (places : List Place) (s : State) (pc p : ℕ) (place : Place) (x : Expression) → IsInRange places s → IsCondition places x → HasRange place
    → place.flag ≡ true → ((k : ℕ) (y : Place) → slice_get places k ≡ Some y → HasRange y)
    → ended (flag_given places pc p x) s ≡ assigned_to pc p place s (option_map bit (holds x s))
flag-ends places s pc p place (e.flag q) r t h f all = copy-ends places s pc p place q r t h f all
flag-ends places s pc p place (e.number n) r t h f all = absurd t
flag-ends places s pc p place (e.variable q) r t h f all = absurd t
flag-ends places s pc p place (e.truth b) r t h f all = bit-ends places s pc p place (e.truth b) r t h f
flag-ends places s pc p place (e.minus a) r t h f all = absurd t
flag-ends places s pc p place (e.opposite a) r t h f all = bit-ends places s pc p place (e.opposite a) r t h f
flag-ends places s pc p place (e.two o a b) r t h f all = bit-ends places s pc p place (e.two o a b) r t h f

-- an assignment
given-ends : (places : List Place) (s : State) (pc p : ℕ) (place : Place) (x : Expression) → IsInRange places s → Suits place.flag places x
    → slice_get places p ≡ Some place → ((k : ℕ) (y : Place) → slice_get places k ≡ Some y → HasRange y)
    → ended (given_to places pc p x (Some place)) s ≡ assigned pc p x s (Some place)
given-ends places s pc p place x r t there all = by_flag place.flag refl t
  where
    by_flag : (b : Bool) → place.flag ≡ b → Suits b places x
        → ended (cond b (flag_given places pc p x) (whole_given places pc p place x)) s ≡ assigned_to pc p place s (cond b (option_map bit (holds x s)) (whole x s))
    by_flag true f k = flag-ends places s pc p place x r k (all p place there) f all
    by_flag false f k = whole-ends places s pc p place x r k (all p place there)

-- an instruction that fits its line
pub line-ends : (places : List Place) (count pc : ℕ) (s : State) (i : Instruction) → IsInRange places s
    → ((k : ℕ) (y : Place) → slice_get places k ≡ Some y → HasRange y) → FitsAt places count pc i → ended (decision_of places pc i) s ≡ stepped places pc s i
line-ends places count pc s (pre x) r all f = decided-ends places s r x f.1.typed _ _ _
line-ends places count pc s (assign p x) r all f =
    let a = f.1 in
    ap (λ (o : Option Place). ended (given_to places pc p x o) s) a.there ∙ given-ends places s pc p a.target x r a.typed a.there all
    ∙ ap (λ (o : Option Place). assigned pc p x s o) (sym a.there)
line-ends places count pc s (if_true x q) r all f = decided-ends places s r x f.2.typed _ _ _
line-ends places count pc s (otherwise q) r all f = refl
line-ends places count pc s end_if r all f = refl
line-ends places count pc s loop r all f = refl
line-ends places count pc s (end_loop q) r all f = refl
line-ends places count pc s (exit q) r all f = refl
line-ends places count pc s (exit_when x q) r all f = decided-ends places s r x f.2.typed _ _ _
line-ends places count pc s label r all f = refl
line-ends places count pc s (goto q) r all f = refl
line-ends places count pc s skip r all f = refl
line-ends places count pc s (assert x) r all f = decided-ends places s r x f.1.typed _ _ _
line-ends places count pc s (return q) r all f = refl
line-ends places count pc s (end_procedure x) r all f = decided-ends places s r x f.1.typed _ _ _

at-ends : (p : Procedure) (pc : ℕ) (s : State) → IsChecked p → IsInRange p.places s → (o : Option Instruction) → slice_get p.lines pc ≡ o
    → ended (decision_there p.places pc o) s ≡ stepped_at p.places pc s o
at-ends p pc s c r None h = refl
at-ends p pc s c r (Some i) h = line-ends p.places _ pc s i r c.ranges (c.fits pc i h)

-- the decisions of a line lead where the line machine steps
pub step-ends : (p : Procedure) (pc : ℕ) (s : State) → IsChecked p → IsInRange p.places s → ended (decision_at p pc) s ≡ step p pc s
unfolding decision_at step
step-ends p pc s c r = at-ends p pc s c r (slice_get p.lines pc) refl

-- the way that a state takes is its step
pub step-taken : (p : Procedure) (pc : ℕ) (s : State) → IsChecked p → IsInRange p.places s → step p pc s ≡ led_by (way_taken (decision_at p pc) s) s
step-taken p pc s c r = sym (step-ends p pc s c r) ∙ sym (led-taken (decision_at p pc) s)

-- a way whose literals hold is the step
pub way-step : (p : Procedure) (pc : ℕ) (s : State) (w : Way) → IsChecked p → IsInRange p.places s → IsIn (line_paths p pc) w → all_hold w.literals s ≡ true
    → step p pc s ≡ led_by w s
unfolding line_paths
way-step p pc s w c r i h = step-taken p pc s c r ∙ ap (λ (v : Way). led_by v s) (taken (decision_at p pc) s w i h)
