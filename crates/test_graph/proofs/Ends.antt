-- Where the decisions of an expression lead from a state in range.
use Rattle.std.proofs.Common.{◌≡◌, refl, sym, ap, ◌∙◌, ℤ, pos, neg_ℤ, ◌≤ℤ◌, Bool, true, false, not, ◌&&◌, cond, Option, Some, None, List, arith}
use Rattle.std.specs.Prelude.{int_le}
use Rattle.std.proofs.lemmas.Int.{ints}
use Rattle.std.specs.Int.{int_div_euclid, int_rem_euclid}
use Rattle.std.specs.Ordering.{int_eq}
use Rattle.std.specs.Option.{option_map}
use Rattle.il_core.specs.Expression as e
use Rattle.il_core.specs.Expression.{Expression}
use Rattle.il_core.specs.Evaluation.{State, value_at, whole, holds, calculated, compares, of_both, both_hold, either_holds}
use Rattle.il_core.specs.Machine.{Step, decided}
use Rattle.il_core.specs.Bounds.{bounds_of}
use Rattle.il_core.specs.Kind.{IsWhole, IsCondition, WholeSides}
use Rattle.il_core.specs.Run.{IsInRange}
use Rattle.il_core.specs.declared.line.Place.{Place}
use Rattle.il_core.specs.declared.operator.BinOp.{BinOp}
use Rattle.il_core.specs.declared.operator.BinOp.TheVariants.{Add, Sub, Mul, Div, Mod, Compare, And, Or}
use Rattle.il_core.specs.declared.operator.Relation.{Relation}
use Rattle.il_core.specs.declared.operator.Relation.TheVariants.{Ne}
use Rattle.il_core.proofs.BoundsHold.{bounds-hold, whole-sides}
use Rattle.sym_terms.specs.Tree.{number}
use Rattle.sym_terms.specs.Value.{value_of}
use Rattle.sym_terms.specs.Comparison.{comparison_holds}
use Rattle.test_graph.specs.Term.{term_of}
use Rattle.test_graph.specs.Decision.{Decision, ask, done, holds_zero, not_zero, guarded, divided, decided_on}
use Rattle.test_graph.specs.Way.{decided_true, decided_false, way_taken, led_by, state_behind}
use Rattle.test_graph.proofs.TermValue.{term_value}

-- where decisions lead from a state
abbrev pub ended : Decision → State → Step
ended (ask c met unmet) s = cond (comparison_holds c s) (ended met s) (ended unmet s)
ended (done change next) s = record { next = next; state = state_behind change s }

-- the way that a state takes leads there
pub led-taken : (d : Decision) (s : State) → led_by (way_taken d s) s ≡ ended d s
led-taken (done change next) s = refl
led-taken (ask c met unmet) s = by_test (comparison_holds c s) (led-taken met s) (led-taken unmet s)
  where
    by_test : (b : Bool) → led_by (way_taken met s) s ≡ ended met s → led_by (way_taken unmet s) s ≡ ended unmet s
        → led_by (cond b (decided_true c (way_taken met s)) (decided_false c (way_taken unmet s))) s ≡ cond b (ended met s) (ended unmet s)
    by_test true g h = g
    by_test false g h = h

-- a value leads on, a division by zero does not
abbrev pub on_value : Option ℤ → Step → Step → Step
on_value None rest fault = fault
on_value (Some v) rest fault = rest

on-mapped : (o : Option ℤ) (rest fault : Step) → on_value o rest fault ≡ on_value (option_map neg_ℤ o) rest fault
on-mapped None rest fault = refl
on-mapped (Some v) rest fault = refl

-- a number within bounds that do not hold 0 is not 0
pub outside-zero : (low y high : ℤ) → low ≤ℤ y → y ≤ℤ high → (int_le low (pos 0) && int_le (pos 0) high) ≡ false → int_eq y (pos 0) ≡ false
outside-zero low y high p q h = by_low (int_le low (pos 0)) refl h
  where
    by_low : (b : Bool) → int_le low (pos 0) ≡ b → (b && int_le (pos 0) high) ≡ false → int_eq y (pos 0) ≡ false
    by_low true e k = grind (arith, ints)
    by_low false e k = grind (arith, ints)

-- the decision that a divisor is not 0
zero-ends : (places : List Place) (s : State) → IsInRange places s → (b : Expression) → IsWhole places b → (rest fault : Decision) (y q : ℤ) → whole b s ≡ Some y
    → ended (not_zero places b rest fault) s ≡ on_value (cond (int_eq y (pos 0)) None (Some q)) (ended rest s) (ended fault s)
zero-ends places s r b t rest fault y q h = by_bounds (holds_zero (bounds_of places b)) refl
  where
    asked : (z : Bool) → cond (not z) (ended rest s) (ended fault s) ≡ on_value (cond z None (Some q)) (ended rest s) (ended fault s)
    asked true = refl
    asked false = refl

    by_bounds : (z : Bool) → holds_zero (bounds_of places b) ≡ z
        → ended (cond z (ask (record { left = term_of b; relation = Ne; right = number (pos 0) }) rest fault) rest) s
        ≡ on_value (cond (int_eq y (pos 0)) None (Some q)) (ended rest s) (ended fault s)
    by_bounds true e = ap (λ v. cond (not (int_eq v (pos 0))) (ended rest s) (ended fault s)) (term_value b s y h) ∙ asked (int_eq y (pos 0))
    by_bounds false e =
        let w = bounds-hold places s r b y t h in
        ap (λ z. on_value (cond z None (Some q)) (ended rest s) (ended fault s)) (sym (outside-zero (bounds_of places b).low y (bounds_of places b).high w.low w.high e))

guarded-ends : (places : List Place) (s : State) → IsInRange places s → (o : BinOp) (A : Type 0) (b : Expression) → WholeSides o A (IsWhole places b) → IsWhole places b
    → (rest fault : Decision) (x y : ℤ) → whole b s ≡ Some y
    → ended (guarded places o b rest fault) s ≡ on_value (calculated o x y) (ended rest s) (ended fault s)
guarded-ends places s r Add A b w t rest fault x y h = refl
guarded-ends places s r Sub A b w t rest fault x y h = refl
guarded-ends places s r Mul A b w t rest fault x y h = refl
guarded-ends places s r Div A b w t rest fault x y h = zero-ends places s r b t rest fault y (int_div_euclid x y) h
guarded-ends places s r Mod A b w t rest fault x y h = zero-ends places s r b t rest fault y (int_rem_euclid x y) h
guarded-ends places s r (Compare o) A b w t rest fault x y h = absurd w
guarded-ends places s r And A b w t rest fault x y h = absurd w
guarded-ends places s r Or A b w t rest fault x y h = absurd w

-- the left side first, then the right one, then the operator
two-ends : (o : BinOp) (u v : Option ℤ) (between rest fault : Step) → ((x y : ℤ) → u ≡ Some x → v ≡ Some y → between ≡ on_value (calculated o x y) rest fault)
    → on_value u (on_value v between fault) fault ≡ on_value (of_both (calculated o) u v) rest fault
two-ends o None v between rest fault k = refl
two-ends o (Some x) None between rest fault k = refl
two-ends o (Some x) (Some y) between rest fault k = k x y refl refl

-- the decisions of the divisors lead on exactly where the expression has a value
pub divided-ends : (places : List Place) (s : State) → IsInRange places s → (x : Expression) → IsWhole places x → (rest fault : Decision)
    → ended (divided places x rest fault) s ≡ on_value (whole x s) (ended rest s) (ended fault s)
divided-ends places s r (e.number n) t rest fault = refl
divided-ends places s r (e.variable p) t rest fault = refl
divided-ends places s r (e.flag p) t rest fault = absurd t
divided-ends places s r (e.truth b) t rest fault = absurd t
divided-ends places s r (e.minus a) t rest fault = divided-ends places s r a t rest fault ∙ on-mapped (whole a s) (ended rest s) (ended fault s)
divided-ends places s r (e.opposite a) t rest fault = absurd t
divided-ends places s r (e.two o a b) t rest fault =
    let sides = whole-sides o (IsWhole places a) (IsWhole places b) t in
    divided-ends places s r a sides.0 (divided places b (guarded places o b rest fault) fault) fault
    ∙ ap (λ (k : Step). on_value (whole a s) k (ended fault s)) (divided-ends places s r b sides.1 (guarded places o b rest fault) fault)
    ∙ two-ends o (whole a s) (whole b s) (ended (guarded places o b rest fault) s) (ended rest s) (ended fault s)
    (λ x y p q. guarded-ends places s r o (IsWhole places a) b t sides.1 rest fault x y q)

-- a truth that is known leads to one of two
decided-known : (b : Bool) (fault met unmet : Step) → cond b met unmet ≡ decided (Some b) fault met unmet
decided-known true fault met unmet = refl
decided-known false fault met unmet = refl

decided-opposite : (o : Option Bool) (fault met unmet : Step) → decided o fault unmet met ≡ decided (option_map not o) fault met unmet
decided-opposite None fault met unmet = refl
decided-opposite (Some true) fault met unmet = refl
decided-opposite (Some false) fault met unmet = refl

decided-and : (p q : Option Bool) (fault met unmet : Step) → decided p fault (decided q fault met unmet) unmet ≡ decided (both_hold p q) fault met unmet
decided-and None q fault met unmet = refl
decided-and (Some true) q fault met unmet = refl
decided-and (Some false) q fault met unmet = refl

decided-or : (p q : Option Bool) (fault met unmet : Step) → decided p fault met (decided q fault met unmet) ≡ decided (either_holds p q) fault met unmet
decided-or None q fault met unmet = refl
decided-or (Some true) q fault met unmet = refl
decided-or (Some false) q fault met unmet = refl

decided-compared : (o : Relation) (u v : Option ℤ) (a b : ℤ) (fault met unmet : Step) → ((x : ℤ) → u ≡ Some x → a ≡ x) → ((y : ℤ) → v ≡ Some y → b ≡ y)
    → on_value u (on_value v (cond (compares o a b) met unmet) fault) fault ≡ decided (of_both (λ x y. Some (compares o x y)) u v) fault met unmet
decided-compared o None v a b fault met unmet f g = refl
decided-compared o (Some x) None a b fault met unmet f g = refl
decided-compared o (Some x) (Some y) a b fault met unmet f g =
    rw (f x refl, g y refl) (decided-known (compares o x y) fault met unmet)

-- the decisions of a condition lead where its truth says
pub decided-ends : (places : List Place) (s : State) → IsInRange places s → (x : Expression) → IsCondition places x → (on off fault : Decision)
    → ended (decided_on places x on off fault) s ≡ decided (holds x s) (ended fault s) (ended on s) (ended off s)
decided-ends places s r (e.number n) t on off fault = absurd t
decided-ends places s r (e.variable p) t on off fault = absurd t
decided-ends places s r (e.flag p) t on off fault = decided-known (int_le (pos 1) (value_at s p)) (ended fault s) (ended on s) (ended off s)
decided-ends places s r (e.truth true) t on off fault = refl
decided-ends places s r (e.truth false) t on off fault = refl
decided-ends places s r (e.minus a) t on off fault = absurd t
decided-ends places s r (e.opposite a) t on off fault =
    decided-ends places s r a t off on fault ∙ decided-opposite (holds a s) (ended fault s) (ended on s) (ended off s)
decided-ends places s r (e.two (Compare o) a b) t on off fault =
    let asked = ask (record { left = term_of a; relation = o; right = term_of b }) on off in
    divided-ends places s r a t.0 (divided places b asked fault) fault
    ∙ ap (λ (k : Step). on_value (whole a s) k (ended fault s)) (divided-ends places s r b t.1 asked fault)
    ∙ decided-compared o (whole a s) (whole b s) (value_of (term_of a) s) (value_of (term_of b) s) (ended fault s) (ended on s) (ended off s)
    (term_value a s) (term_value b s)
decided-ends places s r (e.two And a b) t on off fault =
    decided-ends places s r a t.0 (decided_on places b on off fault) off fault
    ∙ ap (λ (k : Step). decided (holds a s) (ended fault s) k (ended off s)) (decided-ends places s r b t.1 on off fault)
    ∙ decided-and (holds a s) (holds b s) (ended fault s) (ended on s) (ended off s)
decided-ends places s r (e.two Or a b) t on off fault =
    decided-ends places s r a t.0 on (decided_on places b on off fault) fault
    ∙ ap (λ (k : Step). decided (holds a s) (ended fault s) (ended on s) k) (decided-ends places s r b t.1 on off fault)
    ∙ decided-or (holds a s) (holds b s) (ended fault s) (ended on s) (ended off s)
decided-ends places s r (e.two Add a b) t on off fault = absurd t
decided-ends places s r (e.two Sub a b) t on off fault = absurd t
decided-ends places s r (e.two Mul a b) t on off fault = absurd t
decided-ends places s r (e.two Div a b) t on off fault = absurd t
decided-ends places s r (e.two Mod a b) t on off fault = absurd t
