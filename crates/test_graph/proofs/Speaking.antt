-- The decisions of a checked line speak of the procedure's places alone.
use Rattle.std.proofs.Common.{◌≡◌, refl, sym, subst, ℕ, ◌<◌, pos, Bool, true, false, cond, Option, Some, None, List, map, length, slice_get, inl, inr}
use Rattle.std.specs.Prelude.{int_lt}
use Rattle.std.proofs.lemmas.Option.{slice_get_within}
use Rattle.il_core.specs.Expression as e
use Rattle.il_core.specs.Expression.{Expression}
use Rattle.il_core.specs.Bounds.{Bounds, bounds_of}
use Rattle.il_core.specs.Kind.{HasFlag, IsWhole, IsCondition}
use Rattle.il_core.specs.Procedure.{Procedure, Instruction, pre, assign, if_true, otherwise, end_if, loop, end_loop, exit, exit_when, label, goto, skip, assert, return, end_procedure}
use Rattle.il_core.specs.LineGraph.{IsIn}
use Rattle.il_core.specs.Checked.{IsChecked, FitsAt, Suits}
use Rattle.il_core.specs.declared.line.Place.{Place}
use Rattle.il_core.specs.declared.line.Halt.TheVariants.{DivZero, Range}
use Rattle.il_core.specs.declared.operator.BinOp.{BinOp}
use Rattle.il_core.specs.declared.operator.BinOp.TheVariants.{Add, Sub, Mul, Div, Mod, Compare, And, Or}
use Rattle.il_core.specs.declared.operator.Relation.TheVariants.{Ne, Le, Ge}
use Rattle.il_core.proofs.BoundsHold.{whole-sides}
use Rattle.sym_terms.specs.Tree.{Tree, number}
use Rattle.sym_terms.specs.Substitution.{HasPlacesBelow}
use Rattle.test_graph.specs.Term.{term_of, operator_term, wrapped_term}
use Rattle.test_graph.specs.Decision.{Decision, ask, done, sets, halts, holds_zero, lies_within, fitted_term, guarded, divided, decided_on, at_least, at_most, ranged, whole_given, bit_given, flag_given, given_to, decision_of, decision_there, decision_at}
use Rattle.test_graph.specs.Way.{Way, decided_true, decided_false, ways_of, line_paths}
use Rattle.test_graph.specs.Places.{DecidesPlacesBelow, SpeaksOfPlacesBelow}
use Rattle.test_graph.proofs.Leaves.{in-joined, in-mapped}

place-within : (places : List Place) (p : ℕ) (b : Bool) (o : Option Place) → slice_get places p ≡ o → HasFlag o b → p < length places
place-within places p b None e h = absurd h
place-within places p b (Some place) e h = slice_get_within places p place e

operator-below : (n : ℕ) (o : BinOp) (a b : Tree) → HasPlacesBelow n a → HasPlacesBelow n b → HasPlacesBelow n (operator_term o a b)
operator-below n Add a b x y = (x, y)
operator-below n Sub a b x y = (x, (tt, y))
operator-below n Mul a b x y = (x, y)
operator-below n Div a b x y = (x, y)
operator-below n Mod a b x y = (x, y)
operator-below n (Compare r) a b x y = tt
operator-below n And a b x y = tt
operator-below n Or a b x y = tt

-- the term of a well typed expression
pub term-below : (places : List Place) (x : Expression) → IsWhole places x → HasPlacesBelow (length places) (term_of x)
term-below places (e.number n) t = tt
term-below places (e.variable p) t = place-within places p false (slice_get places p) refl t
term-below places (e.flag p) t = absurd t
term-below places (e.truth b) t = absurd t
term-below places (e.minus a) t = (tt, term-below places a t)
term-below places (e.opposite a) t = absurd t
term-below places (e.two o a b) t =
    let sides = whole-sides o (IsWhole places a) (IsWhole places b) t in
    operator-below (length places) o (term_of a) (term_of b) (term-below places a sides.0) (term-below places b sides.1)

by_either : (n : ℕ) (b : Bool) (c d : Decision) → DecidesPlacesBelow n c → DecidesPlacesBelow n d → DecidesPlacesBelow n (cond b c d)
by_either n true c d x y = x
by_either n false c d x y = y

guarded-below : (places : List Place) (o : BinOp) (b : Expression) (rest fault : Decision) → IsWhole places b → DecidesPlacesBelow (length places) rest
    → DecidesPlacesBelow (length places) fault → DecidesPlacesBelow (length places) (guarded places o b rest fault)
guarded-below places Div b rest fault t x y =
    by_either (length places) (holds_zero (bounds_of places b)) (ask (record { left = term_of b; relation = Ne; right = number (pos 0) }) rest fault) rest
    ((term-below places b t, tt), x, y) x
guarded-below places Mod b rest fault t x y =
    by_either (length places) (holds_zero (bounds_of places b)) (ask (record { left = term_of b; relation = Ne; right = number (pos 0) }) rest fault) rest
    ((term-below places b t, tt), x, y) x
guarded-below places Add b rest fault t x y = x
guarded-below places Sub b rest fault t x y = x
guarded-below places Mul b rest fault t x y = x
guarded-below places (Compare r) b rest fault t x y = x
guarded-below places And b rest fault t x y = x
guarded-below places Or b rest fault t x y = x

divided-below : (places : List Place) (x : Expression) (rest fault : Decision) → IsWhole places x → DecidesPlacesBelow (length places) rest
    → DecidesPlacesBelow (length places) fault → DecidesPlacesBelow (length places) (divided places x rest fault)
divided-below places (e.number n) rest fault t x y = x
divided-below places (e.variable p) rest fault t x y = x
divided-below places (e.flag p) rest fault t x y = x
divided-below places (e.truth b) rest fault t x y = x
divided-below places (e.minus a) rest fault t x y = divided-below places a rest fault t x y
divided-below places (e.opposite a) rest fault t x y = x
divided-below places (e.two o a b) rest fault t x y =
    let sides = whole-sides o (IsWhole places a) (IsWhole places b) t in
    divided-below places a (divided places b (guarded places o b rest fault) fault) fault sides.0
    (divided-below places b (guarded places o b rest fault) fault sides.1 (guarded-below places o b rest fault sides.1 x y) y) y

decided-below : (places : List Place) (x : Expression) (on off fault : Decision) → IsCondition places x → DecidesPlacesBelow (length places) on
    → DecidesPlacesBelow (length places) off → DecidesPlacesBelow (length places) fault → DecidesPlacesBelow (length places) (decided_on places x on off fault)
decided-below places (e.number n) on off fault t x y z = z
decided-below places (e.variable p) on off fault t x y z = z
decided-below places (e.flag p) on off fault t x y z = ((place-within places p true (slice_get places p) refl t, tt), x, y)
decided-below places (e.truth true) on off fault t x y z = x
decided-below places (e.truth false) on off fault t x y z = y
decided-below places (e.minus a) on off fault t x y z = z
decided-below places (e.opposite a) on off fault t x y z = decided-below places a off on fault t y x z
decided-below places (e.two (Compare r) a b) on off fault t x y z =
    let asked = ask (record { left = term_of a; relation = r; right = term_of b }) on off in
    divided-below places a (divided places b asked fault) fault t.0
    (divided-below places b asked fault t.1 ((term-below places a t.0, term-below places b t.1), x, y) z) z
decided-below places (e.two And a b) on off fault t x y z =
    decided-below places a (decided_on places b on off fault) off fault t.0 (decided-below places b on off fault t.1 x y z) y z
decided-below places (e.two Or a b) on off fault t x y z =
    decided-below places a on (decided_on places b on off fault) fault t.0 x (decided-below places b on off fault t.1 x y z) z
decided-below places (e.two Add a b) on off fault t x y z = z
decided-below places (e.two Sub a b) on off fault t x y z = z
decided-below places (e.two Mul a b) on off fault t x y z = z
decided-below places (e.two Div a b) on off fault t x y z = z
decided-below places (e.two Mod a b) on off fault t x y z = z

fitted-below : (n : ℕ) (place : Place) (b : Bool) (t : Tree) → HasPlacesBelow n t → HasPlacesBelow n (cond b t (wrapped_term place t))
fitted-below n place true t h = h
fitted-below n place false t h = (tt, ((h, tt), tt))

ranged-below : (n pc p : ℕ) (place : Place) (b : Bounds) (t : Tree) → p < n → HasPlacesBelow n t → DecidesPlacesBelow n (ranged pc p place b t)
ranged-below n pc p place b t i h =
    let high = by_either n (int_lt place.greatest b.high) (ask (record { left = t; relation = Le; right = number place.greatest }) (sets pc p t) (halts (Range pc))) (sets pc p t) ((h, tt), (i, h), tt) (i, h) in
    by_either n place.wrap (sets pc p (fitted_term place b t)) (at_least place b t (at_most place b t (sets pc p t) (halts (Range pc))) (halts (Range pc)))
    (i, fitted-below n place (lies_within place b) t h)
    (by_either n (int_lt b.low place.least) (ask (record { left = t; relation = Ge; right = number place.least }) (at_most place b t (sets pc p t) (halts (Range pc))) (halts (Range pc))) (at_most place b t (sets pc p t) (halts (Range pc))) ((h, tt), high, tt) high)

bit-below : (places : List Place) (pc p : ℕ) (x : Expression) → p < length places → IsCondition places x → DecidesPlacesBelow (length places) (bit_given places pc p x)
bit-below places pc p x i t = decided-below places x (sets pc p (number (pos 1))) (sets pc p (number (pos 0))) (halts (DivZero pc)) t (i, tt) (i, tt) tt

flag-below : (places : List Place) (pc p : ℕ) (x : Expression) → p < length places → IsCondition places x → DecidesPlacesBelow (length places) (flag_given places pc p x)
flag-below places pc p (e.flag q) i t = (i, place-within places q true (slice_get places q) refl t)
flag-below places pc p (e.number n) i t = absurd t
flag-below places pc p (e.variable q) i t = absurd t
flag-below places pc p (e.truth b) i t = bit-below places pc p (e.truth b) i t
flag-below places pc p (e.minus a) i t = absurd t
flag-below places pc p (e.opposite a) i t = bit-below places pc p (e.opposite a) i t
flag-below places pc p (e.two o a b) i t = bit-below places pc p (e.two o a b) i t

given-below : (places : List Place) (pc p : ℕ) (place : Place) (x : Expression) → p < length places → Suits place.flag places x
    → DecidesPlacesBelow (length places) (given_to places pc p x (Some place))
given-below places pc p place x i t = by_flag place.flag t
  where
    by_flag : (b : Bool) → Suits b places x → DecidesPlacesBelow (length places) (cond b (flag_given places pc p x) (whole_given places pc p place x))
    by_flag true k = flag-below places pc p x i k
    by_flag false k =
        divided-below places x (ranged pc p place (bounds_of places x) (term_of x)) (halts (DivZero pc)) k
        (ranged-below (length places) pc p place (bounds_of places x) (term_of x) i (term-below places x k)) tt

line-below : (places : List Place) (count pc : ℕ) (i : Instruction) → FitsAt places count pc i → DecidesPlacesBelow (length places) (decision_of places pc i)
line-below places count pc (pre x) f = decided-below places x _ _ _ f.1.typed tt tt tt
line-below places count pc (assign p x) f =
    let a = f.1 in
    subst (λ (o : Option Place). DecidesPlacesBelow (length places) (given_to places pc p x o)) (sym a.there)
    (given-below places pc p a.target x (slice_get_within places p a.target a.there) a.typed)
line-below places count pc (if_true x q) f = decided-below places x _ _ _ f.2.typed tt tt tt
line-below places count pc (otherwise q) f = tt
line-below places count pc end_if f = tt
line-below places count pc loop f = tt
line-below places count pc (end_loop q) f = tt
line-below places count pc (exit q) f = tt
line-below places count pc (exit_when x q) f = decided-below places x _ _ _ f.2.typed tt tt tt
line-below places count pc label f = tt
line-below places count pc (goto q) f = tt
line-below places count pc skip f = tt
line-below places count pc (assert x) f = decided-below places x _ _ _ f.1.typed tt tt tt
line-below places count pc (return q) f = tt
line-below places count pc (end_procedure x) f = decided-below places x _ _ _ f.1.typed tt tt tt

there-below : (p : Procedure) (pc : ℕ) → IsChecked p → (o : Option Instruction) → slice_get p.lines pc ≡ o → DecidesPlacesBelow (length p.places) (decision_there p.places pc o)
there-below p pc c None h = tt
there-below p pc c (Some i) h = line-below p.places (length p.lines) pc i (c.fits pc i h)

-- the decisions of a line of a checked procedure
pub decides-below : (p : Procedure) (pc : ℕ) → IsChecked p → DecidesPlacesBelow (length p.places) (decision_at p pc)
unfolding decision_at
decides-below p pc c = there-below p pc c (slice_get p.lines pc) refl

-- a way through decisions
pub way-below : (n : ℕ) (d : Decision) (w : Way) → DecidesPlacesBelow n d → IsIn (ways_of d) w → SpeaksOfPlacesBelow n w
way-below n (done change next) w h (inl same) = subst (λ (v : Way). SpeaksOfPlacesBelow n v) same (record { compared = tt; changed = h })
way-below n (done change next) w h (inr i) = absurd i
way-below n (ask c met unmet) w h i = elim (in-joined (map (decided_true c) (ways_of met)) (map (decided_false c) (ways_of unmet)) w i) [
  | inl there ↦
      let v = in-mapped (decided_true c) (ways_of met) w there in
      let r = way-below n met v.0 h.1 v.1 in
      subst (λ (x : Way). SpeaksOfPlacesBelow n x) v.2 (record { compared = (h.0, r.compared); changed = r.changed })
  | inr there ↦
      let v = in-mapped (decided_false c) (ways_of unmet) w there in
      let r = way-below n unmet v.0 h.2 v.1 in
      subst (λ (x : Way). SpeaksOfPlacesBelow n x) v.2 (record { compared = (h.0, r.compared); changed = r.changed })
]

pub way-speaks : (p : Procedure) (pc : ℕ) (w : Way) → IsChecked p → IsIn (line_paths p pc) w → SpeaksOfPlacesBelow (length p.places) w
unfolding line_paths
way-speaks p pc w c i = way-below (length p.places) (decision_at p pc) w (decides-below p pc c) i
