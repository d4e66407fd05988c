-- The decisions that a state takes through a line are those of evaluation.
use Rattle.std.proofs.Common.{◌≡◌, refl, sym, ap, ◌∙◌, ℕ, ◌+◌, ℤ, pos, Bool, true, false, not, cond, Option, Some, None, List, [], ◌∷◌, ◌++◌, append_assoc}
use Rattle.std.proofs.lemmas.List.{append-nil}
use Rattle.std.specs.Prelude.{int_lt, int_le}
use Rattle.std.specs.Int.{int_div_euclid, int_rem_euclid}
use Rattle.std.specs.Ordering.{int_eq}
use Rattle.std.specs.Option.{option_map}
use Rattle.il_core.specs.Expression as e
use Rattle.il_core.specs.Expression.{Expression}
use Rattle.il_core.specs.Evaluation.{State, value_at, whole, holds, calculated, compares, of_both, both_hold, either_holds}
use Rattle.il_core.specs.Bounds.{Bounds, bounds_of}
use Rattle.il_core.specs.Kind.{IsWhole, IsCondition, WholeSides}
use Rattle.il_core.specs.Procedure.{Instruction, pre, assign, if_true, otherwise, end_if, loop, end_loop, exit, exit_when, label, goto, skip, assert, return, end_procedure}
use Rattle.il_core.specs.Run.{IsInRange}
use Rattle.il_core.specs.Checked.{FitsAt, Suits}
use Rattle.il_core.specs.declared.line.Place.{Place}
use Rattle.il_core.specs.declared.line.Halt.TheVariants.{End, Outside, FailedAssert, FailedPost, DivZero, Range}
use Rattle.il_core.specs.declared.operator.BinOp.{BinOp}
use Rattle.il_core.specs.declared.operator.BinOp.TheVariants.{Add, Sub, Mul, Div, Mod, Compare, And, Or}
use Rattle.il_core.specs.declared.operator.Relation.{Relation}
use Rattle.il_core.specs.declared.operator.Relation.TheVariants.{Ne, Le, Ge}
use Rattle.il_core.proofs.BoundsHold.{bounds-hold, whole-sides}
use Rattle.sym_terms.specs.Tree.{Tree, number}
use Rattle.sym_terms.specs.Value.{value_of}
use Rattle.sym_terms.specs.Comparison.{comparison_holds}
use Rattle.test_graph.specs.Term.{term_of}
use Rattle.test_graph.specs.Decision.{Decision, ask, done, sets, halts, goes_to, holds_zero, fitted_term, not_zero, guarded, divided, decided_on, at_least, at_most, ranged, whole_given, flag_given, given_to, decision_of}
use Rattle.test_graph.specs.Way.{decided_true, decided_false, way_taken}
use Rattle.test_graph.specs.Followed.{behind, behind_truth, zero_path, guard_path, whole_path, compared, truth_path, greatest_path, range_path, kept_path, flag_path, given_path, line_path}
use Rattle.test_graph.proofs.TermValue.{term_value}
use Rattle.test_graph.proofs.Ends.{outside-zero}

-- the decisions taken from a state
abbrev pub path_taken : Decision → State → List Bool
path_taken (ask c met unmet) s = comparison_holds c s ∷ cond (comparison_holds c s) (path_taken met s) (path_taken unmet s)
path_taken (done change next) s = []

pub path-taken : (d : Decision) (s : State) → (way_taken d s).path ≡ path_taken d s
path-taken (done change next) s = refl
path-taken (ask c met unmet) s = by_test (comparison_holds c s) (path-taken met s) (path-taken unmet s)
  where
    by_test : (b : Bool) → (way_taken met s).path ≡ path_taken met s → (way_taken unmet s).path ≡ path_taken unmet s
        → (cond b (decided_true c (way_taken met s)) (decided_false c (way_taken unmet s))).path ≡ b ∷ cond b (path_taken met s) (path_taken unmet s)
    by_test true g h = ap (λ xs. true ∷ xs) g
    by_test false g h = ap (λ xs. false ∷ xs) h

zero-path : (places : List Place) (s : State) → IsInRange places s → (b : Expression) → IsWhole places b → (rest fault : Decision) (y q : ℤ) → whole b s ≡ Some y
    → path_taken fault s ≡ []
    → path_taken (not_zero places b rest fault) s ≡ zero_path places b (Some y) ++ behind (cond (int_eq y (pos 0)) None (Some q)) (path_taken rest s)
zero-path places s r b t rest fault y q h k = by_bounds (holds_zero (bounds_of places b)) refl
  where
    asked : (z : Bool) → not z ∷ cond (not z) (path_taken rest s) (path_taken fault s) ≡ (not z ∷ []) ++ behind (cond z None (Some q)) (path_taken rest s)
    asked true = ap (λ xs. false ∷ xs) k
    asked false = refl

    by_bounds : (z : Bool) → holds_zero (bounds_of places b) ≡ z
        → path_taken (cond z (ask (record { left = term_of b; relation = Ne; right = number (pos 0) }) rest fault) rest) s
        ≡ cond z (not (int_eq y (pos 0)) ∷ []) [] ++ behind (cond (int_eq y (pos 0)) None (Some q)) (path_taken rest s)
    by_bounds true e =
        ap (λ v. not (int_eq v (pos 0)) ∷ cond (not (int_eq v (pos 0))) (path_taken rest s) (path_taken fault s)) (term_value b s y h) ∙ asked (int_eq y (pos 0))
    by_bounds false e =
        let w = bounds-hold places s r b y t h in
        ap (λ z. behind (cond z None (Some q)) (path_taken rest s)) (sym (outside-zero (bounds_of places b).low y (bounds_of places b).high w.low w.high e))

guarded-path : (places : List Place) (s : State) → IsInRange places s → (o : BinOp) (A : Type 0) (b : Expression) → WholeSides o A (IsWhole places b) → IsWhole places b
    → (rest fault : Decision) (x y : ℤ) → whole b s ≡ Some y → path_taken fault s ≡ []
    → path_taken (guarded places o b rest fault) s ≡ guard_path places o b (Some y) ++ behind (calculated o x y) (path_taken rest s)
guarded-path places s r Add A b w t rest fault x y h k = refl
guarded-path places s r Sub A b w t rest fault x y h k = refl
guarded-path places s r Mul A b w t rest fault x y h k = refl
guarded-path places s r Div A b w t rest fault x y h k = zero-path places s r b t rest fault y (int_div_euclid x y) h k
guarded-path places s r Mod A b w t rest fault x y h k = zero-path places s r b t rest fault y (int_rem_euclid x y) h k
guarded-path places s r (Compare o) A b w t rest fault x y h k = absurd w
guarded-path places s r And A b w t rest fault x y h k = absurd w
guarded-path places s r Or A b w t rest fault x y h k = absurd w

no-guard : (places : List Place) (o : BinOp) (b : Expression) → guard_path places o b None ≡ []
no-guard places Add b = refl
no-guard places Sub b = refl
no-guard places Mul b = refl
no-guard places Div b = refl
no-guard places Mod b = refl
no-guard places (Compare o) b = refl
no-guard places And b = refl
no-guard places Or b = refl

two-path : (places : List Place) (o : BinOp) (b : Expression) (u v : Option ℤ) (xs ys between rest : List Bool)
    → ((x y : ℤ) → u ≡ Some x → v ≡ Some y → between ≡ guard_path places o b (Some y) ++ behind (calculated o x y) rest)
    → xs ++ behind u (ys ++ behind v between) ≡ (xs ++ behind u (ys ++ guard_path places o b v)) ++ behind (of_both (calculated o) u v) rest
two-path places o b None v xs ys between rest k = sym (append-nil (xs ++ []))
two-path places o b (Some x) None xs ys between rest k = rw (no-guard places o b) (sym (append-nil (xs ++ (ys ++ []))))
two-path places o b (Some x) (Some y) xs ys between rest k =
    ap (λ zs. xs ++ (ys ++ zs)) (k x y refl refl)
    ∙ ap (λ zs. xs ++ zs) (sym (append_assoc ys (guard_path places o b (Some y)) (behind (calculated o x y) rest)))
    ∙ sym (append_assoc xs (ys ++ guard_path places o b (Some y)) (behind (calculated o x y) rest))

on-mapped : (f : ℤ → ℤ) (o : Option ℤ) (bs : List Bool) → behind o bs ≡ behind (option_map f o) bs
on-mapped f None bs = refl
on-mapped f (Some v) bs = refl

pub divided-path : (places : List Place) (s : State) → IsInRange places s → (x : Expression) → IsWhole places x → (rest fault : Decision) → path_taken fault s ≡ []
    → path_taken (divided places x rest fault) s ≡ whole_path places x s ++ behind (whole x s) (path_taken rest s)
divided-path places s r (e.number n) t rest fault k = refl
divided-path places s r (e.variable p) t rest fault k = refl
divided-path places s r (e.flag p) t rest fault k = absurd t
divided-path places s r (e.truth b) t rest fault k = absurd t
divided-path places s r (e.minus a) t rest fault k =
    divided-path places s r a t rest fault k ∙ ap (λ zs. whole_path places a s ++ zs) (on-mapped _ (whole a s) (path_taken rest s))
divided-path places s r (e.opposite a) t rest fault k = absurd t
divided-path places s r (e.two o a b) t rest fault k =
    let sides = whole-sides o (IsWhole places a) (IsWhole places b) t in
    divided-path places s r a sides.0 (divided places b (guarded places o b rest fault) fault) fault k
    ∙ ap (λ zs. whole_path places a s ++ behind (whole a s) zs) (divided-path places s r b sides.1 (guarded places o b rest fault) fault k)
    ∙ two-path places o b (whole a s) (whole b s) (whole_path places a s) (whole_path places b s) (path_taken (guarded places o b rest fault) s) (path_taken rest s)
    (λ x y p q. guarded-path places s r o (IsWhole places a) b t sides.1 rest fault x y q k)

known-path : (b : Bool) (met unmet : List Bool) → cond b met unmet ≡ behind_truth (Some b) met unmet
known-path true met unmet = refl
known-path false met unmet = refl

opposite-path : (o : Option Bool) (met unmet : List Bool) → behind_truth o unmet met ≡ behind_truth (option_map not o) met unmet
opposite-path None met unmet = refl
opposite-path (Some true) met unmet = refl
opposite-path (Some false) met unmet = refl

and-path : (p q : Option Bool) (xs ys met unmet : List Bool)
    → xs ++ behind_truth p (ys ++ behind_truth q met unmet) unmet ≡ (xs ++ behind_truth p ys []) ++ behind_truth (both_hold p q) met unmet
and-path None q xs ys met unmet = sym (append-nil (xs ++ []))
and-path (Some true) q xs ys met unmet = sym (append_assoc xs ys (behind_truth q met unmet))
and-path (Some false) q xs ys met unmet = ap (λ zs. zs ++ unmet) (sym (append-nil xs))

or-path : (p q : Option Bool) (xs ys met unmet : List Bool)
    → xs ++ behind_truth p met (ys ++ behind_truth q met unmet) ≡ (xs ++ behind_truth p [] ys) ++ behind_truth (either_holds p q) met unmet
or-path None q xs ys met unmet = sym (append-nil (xs ++ []))
or-path (Some true) q xs ys met unmet = ap (λ zs. zs ++ met) (sym (append-nil xs))
or-path (Some false) q xs ys met unmet = sym (append_assoc xs ys (behind_truth q met unmet))

compared-path : (o : Relation) (u v : Option ℤ) (a b : ℤ) (xs ys met unmet : List Bool) → ((x : ℤ) → u ≡ Some x → a ≡ x) → ((y : ℤ) → v ≡ Some y → b ≡ y)
    → xs ++ behind u (ys ++ behind v (compares o a b ∷ cond (compares o a b) met unmet))
    ≡ (xs ++ behind u (ys ++ compared (Compare o) u v)) ++ behind_truth (of_both (λ x y. Some (compares o x y)) u v) met unmet
compared-path o None v a b xs ys met unmet f g = sym (append-nil (xs ++ []))
compared-path o (Some x) None a b xs ys met unmet f g = sym (append-nil (xs ++ (ys ++ [])))
compared-path o (Some x) (Some y) a b xs ys met unmet f g =
    rw (f x refl, g y refl)
    (ap (λ zs. xs ++ (ys ++ (compares o x y ∷ zs))) (known-path (compares o x y) met unmet)
    ∙ ap (λ zs. xs ++ zs) (sym (append_assoc ys (compares o x y ∷ []) (behind_truth (Some (compares o x y)) met unmet)))
    ∙ sym (append_assoc xs (ys ++ compares o x y ∷ []) (behind_truth (Some (compares o x y)) met unmet)))

pub decided-path : (places : List Place) (s : State) → IsInRange places s → (x : Expression) → IsCondition places x → (on off fault : Decision)
    → path_taken fault s ≡ []
    → path_taken (decided_on places x on off fault) s ≡ truth_path places x s ++ behind_truth (holds x s) (path_taken on s) (path_taken off s)
decided-path places s r (e.number n) t on off fault k = absurd t
decided-path places s r (e.variable p) t on off fault k = absurd t
decided-path places s r (e.flag p) t on off fault k =
    ap (λ zs. int_le (pos 1) (value_at s p) ∷ zs) (known-path (int_le (pos 1) (value_at s p)) (path_taken on s) (path_taken off s))
decided-path places s r (e.truth true) t on off fault k = refl
decided-path places s r (e.truth false) t on off fault k = refl
decided-path places s r (e.minus a) t on off fault k = absurd t
decided-path places s r (e.opposite a) t on off fault k =
    decided-path places s r a t off on fault k ∙ ap (λ zs. truth_path places a s ++ zs) (opposite-path (holds a s) (path_taken on s) (path_taken off s))
decided-path places s r (e.two (Compare o) a b) t on off fault k =
    let asked = ask (record { left = term_of a; relation = o; right = term_of b }) on off in
    divided-path places s r a t.0 (divided places b asked fault) fault k
    ∙ ap (λ zs. whole_path places a s ++ behind (whole a s) zs) (divided-path places s r b t.1 asked fault k)
    ∙ compared-path o (whole a s) (whole b s) (value_of (term_of a) s) (value_of (term_of b) s) (whole_path places a s) (whole_path places b s) (path_taken on s) (path_taken off s)
    (term_value a s) (term_value b s)
decided-path places s r (e.two And a b) t on off fault k =
    decided-path places s r a t.0 (decided_on places b on off fault) off fault k
    ∙ ap (λ zs. truth_path places a s ++ behind_truth (holds a s) zs (path_taken off s)) (decided-path places s r b t.1 on off fault k)
    ∙ and-path (holds a s) (holds b s) (truth_path places a s) (truth_path places b s) (path_taken on s) (path_taken off s)
decided-path places s r (e.two Or a b) t on off fault k =
    decided-path places s r a t.0 on (decided_on places b on off fault) fault k
    ∙ ap (λ zs. truth_path places a s ++ behind_truth (holds a s) (path_taken on s) zs) (decided-path places s r b t.1 on off fault k)
    ∙ or-path (holds a s) (holds b s) (truth_path places a s) (truth_path places b s) (path_taken on s) (path_taken off s)
decided-path places s r (e.two Add a b) t on off fault k = absurd t
decided-path places s r (e.two Sub a b) t on off fault k = absurd t
decided-path places s r (e.two Mul a b) t on off fault k = absurd t
decided-path places s r (e.two Div a b) t on off fault k = absurd t
decided-path places s r (e.two Mod a b) t on off fault k = absurd t

either-way : (b : Bool) (xs : List Bool) → cond b xs xs ≡ xs
either-way true xs = refl
either-way false xs = refl

-- the decisions on the range of a value
ranged-path : (pc p : ℕ) (place : Place) (b : Bounds) (t : Tree) (s : State) (v : ℤ) → value_of t s ≡ v
    → path_taken (ranged pc p place b t) s ≡ kept_path place b (Some v)
ranged-path pc p place b t s v k = by_wrap place.wrap
  where
    by_high : (c : Bool)
        → path_taken (cond c (ask (record { left = t; relation = Le; right = number place.greatest }) (sets pc p t) (halts (Range pc))) (sets pc p t)) s
        ≡ cond c (int_le v place.greatest ∷ []) []
    by_high true = ap (λ y. int_le y place.greatest ∷ cond (int_le y place.greatest) [] []) k ∙ ap (λ zs. int_le v place.greatest ∷ zs) (either-way (int_le v place.greatest) [])
    by_high false = refl

    by_low : (c : Bool)
        → path_taken (cond c (ask (record { left = t; relation = Ge; right = number place.least }) (at_most place b t (sets pc p t) (halts (Range pc))) (halts (Range pc))) (at_most place b t (sets pc p t) (halts (Range pc)))) s
        ≡ cond c (int_le place.least v ∷ cond (int_le place.least v) (greatest_path place b v) []) (greatest_path place b v)
    by_low true =
        ap (λ y. int_le place.least y ∷ cond (int_le place.least y) (path_taken (at_most place b t (sets pc p t) (halts (Range pc))) s) []) k
        ∙ ap (λ zs. int_le place.least v ∷ cond (int_le place.least v) zs []) (by_high (int_lt place.greatest b.high))
    by_low false = by_high (int_lt place.greatest b.high)

    by_wrap : (c : Bool)
        → path_taken (cond c (sets pc p (fitted_term place b t)) (at_least place b t (at_most place b t (sets pc p t) (halts (Range pc))) (halts (Range pc)))) s
        ≡ cond c [] (range_path place b v)
    by_wrap true = refl
    by_wrap false = by_low (int_lt b.low place.least)

whole-path : (places : List Place) (s : State) (pc p : ℕ) (place : Place) (x : Expression) → IsInRange places s → IsWhole places x
    → path_taken (whole_given places pc p place x) s ≡ whole_path places x s ++ kept_path place (bounds_of places x) (whole x s)
whole-path places s pc p place x r t =
    divided-path places s r x t (ranged pc p place (bounds_of places x) (term_of x)) (halts (DivZero pc)) refl
    ∙ ap (λ zs. whole_path places x s ++ zs) (by_value (whole x s) refl)
  where
    by_value : (o : Option ℤ) → whole x s ≡ o
        → behind o (path_taken (ranged pc p place (bounds_of places x) (term_of x)) s) ≡ kept_path place (bounds_of places x) o
    by_value None k = refl
    by_value (Some v) k = ranged-path pc p place (bounds_of places x) (term_of x) s v (term_value x s v k)

no-more : (o : Option Bool) (xs : List Bool) → xs ++ behind_truth o [] [] ≡ xs
no-more None xs = append-nil xs
no-more (Some true) xs = append-nil xs
no-more (Some false) xs = append-nil xs

-- the decisions of a condition between ends that decide nothing
ends-path : (places : List Place) (s : State) (x : Expression) (on off fault : Decision) → IsInRange places s → IsCondition places x → path_taken on s ≡ []
    → path_taken off s ≡ [] → path_taken fault s ≡ [] → path_taken (decided_on places x on off fault) s ≡ truth_path places x s
ends-path places s x on off fault r t a b k =
    decided-path places s r x t on off fault k ∙ ap (λ ys. truth_path places x s ++ behind_truth (holds x s) ys (path_taken off s)) a
    ∙ ap (λ ys. truth_path places x s ++ behind_truth (holds x s) [] ys) b ∙ no-more (holds x s) (truth_path places x s)

flag-path : (places : List Place) (s : State) (pc p : ℕ) (x : Expression) → IsInRange places s → IsCondition places x
    → path_taken (flag_given places pc p x) s ≡ flag_path places x s
flag-path places s pc p (e.flag q) r t = refl
flag-path places s pc p (e.number n) r t = absurd t
flag-path places s pc p (e.variable q) r t = absurd t
flag-path places s pc p (e.truth b) r t =
    ends-path places s (e.truth b) (sets pc p (number (pos 1))) (sets pc p (number (pos 0))) (halts (DivZero pc)) r t refl refl refl
flag-path places s pc p (e.minus a) r t = absurd t
flag-path places s pc p (e.opposite a) r t =
    ends-path places s (e.opposite a) (sets pc p (number (pos 1))) (sets pc p (number (pos 0))) (halts (DivZero pc)) r t refl refl refl
flag-path places s pc p (e.two o a b) r t =
    ends-path places s (e.two o a b) (sets pc p (number (pos 1))) (sets pc p (number (pos 0))) (halts (DivZero pc)) r t refl refl refl

given-path : (places : List Place) (s : State) (pc p : ℕ) (place : Place) (x : Expression) → IsInRange places s → Suits place.flag places x
    → path_taken (given_to places pc p x (Some place)) s ≡ given_path places x (Some place) s
given-path places s pc p place x r t = by_flag place.flag t
  where
    by_flag : (b : Bool) → Suits b places x
        → path_taken (cond b (flag_given places pc p x) (whole_given places pc p place x)) s
        ≡ cond b (flag_path places x s) (whole_path places x s ++ kept_path place (bounds_of places x) (whole x s))
    by_flag true k = flag-path places s pc p x r k
    by_flag false k = whole-path places s pc p place x r k

pub line-path : (places : List Place) (count pc : ℕ) (s : State) (i : Instruction) → IsInRange places s → FitsAt places count pc i
    → path_taken (decision_of places pc i) s ≡ line_path places i s
line-path places count pc s (pre x) r f = ends-path places s x (goes_to (pc + 1)) (halts Outside) (halts (DivZero pc)) r f.1.typed refl refl refl
line-path places count pc s (assign p x) r f =
    let a = f.1 in
    ap (λ (o : Option Place). path_taken (given_to places pc p x o) s) a.there ∙ given-path places s pc p a.target x r a.typed
    ∙ ap (λ (o : Option Place). given_path places x o s) (sym a.there)
line-path places count pc s (if_true x q) r f = ends-path places s x (goes_to (pc + 1)) (goes_to q) (halts (DivZero pc)) r f.2.typed refl refl refl
line-path places count pc s (otherwise q) r f = refl
line-path places count pc s end_if r f = refl
line-path places count pc s loop r f = refl
line-path places count pc s (end_loop q) r f = refl
line-path places count pc s (exit q) r f = refl
line-path places count pc s (exit_when x q) r f = ends-path places s x (goes_to q) (goes_to (pc + 1)) (halts (DivZero pc)) r f.2.typed refl refl refl
line-path places count pc s label r f = refl
line-path places count pc s (goto q) r f = refl
line-path places count pc s skip r f = refl
line-path places count pc s (assert x) r f = ends-path places s x (goes_to (pc + 1)) (halts (FailedAssert pc)) (halts (DivZero pc)) r f.1.typed refl refl refl
line-path places count pc s (return q) r f = refl
line-path places count pc s (end_procedure x) r f = ends-path places s x (halts End) (halts FailedPost) (halts (DivZero pc)) r f.1.typed refl refl refl
