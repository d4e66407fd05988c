-- In each state exactly one way through a line has only literals that hold, and no way begins as another.
use Rattle.std.proofs.Common.{◌≡◌, refl, ap, ◌∙◌, ◌<◌, Bool, true, false, not, ◌&&◌, cond, List, [], ◌∷◌, ◌++◌, length, map, filter, inl, inr, arith, length-append}
use Rattle.std.proofs.lemmas.List.{length-map}
use Rattle.std.proofs.lemmas.List.Elements.{filter-append}
use Rattle.il_core.specs.Evaluation.{State}
use Rattle.il_core.specs.LineGraph.{IsIn}
use Rattle.sym_terms.specs.Comparison.{comparison_holds}
use Rattle.sym_terms.proofs.Comparisons.{denied_holds}
use Rattle.test_graph.specs.Decision.{Decision, ask, done}
use Rattle.test_graph.specs.Way.{Way, decided_true, decided_false, ways_of, all_hold, way_taken}

mapped-step : (f : Way → Way) (b : Bool) (w : Way) (ws : List Way) → cond b (f w ∷ map f ws) (map f ws) ≡ map f (cond b (w ∷ ws) ws)
mapped-step f true w ws = refl
mapped-step f false w ws = refl

-- what passes q behind f is what passes p, where q behind f is p
filter-mapped : (p q : Way → Bool) (f : Way → Way) (ws : List Way) → ((w : Way) → q (f w) ≡ p w) → filter q (map f ws) ≡ map f (filter p ws)
filter-mapped p q f [] h = refl
filter-mapped p q f (w ∷ ws) h =
    ap (λ b. cond b (f w ∷ filter q (map f ws)) (filter q (map f ws))) (h w)
    ∙ ap (λ vs. cond (p w) (f w ∷ vs) vs) (filter-mapped p q f ws h) ∙ mapped-step f (p w) w (filter p ws)

-- nothing passes behind f
filter-none : (q : Way → Bool) (f : Way → Way) (ws : List Way) → ((w : Way) → q (f w) ≡ false) → filter q (map f ws) ≡ []
filter-none q f [] h = refl
filter-none q f (w ∷ ws) h = ap (λ b. cond b (f w ∷ filter q (map f ws)) (filter q (map f ws))) (h w) ∙ filter-none q f ws h

abbrev fits : State → Way → Bool
fits s w = all_hold w.literals s

-- exactly the way that a state takes has only literals that hold
pub one_way : (d : Decision) (s : State) → filter (fits s) (ways_of d) ≡ way_taken d s ∷ []
one_way (done change next) s = refl
one_way (ask c met unmet) s =
    filter-append (fits s) (map (decided_true c) (ways_of met)) (map (decided_false c) (ways_of unmet)) ∙ by_test (comparison_holds c s) refl (one_way met s) (one_way unmet s)
  where
    by_test : (b : Bool) → comparison_holds c s ≡ b → filter (fits s) (ways_of met) ≡ way_taken met s ∷ [] → filter (fits s) (ways_of unmet) ≡ way_taken unmet s ∷ []
        → filter (fits s) (map (decided_true c) (ways_of met)) ++ filter (fits s) (map (decided_false c) (ways_of unmet))
        ≡ cond b (decided_true c (way_taken met s)) (decided_false c (way_taken unmet s)) ∷ []
    by_test true e g h =
        let left = filter-mapped (fits s) (fits s) (decided_true c) (ways_of met) (λ w. ap (λ x. x && all_hold w.literals s) e) in
        let right = filter-none (fits s) (decided_false c) (ways_of unmet) (λ w. ap (λ x. x && all_hold w.literals s) (denied_holds c s ∙ ap not e)) in
        rw (left, right, g) refl
    by_test false e g h =
        let left = filter-none (fits s) (decided_true c) (ways_of met) (λ w. ap (λ x. x && all_hold w.literals s) e) in
        let right = filter-mapped (fits s) (fits s) (decided_false c) (ways_of unmet) (λ w. ap (λ x. x && all_hold w.literals s) (denied_holds c s ∙ ap not e)) in
        rw (left, right, h) refl

-- what is in a list and passes is among what passes
passes : (q : Way → Bool) (ws : List Way) (w : Way) → IsIn ws w → q w ≡ true → IsIn (filter q ws) w
passes q [] w i h = absurd i
passes q (v ∷ ws) w (inl same) h = by_test (q v) (ap q same ∙ h)
  where
    by_test : (b : Bool) → b ≡ true → IsIn (cond b (v ∷ filter q ws) (filter q ws)) w
    by_test true e = inl same
    by_test false e = absurd (cc)
passes q (v ∷ ws) w (inr i) h = by_test (q v) (passes q ws w i h)
  where
    by_test : (b : Bool) → IsIn (filter q ws) w → IsIn (cond b (v ∷ filter q ws) (filter q ws)) w
    by_test true k = inr k
    by_test false k = k

-- a way whose literals hold in a state is the way that the state takes
pub taken : (d : Decision) (s : State) (w : Way) → IsIn (ways_of d) w → all_hold w.literals s ≡ true → way_taken d s ≡ w
taken d s w i h = only (passes (fits s) (ways_of d) w i h)
  where
    only : IsIn (filter (fits s) (ways_of d)) w → way_taken d s ≡ w
    only k = alone (rw (one_way d s) at k)
      where
        alone : IsIn (way_taken d s ∷ []) w → way_taken d s ≡ w
        alone (inl same) = same
        alone (inr other) = absurd other

-- there is a way
pub some_way : (d : Decision) → 0 < length (ways_of d)
some_way (done change next) = omega arith
some_way (ask c met unmet) =
    omega (arith, length-append (map (decided_true c) (ways_of met)) (map (decided_false c) (ways_of unmet)), length-map (ways_of met) (decided_true c), some_way met)
