-- The decisions of no way through a line begin with those of another.
use Rattle.std.proofs.Common.{◌≡◌, refl, sym, ap, ◌∙◌, ℕ, zero, suc, ◌+◌, Bool, true, false, Some, List, [], ◌∷◌, ◌++◌, length, map, slice_get, ◌⊎◌, inl, inr, arith}
use Rattle.test_graph.specs.Decision.{Decision, ask, done}
use Rattle.test_graph.specs.Way.{Way, decided_true, decided_false, ways_of}

-- what stands at a position of a list behind f is f of what stands there
pub mapped : (f : Way → Way) (ws : List Way) (k : ℕ) (w : Way) → slice_get (map f ws) k ≡ Some w → (v : Way) × (slice_get ws k ≡ Some v) × (f v ≡ w)
mapped f [] k w h = absurd (cc)
mapped f (v ∷ ws) zero w h = (v, refl, cc)
mapped f (v ∷ ws) (suc k) w h = mapped f ws k w h

-- a position of a joined list is one of its front, or one behind it
pub split : (xs ys : List Way) (k : ℕ) (w : Way) → slice_get (xs ++ ys) k ≡ Some w
    → (slice_get xs k ≡ Some w) ⊎ ((m : ℕ) × (k ≡ length xs + m) × (slice_get ys m ≡ Some w))
split [] ys k w h = inr (k, omega arith, h)
split (x ∷ xs) ys zero w h = inl h
split (x ∷ xs) ys (suc k) w h = elim (split xs ys k w h) [
  | inl there ↦ inl there
  | inr there ↦ inr (there.0, omega (arith, there.1), there.2)
]

-- two ways of which one begins as the other stand at one position
pub apart : (d : Decision) (j k : ℕ) (v w : Way) (rest : List Bool) → slice_get (ways_of d) j ≡ Some v → slice_get (ways_of d) k ≡ Some w
    → w.path ≡ v.path ++ rest → j ≡ k
apart (done change next) zero zero v w rest g h e = refl
apart (done change next) zero (suc k) v w rest g h e = absurd (cc)
apart (done change next) (suc j) k v w rest g h e = absurd (cc)
apart (ask c met unmet) j k v w rest g h e =
    both (split (map (decided_true c) (ways_of met)) (map (decided_false c) (ways_of unmet)) j v g)
    (split (map (decided_true c) (ways_of met)) (map (decided_false c) (ways_of unmet)) k w h)
    (λ a b x y s t p. apart met a b x y rest s t p) (λ a b x y s t p. apart unmet a b x y rest s t p)
  where
    tail-same : (a b : Bool) (xs ys : List Bool) → (a ∷ xs) ≡ (b ∷ ys) → xs ≡ ys
    tail-same a b xs ys p = cc

    head-same : (a b : Bool) (xs ys : List Bool) → (a ∷ xs) ≡ (b ∷ ys) → a ≡ b
    head-same a b xs ys p = cc

    both : (slice_get (map (decided_true c) (ways_of met)) j ≡ Some v) ⊎ ((m : ℕ) × (j ≡ length (map (decided_true c) (ways_of met)) + m) × (slice_get (map (decided_false c) (ways_of unmet)) m ≡ Some v))
        → (slice_get (map (decided_true c) (ways_of met)) k ≡ Some w) ⊎ ((m : ℕ) × (k ≡ length (map (decided_true c) (ways_of met)) + m) × (slice_get (map (decided_false c) (ways_of unmet)) m ≡ Some w))
        → ((a b : ℕ) (x y : Way) → slice_get (ways_of met) a ≡ Some x → slice_get (ways_of met) b ≡ Some y → y.path ≡ x.path ++ rest → a ≡ b)
        → ((a b : ℕ) (x y : Way) → slice_get (ways_of unmet) a ≡ Some x → slice_get (ways_of unmet) b ≡ Some y → y.path ≡ x.path ++ rest → a ≡ b) → j ≡ k
    both (inl p) (inl q) f u =
        let x = mapped (decided_true c) (ways_of met) j v p in
        let y = mapped (decided_true c) (ways_of met) k w q in
        f j k x.0 y.0 x.1 y.1
        (tail-same true true y.0.path (x.0.path ++ rest) (ap (λ (z : Way). z.path) y.2 ∙ e ∙ ap (λ (z : Way). z.path ++ rest) (sym x.2)))
    both (inl p) (inr q) f u =
        let x = mapped (decided_true c) (ways_of met) j v p in
        let y = mapped (decided_false c) (ways_of unmet) q.0 w q.2 in
        let odd : false ≡ true =
        head-same false true y.0.path (x.0.path ++ rest) (ap (λ (z : Way). z.path) y.2 ∙ e ∙ ap (λ (z : Way). z.path ++ rest) (sym x.2)) in absurd (cc)
    both (inr p) (inl q) f u =
        let x = mapped (decided_false c) (ways_of unmet) p.0 v p.2 in
        let y = mapped (decided_true c) (ways_of met) k w q in
        let odd : true ≡ false =
        head-same true false y.0.path (x.0.path ++ rest) (ap (λ (z : Way). z.path) y.2 ∙ e ∙ ap (λ (z : Way). z.path ++ rest) (sym x.2)) in absurd (cc)
    both (inr p) (inr q) f u =
        let x = mapped (decided_false c) (ways_of unmet) p.0 v p.2 in
        let y = mapped (decided_false c) (ways_of unmet) q.0 w q.2 in
        let same : p.0 ≡ q.0 =
        u p.0 q.0 x.0 y.0 x.1 y.1
        (tail-same false false y.0.path (x.0.path ++ rest) (ap (λ (z : Way). z.path) y.2 ∙ e ∙ ap (λ (z : Way). z.path ++ rest) (sym x.2))) in
        omega (arith, p.1, q.1, same)
