-- Paths by the numbers of arcs and walks of lines: where the value of an arc is that of its tail, what some path joins is
-- what some list of lines joins that a walk leaves one after the other; and where arcs lead out of the lines, such a
-- list is a walk and its end.
use Rattle.std.proofs.Common.{◌≡◌, ◌⊎◌, ◌↔◌, inl, inr, refl, sym, ap, ◌∙◌, subst, ℕ, zero, suc, ◌<◌, ◌≤◌, Some, List, [], ◌∷◌, slice_get, arith}
use Rattle.std.proofs.lemmas.Option.{same_Some}
use Rattle.il_core.specs.LineGraph.{IsIn}
use Rattle.flow_graph.specs.Search.{IsWalk}
use Rattle.regular_algebra.specs.Paths.{Path}
use Rattle.regular_algebra.specs.Relations.{Chain, ends_of, values_of, PathJoins}
use Rattle.regular_algebra.specs.declared.steps.Ends.{Ends}
use Rattle.regular_algebra.specs.declared.steps.Entry.{Entry}

-- an entry goes from one node to another
abbrev pub IsEdge : {V : Type 0} → List (Entry V) → ℕ → ℕ → Type 0
IsEdge {V} entries x m = (e : Entry V) × IsIn entries e × (e.tail ≡ x) × (e.head ≡ m)

-- the nodes that a walk from node x to node z leaves one after the other
abbrev pub Trail : (ℕ → ℕ → Type 0) → ℕ → List ℕ → ℕ → Type 0
Trail E x [] z = x ≡ z
Trail E x (t ∷ ts) z = (x ≡ t) × ((m : ℕ) × E x m × Trail E m ts z)

-- what the nodes join one after the other
abbrev pub Through : {P : Type 0} → (P → Type 0) → (ℕ → P → P → Type 0) → List ℕ → P → P → Type 0
Through is_point R [] a b = is_point a × (a ≡ b)
Through {P} is_point R (x ∷ xs) a b = (c : P) × R x a c × Through is_point R xs c b

-- some walk from x to z joins a and b
abbrev pub TrailJoins : {P : Type 0} → (P → Type 0) → (ℕ → P → P → Type 0) → (ℕ → ℕ → Type 0) → ℕ → ℕ → P → P → Type 0
TrailJoins is_point R E x z a b = (tails : List ℕ) × Trail E x tails z × Through is_point R tails a b

-- the entry of a number, by its ends and its value
entry_at : {V : Type 0} (entries : List (Entry V)) (k x m : ℕ) (v : V) → slice_get (ends_of entries) k ≡ Some (record { tail = x; head = m }) → slice_get (values_of entries) k ≡ Some v
    → (e : Entry V) × IsIn entries e × (e.tail ≡ x) × (e.head ≡ m) × (e.value ≡ v)
entry_at [] k x m v p q = absurd (cc)
entry_at (e ∷ entries) zero x m v p q =
    let s : ◌≡◌ {A = Ends} (record { tail = e.tail; head = e.head }) (record { tail = x; head = m }) = same_Some _ _ p in
    (e, inl refl, ap (λ (i : Ends). i.tail) s, ap (λ (i : Ends). i.head) s, same_Some _ _ q)
entry_at (e ∷ entries) (suc k) x m v p q = let r = entry_at entries k x m v p q in (r.0, inr r.1, r.2, r.3, r.4)

-- the number of an entry
number_of : {V : Type 0} (entries : List (Entry V)) (e : Entry V) → IsIn entries e
    → (k : ℕ) × (slice_get (ends_of entries) k ≡ Some (record { tail = e.tail; head = e.head })) × (slice_get (values_of entries) k ≡ Some e.value)
number_of [] e h = absurd h
number_of (f ∷ entries) e (inl s) = (0, ap (λ i. Some (record { tail = i.tail; head = i.head })) s, ap (λ i. Some i.value) s)
number_of (f ∷ entries) e (inr h) = let r = number_of entries e h in (suc r.0, r.1, r.2)

module _ {P V : Type 0} (is_point : P → Type 0) (joins : V → P → P → Type 0) (entries : List (Entry V)) (R : ℕ → P → P → Type 0)
    (each : (e : Entry V) → IsIn entries e → (a b : P) → joins e.value a b ↔ R e.tail a b) where
  trail-from_path : (w : List ℕ) (x z : ℕ) (a b : P) → Path (ends_of entries) x w z → Chain is_point joins (values_of entries) w a b
      → TrailJoins is_point R (IsEdge entries) x z a b
  trail-from_path [] x z a b p c = ([], p, c)
  trail-from_path (k ∷ w) x z a b p c =
      let e = entry_at entries k x p.0 c.0 p.1 c.1 in
      let rest = trail-from_path w p.0 z c.2 b p.2 c.4 in
      let first : R e.0.tail a c.2 = (each e.0 e.1 a c.2).0 (subst (λ v. joins v a c.2) (sym e.4) c.3) in
      (x ∷ rest.0, (refl, (p.0, (e.0, e.1, e.2, e.3), rest.1)), (c.2, subst (λ t. R t a c.2) e.2 first, rest.2))

  path-from_trail : (tails : List ℕ) (x z : ℕ) (a b : P) → Trail (IsEdge entries) x tails z → Through is_point R tails a b
      → PathJoins is_point joins entries x z a b
  path-from_trail [] x z a b t h = ([], t, h)
  path-from_trail (y ∷ tails) x z a b t h =
      let m = t.1.0 in
      let e = t.1.1 in
      let k = number_of entries e.0 e.1 in
      let rest = path-from_trail tails m z h.0 b t.1.2 h.2 in
      let value = (each e.0 e.1 a h.0).1 (subst (λ i. R i a h.0) (sym t.0 ∙ sym e.2) h.1) in
      let ends : ◌≡◌ {A = Ends} (record { tail = e.0.tail; head = e.0.head }) (record { tail = x; head = m }) = ap (λ i. record { tail = i; head = e.0.head }) e.2 ∙ ap (λ j. record { tail = x; head = j }) e.3 in
      (k.0 ∷ rest.0, (m, k.1 ∙ ap Some ends, rest.1), (e.0.value, k.2, h.0, value, rest.2))

  -- what some path joins, some list of lines joins that a walk leaves
  pub paths-are_trails : (x z : ℕ) (a b : P) → PathJoins is_point joins entries x z a b ↔ TrailJoins is_point R (IsEdge entries) x z a b
  paths-are_trails x z a b = (λ p. trail-from_path p.0 x z a b p.1 p.2, λ t. path-from_trail t.0 x z a b t.1 t.2)

-- inner arcs join lines below n, and exits lead from a line to a node from n on, which no edge leaves
module _ (Inner Exit Edge : ℕ → ℕ → Type 0) (Ok : ℕ → Type 0) (n : ℕ) (low : (x : ℕ) → Ok x → x < n) (on : (x m : ℕ) → Ok x → Inner x m → Ok m)
    (out : (x m : ℕ) → Exit x m → n ≤ m) (edges : (x m : ℕ) → Edge x m ↔ (Ok x × (Inner x m ⊎ Exit x m))) where
  -- no edge leaves a node behind the lines
  ended : (x m z : ℕ) (ts : List ℕ) → Exit x m → Trail Edge m ts z → (ts ≡ []) × (m ≡ z)
  ended x m z [] e t = (refl, t)
  ended x m z (y ∷ ts) e t = let l = low m ((edges m t.1.0).0 t.1.1).0 in let g = out x m e in absurd (omega arith)

  walk-from_trail : (tails : List ℕ) (x z : ℕ) → Ok x → n ≤ z → Trail Edge x tails z
      → (lines : List ℕ) × (y : ℕ) × (tails ≡ x ∷ lines) × IsWalk Inner x lines y × Exit y z
  walk-from_trail [] x z ok g t = let l = low x ok in absurd (omega arith)
  walk-from_trail (s ∷ tails) x z ok g t = elim ((edges x t.1.0).0 t.1.1).1 [
    | inl i ↦
        let m = t.1.0 in
        let r = walk-from_trail tails m z (on x m ok i) g t.1.2 in
        (m ∷ r.0, r.1, ap (λ h. h ∷ tails) (sym t.0) ∙ ap (λ ts. x ∷ ts) r.2, (i, r.3), r.4)
    | inr e ↦
        let d = ended x t.1.0 z tails e t.1.2 in
        ([], x, ap (λ h. h ∷ tails) (sym t.0) ∙ ap (λ ts. x ∷ ts) d.0, refl, subst (Exit x) d.1 e)
  ]

  trail-from_walk : (lines : List ℕ) (x y z : ℕ) → Ok x → IsWalk Inner x lines y → Exit y z → Trail Edge x (x ∷ lines) z
  trail-from_walk [] x y z ok w e = (refl, (z, (edges x z).1 (ok, inr (subst (λ i. Exit i z) (sym w) e)), refl))
  trail-from_walk (c ∷ rest) x y z ok w e = (refl, (c, (edges x c).1 (ok, inl w.0), trail-from_walk rest c y z (on x c ok w.0) w.1 e))

  -- the lists of lines that walks leave up to a node behind the lines are the walks, each with an exit at its end
  pub trails-are_walks : (T : List ℕ → Type 0) (x z : ℕ) → Ok x → n ≤ z
      → ((tails : List ℕ) × Trail Edge x tails z × T tails) ↔ ((y : ℕ) × Exit y z × ((lines : List ℕ) × IsWalk Inner x lines y × T (x ∷ lines)))
  trails-are_walks T x z ok g = (
    λ t. let r = walk-from_trail t.0 x z ok g t.1 in (r.1, r.4, (r.0, r.3, subst T r.2 t.2)),
    λ w. (x ∷ w.2.0, trail-from_walk w.2.0 x w.0 z ok w.2.1 w.1, w.2.2),
  )
