-- Shortest paths along arcs into a set of relevant lines, and that a test which is fixed to the nearer side goes along one.
use Rattle.std.proofs.Common.{◌≡◌, ◌⊎◌, inl, inr, refl, sym, ap, subst, ℕ, zero, suc, ◌+◌, ◌<◌, ◌≤◌, Bool, true, false, cond, List, [], ◌∷◌, length, arith}
use Rattle.std.specs.Prelude.{◌↔◌}
use Rattle.std.proofs.lemmas.Bool.{false≢true}
use Rattle.std.proofs.lemmas.Bool.Decides.{eqb_tells}
use Rattle.il_core.specs.LineGraph.{IsIn}
use Rattle.flow_graph.specs.declared.graph.Arc.{Arc}
use Rattle.flow_graph.specs.Graph.{Joins, heads_from}
use Rattle.flow_graph.specs.Meeting.{Meets}
use Rattle.flow_graph.proofs.LineArcs.{heads_from-Joins, Joins-from_heads}
use Rattle.flow_slice.specs.Nearer.{LeadsInto, IsNearer}

-- one element of a list has a property, or none has
some_or_none : (P : ℕ → Type 0) → ((x : ℕ) → P x ⊎ (P x → ⊥)) → (xs : List ℕ) → ((x : ℕ) × IsIn xs x × P x) ⊎ ((x : ℕ) → IsIn xs x → P x → ⊥)
some_or_none P d [] = inr (λ x i h. absurd i)
some_or_none P d (y ∷ xs) = elim (d y) [
  | inl h ↦ inl (y, inl refl, h)
  | inr n ↦ elim (some_or_none P d xs) [
    | inl t ↦ inl (t.0, inr t.1, t.2)
    | inr none ↦ inr (λ x i h. elim i [ inl e ↦ n (subst P (sym e) h) | inr j ↦ none x j h ])
  ]
]

true_or_not : (b : Bool) → (b ≡ true) ⊎ (b ≡ true → ⊥)
true_or_not true = inl refl
true_or_not false = inr (λ e. false≢true e)

module _ (arcs : List Arc) (relevant : ℕ → Bool) where
  -- a path of n arcs leads from line a to a relevant line
  abbrev pub IsAway : ℕ → ℕ → Type 0
  IsAway zero a = relevant a ≡ true
  IsAway (suc n) a = (b : ℕ) × Joins arcs a b × IsAway n b

  abbrev pub Leads : ℕ → List ℕ → Type 0
  Leads = LeadsInto (Joins arcs) (λ x. relevant x ≡ true)

  pub away_of : (a : ℕ) (lines : List ℕ) → Leads a lines → IsAway (length lines) a
  away_of a [] h = rw h.1 h.2
  away_of a (b ∷ lines) h = (b, h.1.0, away_of b lines (h.0, h.1.1, h.2))

  pub leads_of : (n a : ℕ) → IsAway n a → (lines : List ℕ) × Leads a lines × (length lines ≡ n)
  leads_of zero a h = ([], (a, refl, h), refl)
  leads_of (suc n) a h = let t = leads_of n h.0 h.2 in (h.0 ∷ t.0, (t.1.0, (h.1, t.1.1), t.1.2), ap suc t.2)

  -- a path of n arcs is there or not
  pub away_or_not : (n a : ℕ) → IsAway n a ⊎ (IsAway n a → ⊥)
  away_or_not zero a = true_or_not (relevant a)
  away_or_not (suc n) a = elim (some_or_none (IsAway n) (away_or_not n) (heads_from arcs a)) [
    | inl t ↦ inl (t.0, Joins-from_heads arcs a t.0 t.1, t.2)
    | inr none ↦ inr (λ t. none t.0 (heads_from-Joins arcs a t.0 t.1) t.2)
  ]

  -- the shortest path has n arcs
  pub record IsNearest (n a : ℕ) : Type 0 where
    pub away : IsAway n a
    pub least : (m : ℕ) → IsAway m a → n ≤ m

  -- where there is a path and none has fewer than k arcs, some path is shortest
  nearest_from : (d k a : ℕ) → IsAway (k + d) a → ((m : ℕ) → IsAway m a → k ≤ m) → (n : ℕ) × IsNearest n a
  nearest_from zero k a h low = let e : k + 0 ≡ k = omega arith in (k, record { away = rw e at h; least = low })
  nearest_from (suc d) k a h low = elim (away_or_not k a) [
    | inl here ↦ (k, record { away = here; least = low })
    | inr none ↦
        let e : k + suc d ≡ (k + 1) + d = omega arith in
        nearest_from d (k + 1) a (rw e at h) (λ m w. elim (eqb_tells k m) [
          | inl same ↦ absurd (none (subst (λ (x : ℕ). IsAway x a) (sym same.1) w))
          | inr other ↦ let l = low m w in let n = other.1 in omega arith
        ])
  ]

  pub nearest_of : (n a : ℕ) → IsAway n a → (m : ℕ) × IsNearest m a
  nearest_of n a h = let e : 0 + n ≡ n = omega arith in nearest_from n 0 a (rw e h) (λ m w. omega arith)

  -- a shortest path goes on along a shortest path from a head of its first line
  next_nearest : (n a : ℕ) → IsNearest (suc n) a → (b : ℕ) × IsIn (heads_from arcs a) b × IsNearest n b
  next_nearest n a w = (
    w.away.0,
    heads_from-Joins arcs a w.away.0 w.away.1,
    record { away = w.away.2; least = λ m h. let l = w.least (suc m) (w.away.0, w.away.1, h) in omega arith },
  )

  -- no path of fewer arcs leads from a head
  from_head : (n a b m : ℕ) → IsNearest (suc n) a → IsIn (heads_from arcs a) b → IsAway m b → n ≤ m
  from_head n a b m w i h = let l = w.least (suc m) (b, Joins-from_heads arcs a b i, h) in omega arith

  -- from a line with one head
  pub one_head : (n a q : ℕ) → heads_from arcs a ≡ q ∷ [] → IsNearest (suc n) a → IsNearest n q
  one_head n a q e w =
      let t = next_nearest n a w in
      elim (rw e at t.1) [ inl same ↦ rw same t.2 | inr none ↦ absurd none ]

  -- from a line without one
  pub no_head : {A : Type 0} (n a : ℕ) → heads_from arcs a ≡ [] → IsNearest (suc n) a → A
  no_head n a e w = let t = next_nearest n a w in absurd (rw e at t.1)

  -- a shortest path goes through the line that is nearer
  nearer_side : (n a met unmet : ℕ) → IsNearest (suc n) a → heads_from arcs a ≡ met ∷ unmet ∷ [] → IsNearer (Joins arcs) (λ x. relevant x ≡ true) unmet met → IsNearest n unmet
  nearer_side n a met unmet w e near = let t = next_nearest n a w in elim (rw e at t.1) [
    | inl same ↦
        let path = leads_of n met (rw (← same) at t.2.away) in
        let far = near.2 path.0 path.1 in
        let low = from_head n a unmet (length near.0) w (rw e (inr (inl refl))) (away_of unmet near.0 near.1) in
        let size = path.2 in
        absurd (omega arith)
    | inr more ↦ elim more [ inl same ↦ rw same t.2 | inr none ↦ absurd none ]
  ]

  -- and through the other line where that is not nearer
  other_side : (n a met unmet : ℕ) → IsNearest (suc n) a → heads_from arcs a ≡ met ∷ unmet ∷ [] → (IsNearer (Joins arcs) (λ x. relevant x ≡ true) unmet met → ⊥) → IsNearest n met
  other_side n a met unmet w e not_nearer = let t = next_nearest n a w in elim (rw e at t.1) [
    | inl same ↦ rw same t.2
    | inr more ↦ elim more [
      | inr none ↦ absurd none
      | inl same ↦ elim (away_or_not n met) [
        | inl here ↦ record { away = here; least = λ m h. from_head n a met m w (rw e (inl refl)) h }
        | inr none ↦
            let path = leads_of n unmet (rw (← same) at t.2.away) in
            absurd (not_nearer (path.0, path.1, λ others far. farther others (path.2) none (from_head n a met (length others) w (rw e (inl refl)) (away_of met others far)) (away_of met others far)))
      ]
    ]
  ]
    where
      farther : (others : List ℕ) {size : ℕ} → size ≡ n → (IsAway n met → ⊥) → n ≤ length others → IsAway (length others) met → size < length others
      farther others e none l h = elim (eqb_tells n (length others)) [
        | inl same ↦ absurd (none (subst (λ (x : ℕ). IsAway x met) (sym same.1) h))
        | inr other ↦ let d = other.1 in omega arith
      ]

  -- the side to which a test is fixed
  pub fixed_side : (n a met unmet : ℕ) (taken : Bool) → IsNearest (suc n) a → heads_from arcs a ≡ met ∷ unmet ∷ []
      → ((taken ≡ false) ↔ IsNearer (Joins arcs) (λ x. relevant x ≡ true) unmet met) → IsNearest n (cond taken met unmet)
  fixed_side n a met unmet true w e t = other_side n a met unmet w e (λ h. false≢true (sym (t.1 h)))
  fixed_side n a met unmet false w e t = nearer_side n a met unmet w e (t.0 refl)

  -- a walk that meets the relevant lines leads into them
  pub away_of_meeting : (a : ℕ) (lines : List ℕ) (x : ℕ) → Meets (Joins arcs) (λ l. relevant l ≡ true) a lines x → IsAway (length lines) a
  away_of_meeting a [] x m = m.1
  away_of_meeting a (b ∷ lines) x m = (b, m.1, away_of_meeting b lines x m.2)
