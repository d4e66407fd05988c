-- Where all ways out of a set of lines without targets go through one line, there is no pair of paths.
use Rattle.std.proofs.Common.{◌≡◌, ◌⊎◌, inl, inr, refl, ℕ, List, [], ◌∷◌}
use Rattle.il_core.specs.LineGraph.{IsIn}
use Rattle.flow_graph.specs.Search.{IsWalk}
use Rattle.disjoint_paths.specs.Pair.{LeadsTo, HasPair}

-- each arc out of the set R enters the cut C, which is one line at most and not line t, or a line of R that is no target
pub record IsCut (E : ℕ → ℕ → Type 0) (P : ℕ → Type 0) (t : ℕ) (R C : ℕ → Type 0) : Type 0 where
  pub start : R t
  pub closed : (u v : ℕ) → R u → E u v → C v ⊎ (R v × (P v → ⊥))
  pub single : (v w : ℕ) → C v → C w → v ≡ w
  pub away : C t → ⊥

-- a way to a target goes through the cut
through : (E : ℕ → ℕ → Type 0) (P : ℕ → Type 0) (t : ℕ) (R C : ℕ → Type 0) → IsCut E P t R C → (u b : ℕ) (lines : List ℕ) (x : ℕ) → R u → IsWalk E u (b ∷ lines) x → P x
    → (v : ℕ) × IsIn (b ∷ lines) v × C v
through E P t R C cut u b lines x r w p = elim (cut.closed u b r w.0) [
  | inl c ↦ (b, inl refl, c)
  | inr q ↦ further b lines q.0 q.1 w.1
]
  where
    further : (b : ℕ) (lines : List ℕ) → R b → (P b → ⊥) → IsWalk E b lines x → (v : ℕ) × IsIn (b ∷ lines) v × C v
    further b [] r n w = absurd (n (rw w p))
    further b (c ∷ rest) r n w = elim (cut.closed b c r w.0) [
      | inl h ↦ (c, inr (inl refl), h)
      | inr q ↦ let t = further c rest q.0 q.1 w.1 in (t.0, inr t.1, t.2)
    ]

LeadsTo-through : (E : ℕ → ℕ → Type 0) (P : ℕ → Type 0) (t : ℕ) (R C : ℕ → Type 0) → IsCut E P t R C → (lines : List ℕ) → LeadsTo E P t lines → (v : ℕ) × IsIn lines v × C v
LeadsTo-through E P t R C cut [] l = absurd l
LeadsTo-through E P t R C cut (b ∷ lines) l = through E P t R C cut t b lines l.0 cut.start l.1 l.2

pub no_pair : (E : ℕ → ℕ → Type 0) (P : ℕ → Type 0) (t : ℕ) (R C : ℕ → Type 0) → IsCut E P t R C → HasPair E P t → ⊥
no_pair E P t R C cut pair =
    let l = LeadsTo-through E P t R C cut pair.0 pair.2.left_leads in
    let r = LeadsTo-through E P t R C cut pair.1 pair.2.right_leads in
    let same = cut.single r.0 l.0 r.2 l.2 in
    let home : l.0 ≡ t = pair.2.apart l.0 l.1 (rw same at r.1) in
    cut.away (rw home at l.2)

-- where all lines that follow line t are one, and not line t, there is no pair of paths
pub no_fork : (E : ℕ → ℕ → Type 0) (P : ℕ → Type 0) (t : ℕ) → (E t t → ⊥) → ((b c : ℕ) → E t b → E t c → b ≡ c) → HasPair E P t → ⊥
no_fork E P t loop one pair = by_lists pair.0 pair.1 pair.2.left_leads pair.2.right_leads pair.2.apart
  where
    by_lists : (left right : List ℕ) → LeadsTo E P t left → LeadsTo E P t right → ((v : ℕ) → IsIn left v → IsIn right v → v ≡ t) → ⊥
    by_lists [] right l r a = l
    by_lists (b ∷ left) [] l r a = r
    by_lists (b ∷ left) (c ∷ right) l r a =
        let same = one c b r.1.0 l.1.0 in
        let home : b ≡ t = a b (inl refl) (inl same) in
        loop (rw home at l.1.0)
