-- Walks: they are cut at their lines, and where they end in a set they meet it first at one of its lines.
use Rattle.std.proofs.Common.{◌⊎◌, inl, inr, refl, ℕ, List, [], ◌∷◌}
use Rattle.il_core.specs.LineGraph.{IsIn}
use Rattle.flow_graph.specs.Search.{IsWalk}
use Rattle.flow_graph.specs.Meeting.{Meets}
use Rattle.control_flow.proofs.Walks.{walk_cut}

-- a set that is decided at each number
abbrev pub IsDecided : (ℕ → Type 0) → Type 0
IsDecided P = (k : ℕ) → P k ⊎ (P k → ⊥)

-- each line of one walk, its start among them, is one of another
abbrev pub StandsIn : List ℕ → List ℕ → Type 0
StandsIn xs ys = (k : ℕ) → IsIn xs k → IsIn ys k

-- the part of a walk up to one of its lines
pub walk_to : (E : ℕ → ℕ → Type 0) (a : ℕ) (lines : List ℕ) (b k : ℕ) → IsWalk E a lines b → IsIn (a ∷ lines) k
    → (front : List ℕ) × IsWalk E a front k × StandsIn (a ∷ front) (a ∷ lines)
walk_to E a lines b k w h = let c = walk_cut E a lines b k w h in (c.front, c.to, c.early)

-- the part of a walk from one of its lines on
pub walk_from : (E : ℕ → ℕ → Type 0) (a : ℕ) (lines : List ℕ) (b k : ℕ) → IsWalk E a lines b → IsIn (a ∷ lines) k
    → (back : List ℕ) × IsWalk E k back b × StandsIn (k ∷ back) (a ∷ lines)
walk_from E a lines b k w h = let c = walk_cut E a lines b k w h in (c.back, c.on, c.late)

-- a walk with a line in a set meets it first
pub first_met : (E : ℕ → ℕ → Type 0) (P : ℕ → Type 0) → IsDecided P → (a : ℕ) (lines : List ℕ) (b : ℕ) → IsWalk E a lines b → P b
    → (x : ℕ) × (front : List ℕ) × Meets E P a front x × StandsIn (a ∷ front) (a ∷ lines)
first_met E P decided a [] b w p = (a, [], (refl, rw w p), λ m h. h)
first_met E P decided a (c ∷ rest) b w p = elim (decided a) [
  | inl q ↦ (a, [], (refl, q), λ m h. elim h [ inl s ↦ inl s | inr n ↦ absurd n ])
  | inr n ↦ let t = first_met E P decided c rest b w.1 p in (t.0, c ∷ t.1, (n, w.0, t.2), λ m h. elim h [ inl s ↦ inl s | inr i ↦ inr (t.3 m i) ])
]

-- the line at which a walk meets a set is its last
pub met_last : (E : ℕ → ℕ → Type 0) (P : ℕ → Type 0) (a : ℕ) (lines : List ℕ) (x : ℕ) → Meets E P a lines x → IsIn (a ∷ lines) x
met_last E P a [] x m = inl m.0
met_last E P a (c ∷ rest) x m = inr (met_last E P c rest x m.2)

-- up to any other of its lines it keeps outside the set
pub met_before : (E : ℕ → ℕ → Type 0) (P : ℕ → Type 0) (a : ℕ) (lines : List ℕ) (x k : ℕ) → Meets E P a lines x → IsIn (a ∷ lines) k → (P k → ⊥)
    → (front : List ℕ) × IsWalk E a front k × ((m : ℕ) → IsIn (a ∷ front) m → P m → ⊥)
met_before E P a [] x k m (inl e) n = absurd (n (rw (← e) m.1))
met_before E P a [] x k m (inr h) n = absurd h
met_before E P a (c ∷ rest) x k m (inl e) n = ([], e, λ j h p. elim h [ inl s ↦ m.0 (rw s p) | inr i ↦ i ])
met_before E P a (c ∷ rest) x k m (inr h) n =
    let t = met_before E P c rest x k m.2 h n in
    (c ∷ t.0, (m.1, t.1), λ j i p. elim i [ inl s ↦ m.0 (rw s p) | inr r ↦ t.2 j r p ])
