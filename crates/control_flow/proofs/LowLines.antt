-- Low lines: walks that pass no greater line, which come to the tails of an arc around its head.
use Rattle.std.proofs.Common.{◌≡◌, ◌⊎◌, inl, inr, refl, ap, ℕ, zero, suc, ◌<◌, Bool, true, List, [], ◌∷◌, ◌++◌, length, arith}
use Rattle.std.specs.Prelude.{◌↔◌}
use Rattle.il_core.specs.LineGraph.{IsIn}
use Rattle.flow_graph.specs.Graph.{Joins}
use Rattle.flow_graph.specs.Search.{IsMarked}
use Rattle.flow_graph.specs.declared.graph.Arc.{Arc}
use Rattle.flow_graph.proofs.Members.{IsIn-push_cases}
use Rattle.flow_graph.proofs.Spreading.{walk_on}
use Rattle.control_flow.specs.Loop.{IsHead}
use Rattle.control_flow.specs.Forward.{IsForward, IsReachedAround, IsReachedBelow}

-- the head of an arc up from a low line is low
pub low_on : (arcs : List Arc) (u v : ℕ) → IsReachedBelow arcs u → Joins arcs u v → u < v → IsReachedBelow arcs v
low_on arcs u v r a l = (
  r.0 ++ v ∷ [],
  walk_on (Joins arcs) 0 r.0 u v r.1 a,
  λ j i. elim (IsIn-push_cases (0 ∷ r.0) v j i) [
    | inl old ↦ let m = r.2 j old in omega (arith, m, l)
    | inr new ↦ omega (arith, new)
  ],
)

-- a low line is reached around each greater line
pub low_around : (arcs : List Arc) (u v : ℕ) → IsReachedBelow arcs u → u < v → IsReachedAround arcs v u
low_around arcs u v r l = (r.0, r.1, λ i. let m = r.2 v i in omega (arith, m, l))

-- a marked line behind a push is one from before, or the one pushed
pub marked_push : (marks : List Bool) (b : Bool) (k : ℕ) → IsMarked (marks ++ b ∷ []) k → IsMarked marks k ⊎ ((k ≡ length marks) × (b ≡ true))
marked_push [] b zero h = inr (refl, h)
marked_push [] b (suc k) h = inl h
marked_push (c ∷ marks) b zero h = inl h
marked_push (c ∷ marks) b (suc k) h = elim (marked_push marks b k h) [ inl old ↦ inl old | inr new ↦ inr (ap suc new.0, new.1) ]

-- where all lines before a line are low and less than it, all arcs into it go forward
pub low_forward : (arcs : List Arc) (row : List ℕ) (v : ℕ) → ((u : ℕ) → IsIn row u ↔ Joins arcs u v) → ((u : ℕ) → IsIn row u → (u < v) × IsReachedBelow arcs u)
    → (u : ℕ) → IsIn row u ↔ IsForward arcs u v
low_forward arcs row v j low u = (λ i. ((j u).0 i, low_around arcs u v (low u i).1 (low u i).0), λ p. (j u).1 p.0)

-- and it is no loop head
pub low_no_head : (arcs : List Arc) (row : List ℕ) (v : ℕ) → ((u : ℕ) → IsIn row u ↔ Joins arcs u v) → ((u : ℕ) → IsIn row u → (u < v) × IsReachedBelow arcs u)
    → IsHead arcs v → ⊥
low_no_head arcs row v j low h =
    let f = ((low_forward arcs row v j low h.0).0 ((j h.0).1 h.1.arc)).1 in
    f.2 (h.1.through f.0 f.1)
