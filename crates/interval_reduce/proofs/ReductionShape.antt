-- The answer of a shape: evidence for two entries shows a twice entered cycle, so a shape is reducible exactly where none is.
use Rattle.std.proofs.Common.{◌≡◌, inl, inr, refl, subst, ℕ, List, [], ◌∷◌, ◌++◌, arith}
use Rattle.std.specs.Prelude.{◌↔◌}
use Rattle.il_core.specs.LineGraph.{IsIn}
use Rattle.flow_graph.specs.Graph.{Joins, IsWellFormed}
use Rattle.flow_graph.specs.Search.{IsWalk}
use Rattle.flow_graph.specs.Meeting.{Meets, IsMetAt}
use Rattle.flow_graph.specs.declared.graph.FlowGraph.{FlowGraph}
use Rattle.flow_graph.proofs.Members.{IsIn-push, IsIn-push_cases, IsIn-append_left}
use Rattle.control_flow.specs.Cycle.{HasTwiceEntered, IsReducible, IsEntry, ShowsTwoEntries}
use Rattle.control_flow.specs.Control.{IsShape}
use Rattle.control_flow.specs.declared.control.Shape.{Shape}
use Rattle.control_flow.specs.declared.control.Shape.TheVariants.{Reducible, TwoEntries}
use Rattle.interval_reduce.specs.declared.interval.Derivation.{Derivation}
use Rattle.interval_reduce.specs.Derivation.{EndsInOne, IsDerivationOf}
use Rattle.interval_reduce.proofs.ReductionGraph.{reduces}

-- a walk meets sets with the same members alike
meets_same : (E : ℕ → ℕ → Type 0) (P Q : ℕ → Type 0) → ((k : ℕ) → P k ↔ Q k) → (a : ℕ) (lines : List ℕ) (x : ℕ) → Meets E P a lines x → Meets E Q a lines x
meets_same E P Q same a [] x m = (m.0, (same a).0 m.1)
meets_same E P Q same a (c ∷ rest) x m = ((λ q. m.0 ((same a).1 q)), m.1, meets_same E P Q same c rest x m.2)

entry_met : (E : ℕ → ℕ → Type 0) (r : ℕ) (cycle path : List ℕ) (x : ℕ) → IsEntry E r cycle path x → IsMetAt E r (IsIn cycle) x
entry_met E r cycle [] x e = absurd e
entry_met E r cycle (a ∷ rest) x e = (rest, subst (λ (s : ℕ). Meets E (IsIn cycle) s rest x) e.0 e.2)

-- a closed walk with the members of a set that is met first at two lines
closed_walk : (E : ℕ → ℕ → Type 0) (r a : ℕ) (rest lines : List ℕ) (x y : ℕ) → rest ++ a ∷ [] ≡ lines → IsWalk E a lines a → IsMetAt E r (IsIn (a ∷ rest)) x
    → IsMetAt E r (IsIn (a ∷ rest)) y → (x ≡ y → ⊥) → HasTwiceEntered E r
closed_walk E r a rest [] x y e w p q n = absurd (subst (λ (l : List ℕ). IsIn l a) e (IsIn-push rest a))
closed_walk E r a rest (b ∷ lines) x y e w p q n = (a, b, lines, w, (x, y, met x p, met y q, n))
  where
    same : (k : ℕ) → IsIn (a ∷ rest) k ↔ IsIn (a ∷ b ∷ lines) k
    same k = subst (λ (l : List ℕ). IsIn (a ∷ rest) k ↔ IsIn (a ∷ l) k) e (there, back)
      where
        there : IsIn (a ∷ rest) k → IsIn (a ∷ (rest ++ a ∷ [])) k
        there h = IsIn-append_left (a ∷ rest) (a ∷ []) k h

        back : IsIn (a ∷ (rest ++ a ∷ [])) k → IsIn (a ∷ rest) k
        back h = elim (IsIn-push_cases (a ∷ rest) a k h) [ inl i ↦ i | inr s ↦ inl s ]

    met : (z : ℕ) → IsMetAt E r (IsIn (a ∷ rest)) z → IsMetAt E r (IsIn (a ∷ b ∷ lines)) z
    met z m = (m.0, meets_same E (IsIn (a ∷ rest)) (IsIn (a ∷ b ∷ lines)) same r m.0 z m.1)

-- a cycle that is shown with two entries is twice entered
pub twice_from_shown : (E : ℕ → ℕ → Type 0) (r : ℕ) (cycle first second : List ℕ) → ShowsTwoEntries E r cycle first second → HasTwiceEntered E r
twice_from_shown E r [] first second s = absurd s.is_cycle
twice_from_shown E r (a ∷ rest) first second s =
    let d = s.differ in
    closed_walk E r a rest (rest ++ a ∷ []) s.x s.y refl s.is_cycle.0 (entry_met E r (a ∷ rest) first s.x s.at_x) (entry_met E r (a ∷ rest) second s.y s.at_y)
    (λ e. omega arith)

-- a shape is reducible exactly where the graph is
pub shape_tells : (g : FlowGraph) (shape : Shape) → IsShape g shape → IsReducible (Joins g.arcs) 0 ↔ (shape ≡ Reducible)
shape_tells g Reducible is = ((λ h. refl), λ e. is)
shape_tells g (TwoEntries e) is = ((λ h. absurd (h (twice_from_shown (Joins g.arcs) 0 e.cycle e.first_path e.second_path is))), λ s. absurd (cc))

-- the levels end with one interval exactly where the shape is reducible
pub ends_by_shape : (g : FlowGraph) (shape : Shape) (d : Derivation) → IsWellFormed g → IsShape g shape → IsDerivationOf g shape d → EndsInOne d.levels ↔ (shape ≡ Reducible)
ends_by_shape g shape d f is of =
    let r = (reduces g shape d f is of).one in
    let t = shape_tells g shape is in
    ((λ h. t.0 (r.0 h)), λ e. r.1 (t.1 e))
