-- Cycles that all walks enter at one line: that line stands before each line of the cycle, and is a loop head.
use Rattle.std.proofs.Common.{◌≡◌, inl, inr, refl, sym, ◌∙◌, ℕ, List, [], ◌∷◌, ◌++◌}
use Rattle.std.proofs.lemmas.Bool.{cases_eq}
use Rattle.il_core.specs.LineGraph.{IsIn}
use Rattle.flow_graph.specs.Graph.{Joins}
use Rattle.flow_graph.specs.Search.{IsWalk}
use Rattle.flow_graph.specs.Reached.{IsReached}
use Rattle.flow_graph.specs.Meeting.{IsMetAt, IsOnEvery}
use Rattle.flow_graph.specs.declared.graph.Arc.{Arc}
use Rattle.flow_graph.proofs.Members.{IsIn-push_cases}
use Rattle.flow_graph.proofs.Spreading.{walk_on}
use Rattle.control_flow.specs.Cycle.{IsTwiceEntered, IsReducible}
use Rattle.control_flow.specs.Loop.{IsHead}
use Rattle.control_flow.specs.Forward.{AreRows, InRow, IsForward}
use Rattle.control_flow.proofs.Walks.{in_or, walk_end, walk_join, walk_cut, first_meeting, met_inside, met_walk, met_only, arc_into, around}
use Rattle.control_flow.proofs.Pigeons.{closing, first_or}

-- the one line at which a set is met first stands before each of its lines
pub one_entry : (E : ℕ → ℕ → Type 0) (r : ℕ) (cycle : List ℕ) (x : ℕ) → ((y : ℕ) → IsMetAt E r (IsIn cycle) y → y ≡ x) → (c : ℕ) → IsIn cycle c → IsOnEvery E r x c
one_entry E r cycle x one c i lines w =
    let t = first_meeting E cycle r lines c w i in
    t.3 x (rw (one t.0 (t.1, t.2)) at (walk_end E r t.1 t.0 (met_walk E (IsIn cycle) r t.1 t.0 t.2)))

-- a cycle of reachable lines in a graph without one that is twice entered holds a loop head
pub head_on_cycle : (arcs : List Arc) (a b : ℕ) (lines : List ℕ) → IsReducible (Joins arcs) 0 → IsReached arcs a → IsWalk (Joins arcs) a (b ∷ lines) a
    → (h : ℕ) × IsIn (a ∷ b ∷ lines) h × IsHead arcs h
head_on_cycle arcs a b lines red reached w =
    let t = first_meeting (Joins arcs) (a ∷ b ∷ lines) 0 reached.0 a reached.1 (inl refl) in
    let inside = met_inside (Joins arcs) (IsIn (a ∷ b ∷ lines)) 0 t.1 t.0 t.2 in
    let u = arc_into (Joins arcs) a b lines t.0 w inside in
    let k = walk_cut (Joins arcs) a (b ∷ lines) a u.0 w u.2 in (
      t.0,
      inside,
      (
        u.0,
        record {
          arc = u.1;
          reached = (reached.0 ++ k.front, walk_join (Joins arcs) 0 reached.0 a k.front u.0 reached.1 k.to);
          through = one_entry (Joins arcs) 0 (a ∷ b ∷ lines) t.0 (same t.0 (t.1, t.2)) u.0 u.2;
        },
      ),
    )
  where
    same : (x : ℕ) → IsMetAt (Joins arcs) 0 (IsIn (a ∷ b ∷ lines)) x → (y : ℕ) → IsMetAt (Joins arcs) 0 (IsIn (a ∷ b ∷ lines)) y → y ≡ x
    same x mx y my = elim (cases_eq y x) [ inl e ↦ e | inr n ↦ absurd (red (a, b, lines, w, (y, x, my, mx, n))) ]

-- a set into each line of which a forward arc goes from inside has more than one entry
pub two_entries : (arcs : List Arc) (set : List ℕ) (x a : ℕ) → IsIn set a → IsReached arcs a → ((m : ℕ) → IsIn set m → (u : ℕ) × IsForward arcs u m × IsIn set u)
    → ((y : ℕ) → IsMetAt (Joins arcs) 0 (IsIn set) y → y ≡ x) → ⊥
two_entries arcs set x a i reached before one =
    let t = first_meeting (Joins arcs) set 0 reached.0 a reached.1 i in
    let inside = met_inside (Joins arcs) (IsIn set) 0 t.1 t.0 t.2 in
    let u = before x (rw (one t.0 (t.1, t.2)) at inside) in
    let f = u.1.1 in
    f.2 (one_entry (Joins arcs) 0 set x one u.0 u.2 f.0 f.1)

-- a line before which each tail of an arc to it from a set stands, stands before each line that comes to it inside the set
back_along : (E : ℕ → ℕ → Type 0) (r m : ℕ) (set : List ℕ) → ((c : ℕ) → IsIn set c → E c m → IsOnEvery E r m c) → (c : ℕ) (lines : List ℕ) → IsWalk E c lines m
    → ((j : ℕ) → IsIn (c ∷ lines) j → IsIn set j) → IsOnEvery E r m c
back_along E r m set d c [] w i = λ ls v. rw (← w) (walk_end E r ls c v)
back_along E r m set d c (e ∷ rest) w i = λ ls v. by_case ls v (back_along E r m set d e rest w.1 (λ j h. i j (inr h)) (ls ++ e ∷ []) (walk_on E r ls c e v w.0))
  where
    by_case : (ls : List ℕ) → IsWalk E r ls c → IsIn (r ∷ (ls ++ e ∷ [])) m → IsIn (r ∷ ls) m
    by_case ls v (inl s) = inl s
    by_case ls v (inr h) = elim (IsIn-push_cases ls e m h) [ inl old ↦ inr old | inr new ↦ d c (i c (inl refl)) (rw new at w.0) ls v ]

-- a line of a cycle to which no forward arc goes from the cycle is its one entry
only_entry : (arcs : List Arc) (a b : ℕ) (lines : List ℕ) (m : ℕ) → IsWalk (Joins arcs) a (b ∷ lines) a → IsIn (a ∷ b ∷ lines) m
    → ((c : ℕ) → IsIn (a ∷ b ∷ lines) c → IsForward arcs c m → ⊥) → (x : ℕ) → IsMetAt (Joins arcs) 0 (IsIn (a ∷ b ∷ lines)) x → m ≡ x
only_entry arcs a b lines m w i none x t =
    let inside = met_inside (Joins arcs) (IsIn (a ∷ b ∷ lines)) 0 t.0 x t.1 in
    let v = around (Joins arcs) a (b ∷ lines) x m w inside i in
    let before = back_along (Joins arcs) 0 m (a ∷ b ∷ lines) through x v.0 v.1 v.2 in
    met_only (Joins arcs) (IsIn (a ∷ b ∷ lines)) 0 t.0 x m t.1 (before t.0 (met_walk (Joins arcs) (IsIn (a ∷ b ∷ lines)) 0 t.0 x t.1)) i
  where
    through : (c : ℕ) → IsIn (a ∷ b ∷ lines) c → Joins arcs c m → IsOnEvery (Joins arcs) 0 m c
    through c j e = λ ls v. elim (in_or (0 ∷ ls) m) [ inl here ↦ here | inr not ↦ absurd (none c j (e, (ls, v, not))) ]

-- where no cycle has forward arcs alone, none is twice entered
pub reducible_from : (count : ℕ) (arcs : List Arc) (rows : List (List ℕ)) → AreRows count (IsForward arcs) rows
    → ((a b : ℕ) (lines : List ℕ) → IsWalk (InRow rows) a (b ∷ lines) a → ⊥) → IsReducible (Joins arcs) 0
reducible_from count arcs rows r none t = by_case t.0 t.1 t.2 t.3 t.4
  where
    by_case : (a b : ℕ) (lines : List ℕ) → IsWalk (Joins arcs) a (b ∷ lines) a → IsTwiceEntered (Joins arcs) 0 (a ∷ b ∷ lines) → ⊥
    by_case a b lines w e = elim (first_or rows (a ∷ b ∷ lines) (a ∷ b ∷ lines)) [
      | inl m ↦
          let none_in = λ (c : ℕ) (i : IsIn (a ∷ b ∷ lines) c) (f : IsForward arcs c m.0). m.2 c i ((r.exact c m.0).1 f) in
          let at_x = only_entry arcs a b lines m.0 w m.1 none_in e.0 e.2 in
          let at_y = only_entry arcs a b lines m.0 w m.1 none_in e.1 e.3 in
          e.4 (sym at_x ∙ at_y)
      | inr p ↦ let c = closing (InRow rows) (a ∷ b ∷ lines) p a (inl refl) in none c.a c.b c.lines c.walk
    ]
