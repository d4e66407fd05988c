-- A region begins at line 0 or at a loop head. Its inputs are the initial states for line 0, and all states in range for a head.
use Rattle.std.specs.Prelude.{ℕ, zero, suc, Bool, false, ◌||◌, List, [], ◌∷◌, ◌++◌, nat_eq, if◌then◌else◌}
use Rattle.il_core.specs.Procedure.{Procedure}
use Rattle.flow_graph.specs.Graph.{graph_of, Joins}
use Rattle.control_flow.specs.Cycle.{IsReducible}
use Rattle.control_flow.specs.Control.{AreLoops, heads_of}
use Rattle.control_flow.specs.declared.control.LoopInfo.{LoopInfo}

-- the first lines of the regions, ascending
abbrev pub first_lines : List LoopInfo → List ℕ
first_lines loops = 0 ∷ heads_of loops

abbrev pub is_head : List LoopInfo → ℕ → Bool
is_head [] q = false
is_head (l ∷ loops) q = nat_eq l.head q || is_head loops q

-- the leading assertions of a head's loop
abbrev pub leading_of : List LoopInfo → ℕ → List ℕ
leading_of [] h = []
leading_of (l ∷ loops) h = if nat_eq l.head h then l.leading else leading_of loops h

-- for each of the first n lines, whether it is a head
abbrev pub head_marks : ℕ → List LoopInfo → List Bool
head_marks zero loops = []
head_marks (suc n) loops = head_marks n loops ++ is_head loops n ∷ []

-- the loops are those of the procedure, and no cycle of it is twice entered
pub record AreRegions (p : Procedure) (loops : List LoopInfo) : Type 0 where
  pub loops_of : AreLoops (graph_of p) loops
  pub reducible : IsReducible (Joins (graph_of p).arcs) 0
