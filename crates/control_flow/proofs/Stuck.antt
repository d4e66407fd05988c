-- The marks of the reached lines from which the last line is not reached.
use Rattle.std.proofs.Common.{◌≡◌, ℕ, ◌+◌, ◌-◌, ◌≤◌, Bool, List, length, arith}
use Rattle.std.specs.Prelude.{◌↔◌}
use Rattle.flow_graph.specs.Graph.{Joins}
use Rattle.flow_graph.specs.Search.{IsMarked, IsUnmarked, Reaches}
use Rattle.flow_graph.specs.Reached.{IsReached}
use Rattle.flow_graph.specs.declared.graph.FlowGraph.{FlowGraph}
use Rattle.control_flow.specs.Control.{IsStuck}
use Rattle.control_flow.proofs.Listing.{not_both, unmarked_from}

pub stuck_marks : (g : FlowGraph) (reached ends slice both marks : List Bool) → 2 ≤ length g.nodes → ((k : ℕ) → IsMarked reached k ↔ IsReached g.arcs k)
    → ((k last : ℕ) → last + 1 ≡ length g.nodes → IsMarked ends k ↔ Reaches (Joins g.arcs) k last) → slice ≡ ends
    → ((k : ℕ) → IsMarked both k ↔ (IsMarked reached k × IsUnmarked slice k)) → marks ≡ both → (k : ℕ) → IsMarked marks k ↔ IsStuck g k
stuck_marks g reached ends slice both marks two r e s b m k = rw m (there, back)
  where
    there : IsMarked both k → IsStuck g k
    there i = let p = (b k).0 i in ((r k).0 p.0, λ last l w. not_both ends k ((e k last l).1 w) (rw s at p.1))

    back : IsStuck g k → IsMarked both k
    back t = (b k).1 (
      (r k).1 t.0,
      rw s (unmarked_from ends k (λ i.
          let l : (length g.nodes - 1) + 1 ≡ length g.nodes = omega (arith, two) in
          t.1 (length g.nodes - 1) l ((e k (length g.nodes - 1) l).0 i))),
    )
