-- The heads cut every cycle that can be reached from the first line of a region.
use Rattle.std.proofs.Common.{inl, inr, ap, ◌∙◌, subst, ℕ, ◌<◌, Some, List, [], ◌∷◌, ◌++◌, length, arith}
use Rattle.std.proofs.lemmas.List.{length-map}
use Rattle.il_core.specs.LineGraph.{IsIn, IsPath}
use Rattle.il_core.specs.Procedure.{Procedure}
use Rattle.il_core.specs.Checked.{IsChecked}
use Rattle.line_machine.specs.Cut.{CyclesAreCut, IsMarked}
use Rattle.flow_graph.specs.Graph.{graph_of, node_of, returned_from, Joins}
use Rattle.flow_graph.specs.Search.{IsWalk}
use Rattle.flow_graph.specs.Reached.{IsReached}
use Rattle.flow_graph.proofs.Formed.{graph_formed}
use Rattle.flow_graph.proofs.LineArcs.{IsWalk-from_path}
use Rattle.flow_graph.proofs.Spreading.{walk_on}
use Rattle.control_flow.specs.Loop.{IsHead}
use Rattle.control_flow.specs.declared.control.LoopInfo.{LoopInfo}
use Rattle.control_flow.proofs.OneEntry.{head_on_cycle}
use Rattle.control_flow.proofs.Walks.{walk_end, walk_join}
use Rattle.region_paths.specs.Region.{first_lines, head_marks}
use Rattle.region_paths.specs.Laws.{BeginsRegion}
use Rattle.region_paths.proofs.Marks.{mark_of, is_head-in}

-- a head is one of the procedure's lines
pub head_inside : (p : Procedure) (h : ℕ) → IsChecked p → IsHead (graph_of p).arcs h → h < length p.lines
head_inside p h c head = omega (arith, ((graph_formed p c).arcs _ head.1.arc).head_inside, length-map p.lines (node_of (returned_from 0 p.places)))

-- the first line of a region is reached
pub first_reached : (p : Procedure) (loops : List LoopInfo) (pc : ℕ) → BeginsRegion p loops pc → IsReached (graph_of p).arcs pc
first_reached p loops pc b = by_case b.first
  where
    from_head : IsHead (graph_of p).arcs pc → IsReached (graph_of p).arcs pc
    from_head h = (h.1.reached.0 ++ pc ∷ [], walk_on (Joins (graph_of p).arcs) 0 h.1.reached.0 h.0 pc h.1.reached.1 h.1.arc)

    by_case : IsIn (first_lines loops) pc → IsReached (graph_of p).arcs pc
    by_case (inl e) = ([], e)
    by_case (inr i) = from_head ((b.regions.loops_of.heads.exact pc).0 i)

-- the mark of a head
pub head_marked : (p : Procedure) (loops : List LoopInfo) (pc h : ℕ) → BeginsRegion p loops pc → IsHead (graph_of p).arcs h → IsMarked (head_marks (length p.lines) loops) h
head_marked p loops pc h b head =
    mark_of (length p.lines) loops h (head_inside p h b.checked head)
    ∙ ap Some (is_head-in loops h ((b.regions.loops_of.heads.exact h).1 head))

-- a closed walk comes to each of its lines
on_round : (E : ℕ → ℕ → Type 0) (a b : ℕ) (lines : List ℕ) (h : ℕ) → IsWalk E a (b ∷ lines) a → IsIn (a ∷ b ∷ lines) h → IsIn (b ∷ lines) h
on_round E a b lines h w (inl e) = subst (λ (x : ℕ). IsIn (b ∷ lines) x) e (walk_end E b lines a w.1)
on_round E a b lines h w (inr i) = i

pub heads_cut : (p : Procedure) (loops : List LoopInfo) (pc : ℕ) → BeginsRegion p loops pc → CyclesAreCut p (head_marks (length p.lines) loops) pc
heads_cut p loops pc b = λ before round q to around some. cut_at q before round to around some
  where
    E : ℕ → ℕ → Type 0
    E = Joins (graph_of p).arcs

    cut_at : (q : ℕ) (before round : List ℕ) → IsPath p pc before q → IsPath p q round q → 0 < length round
        → (r : ℕ) × IsIn round r × IsMarked (head_marks (length p.lines) loops) r
    cut_at q before [] to around some = absurd (omega arith)
    cut_at q before (s ∷ lines) to around some =
        let reached = first_reached p loops pc b in
        let walk = IsWalk-from_path p q (s ∷ lines) q around in
        let t = head_on_cycle (graph_of p).arcs q s lines b.regions.reducible
        (reached.0 ++ before, walk_join (Joins (graph_of p).arcs) 0 reached.0 pc before q reached.1 (IsWalk-from_path p pc before q to)) walk in
        (t.0, on_round (Joins (graph_of p).arcs) q s lines t.0 walk t.1, head_marked p loops pc t.0 b t.2)
