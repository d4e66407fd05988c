-- The path report of a graph: one plan over the arcs of the reachable lines, from line 0 to the last line, written as the definitions
-- that its answer uses; the words of the whole are exactly the paths from line 0 to the last line.
use Rattle.std.specs.Prelude.{◌≡◌, ◌↔◌, ℕ, ◌-◌, List, map, length, slice_get, slice_index_or, Some}
use Rattle.flow_graph.specs.Graph.{arc_to}
use Rattle.flow_graph.specs.Reached.{IsReached, Lists}
use Rattle.flow_graph.specs.declared.graph.Arc.{Arc}
use Rattle.flow_graph.specs.declared.graph.FlowGraph.{FlowGraph}
use Rattle.regular_algebra.specs.Rule.{finished}
use Rattle.regular_algebra.specs.declared.steps.Ends.{Ends}
use Rattle.path_expr.specs.declared.report.PathReport.{PathReport}
use Rattle.path_expr.specs.Word.{Word}
use Rattle.path_expr.specs.ArcPath.{IsArcPath}
use Rattle.path_expr.specs.Definitions.{AreDefinitions}

-- arc k, counted from 0, leaves a reachable line
abbrev pub IsLive : List Arc → ℕ → Type 0
IsLive arcs k = (a : Arc) × (slice_get arcs k ≡ Some a) × IsReached arcs a.tail

abbrev pub arc_at : List Arc → ℕ → Arc
arc_at arcs k = slice_index_or arcs k (arc_to 0 0)

-- the ends of arc k
abbrev pub end_at : List Arc → ℕ → Ends
end_at arcs k = record { tail = (arc_at arcs k).tail; head = (arc_at arcs k).head }

pub record IsPathReportOf (g : FlowGraph) (order : List ℕ) (p : PathReport) : Type 0 where
  pub live : List ℕ
  pub all_live : Lists (IsLive g.arcs) live
  pub definitions : let made = finished (length g.nodes) (map (end_at g.arcs) live) order in
      AreDefinitions live made.steps (made.entry 0 (length g.nodes - 1)) p.defs p.whole

-- the words of the whole are exactly the paths from line 0 to the last line
abbrev pub WordsArePaths : FlowGraph → PathReport → Type 0
WordsArePaths g p = (w : List ℕ) → Word p.defs p.whole w ↔ IsArcPath g.arcs 0 w (length g.nodes - 1)
