-- Steps and arcs: each step of the line machine that does not halt goes along an arc, and the walks of the graph are the paths of the procedure.
use Rattle.std.specs.Prelude.{◌≡◌, ◌↔◌, ℕ, List}
use Rattle.il_core.specs.Evaluation.{State}
use Rattle.il_core.specs.Machine.{step}
use Rattle.il_core.specs.Procedure.{Procedure}
use Rattle.il_core.specs.LineGraph.{IsPath}
use Rattle.il_core.specs.Run.{IsInRange}
use Rattle.il_core.specs.Checked.{IsChecked}
use Rattle.il_core.specs.declared.line.Next.TheVariants.{At}
use Rattle.flow_graph.specs.Graph.{graph_of, Joins}
use Rattle.flow_graph.specs.Search.{IsWalk}

abbrev pub StepsGoAlongArcs : Type 0
StepsGoAlongArcs = (p : Procedure) (pc : ℕ) (s : State) (q : ℕ) → IsChecked p → IsInRange p.places s → (step p pc s).next ≡ At q
    → Joins (graph_of p).arcs pc q

abbrev pub WalksArePaths : Type 0
WalksArePaths = (p : Procedure) (a : ℕ) (lines : List ℕ) (b : ℕ) → IsWalk (Joins (graph_of p).arcs) a lines b ↔ IsPath p a lines b
