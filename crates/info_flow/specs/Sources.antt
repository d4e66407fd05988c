-- The rows of information flow: for each variable the places whose initial values decide its final value, and the tests that decide it.
use Rattle.std.specs.Prelude.{◌≡◌, ℕ, suc, Bool, true, List, [], ◌∷◌, map, if◌then◌else◌}
use Rattle.il_core.specs.LineGraph.{IsIn}
use Rattle.il_core.specs.Run.{Ends, is_variable}
use Rattle.il_core.specs.Evaluation.{State, value_at}
use Rattle.il_core.specs.Procedure.{Procedure}
use Rattle.il_core.specs.Checked.{IsChecked}
use Rattle.il_core.specs.declared.line.Place.{Place}
use Rattle.flow_graph.specs.declared.graph.FlowGraph.{FlowGraph}
use Rattle.flow_graph.specs.Graph.{graph_of}
use Rattle.flow_graph.specs.Reached.{IsReached, Lists}
use Rattle.info_flow.specs.declared.row.FlowRow.{FlowRow}
use Rattle.info_flow.specs.Relevance.{IsTest, IsLeastClosed}
use Rattle.info_flow.specs.Agreement.{Agree}

-- the numbers of the variables among places that are numbered from k on
abbrev pub variables_from : ℕ → List Place → List ℕ
variables_from k [] = []
variables_from k (p ∷ ps) = if is_variable p then k ∷ variables_from (suc k) ps else variables_from (suc k) ps

-- the sources of a variable are the places that line 0 needs for it, and its tests the reachable tests that are relevant to it
pub record AreSources (g : FlowGraph) (row : FlowRow) : Type 0 where
  pub relevant : ℕ → Bool
  pub needs : ℕ → ℕ → Bool
  pub least : IsLeastClosed g row.place relevant needs
  pub sources : Lists (λ p. needs 0 p ≡ true) row.sources
  pub tests : Lists (λ k. IsReached g.arcs k × IsTest g.nodes k × (relevant k ≡ true)) row.tests

-- a row for each variable, in the order of the places
pub record AreFlows (g : FlowGraph) (places : List Place) (rows : List FlowRow) : Type 0 where
  pub variables : map (λ row. row.place) rows ≡ variables_from 0 places
  pub each : (row : FlowRow) → IsIn rows row → AreSources g row

-- in each checked procedure with this graph and these places, two runs that end, and whose initial states agree on the
-- sources of a row, end with equal values of its variable
abbrev pub HaveEqualValues : FlowGraph → List Place → List FlowRow → Type 0
HaveEqualValues g places rows = (p : Procedure) → IsChecked p → graph_of p ≡ g → p.places ≡ places → (row : FlowRow) → IsIn rows row
    → (s t to_s to_t : State) → Ends p s to_s → Ends p t to_t → Agree (IsIn row.sources) s t → value_at to_s row.place ≡ value_at to_t row.place
