-- The slices of a procedure, one for each variable: the reachable lines that are relevant to the variable, and the reachable tests that are not, each with the truth value to which the slice fixes it.
use Rattle.std.specs.Prelude.{◌≡◌, ℕ, Bool, List, map}
use Rattle.flow_graph.specs.declared.graph.FlowGraph.{FlowGraph}
use Rattle.flow_slice.specs.Slice.{IsOutline}
use Rattle.il_core.specs.LineGraph.{IsIn}
use Rattle.il_core.specs.declared.line.Place.{Place}
use Rattle.info_flow.specs.Relevance.{IsLeastClosed}
use Rattle.info_flow.specs.Sources.{variables_from}
use Rattle.report.specs.declared.report.SliceRow.{SliceRow}

-- the row of a variable, for the least sets of relevant lines and needed places
pub record IsSliceRow (g : FlowGraph) (row : SliceRow) : Type 0 where
  pub relevant : ℕ → Bool
  pub needs : ℕ → ℕ → Bool
  pub least : IsLeastClosed g row.place relevant needs
  pub outline : IsOutline g relevant (record { keep = row.keep; fixed = row.fixed })

-- a row for each variable, in the order of the places
pub record AreSlices (g : FlowGraph) (places : List Place) (rows : List SliceRow) : Type 0 where
  pub variables : map (λ row. row.place) rows ≡ variables_from 0 places
  pub each : (row : SliceRow) → IsIn rows row → IsSliceRow g row
