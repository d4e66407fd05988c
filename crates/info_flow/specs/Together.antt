-- The sets of all variables together: for each, in the order of the places, the least sets of relevant lines and needed places.
use Rattle.std.specs.Prelude.{◌≡◌, List, map}
use Rattle.il_core.specs.LineGraph.{IsIn}
use Rattle.il_core.specs.declared.line.Place.{Place}
use Rattle.flow_graph.specs.declared.graph.FlowGraph.{FlowGraph}
use Rattle.info_flow.specs.declared.relevance.VariableSets.{VariableSets}
use Rattle.info_flow.specs.Growth.{AreLeast}
use Rattle.info_flow.specs.Sources.{variables_from}

-- the sets of a variable are its least closed sets
abbrev pub HaveLeast : FlowGraph → VariableSets → Type 0
HaveLeast g found = AreLeast g found.place found.sets.lines found.sets.needs

-- so are those of each variable
pub record AreLeastOfEach (g : FlowGraph) (places : List Place) (found : List VariableSets) : Type 0 where
  pub variables : map (λ sets. sets.place) found ≡ variables_from 0 places
  pub each : (sets : VariableSets) → IsIn found sets → HaveLeast g sets
