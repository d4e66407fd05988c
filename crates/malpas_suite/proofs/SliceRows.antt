-- The slice of a variable, from its least sets.
use Rattle.std.proofs.Common.{ℕ, Bool, List}
use Rattle.flow_graph.specs.declared.graph.FlowGraph.{FlowGraph}
use Rattle.flow_slice.specs.Slice.{IsOutline}
use Rattle.flow_slice.specs.declared.sliced.Outline.{Outline}
use Rattle.info_flow.specs.Growth.{AreLeast, is_relevant, is_needed}
use Rattle.report.specs.Sliced.{IsSliceRow}

-- What a slice keeps and fixes is the row of its variable.
pub row_of : (g : FlowGraph) (v : ℕ) (lines : List Bool) (masks : List ℕ) (outline : Outline) → AreLeast g v lines masks → IsOutline g (is_relevant lines) outline
    → IsSliceRow g (record { place = v; keep = outline.keep; fixed = outline.fixed })
row_of g v lines masks outline least told = record { relevant = is_relevant lines; needs = is_needed masks; least = least.least; outline = told }
