-- Laws of slices: a slice of a checked procedure is checked, and where a run of the procedure ends, the run of the slice from the same state ends with the same value of the variable.
use Rattle.std.specs.Prelude.{◌≡◌, ℕ, Bool}
use Rattle.il_core.specs.Evaluation.{State, value_at}
use Rattle.il_core.specs.Procedure.{Procedure}
use Rattle.il_core.specs.Run.{Ends}
use Rattle.il_core.specs.Checked.{IsChecked}
use Rattle.flow_graph.specs.Graph.{graph_of}
use Rattle.info_flow.specs.Relevance.{IsClosed}
use Rattle.flow_slice.specs.Slice.{IsSlice}

abbrev pub SlicesAreChecked : Type 0
SlicesAreChecked = (p slice : Procedure) (relevant : ℕ → Bool) → IsChecked p → IsSlice p relevant slice → IsChecked slice

-- some run of the procedure from state s ends with this value of place v
abbrev pub EndsWith : Procedure → State → ℕ → State → Type 0
EndsWith p s v other = (last : State) × Ends p s last × (value_at last v ≡ value_at other v)

-- where a run of one procedure ends, a run of the other from the same state ends with the same value of place v
abbrev pub EndAlike : Procedure → Procedure → ℕ → Type 0
EndAlike p slice v = (s last : State) → Ends p s last → EndsWith slice s v last

-- so do a procedure and its slice for closed sets of lines that are relevant to a variable and of places that they need
abbrev pub SlicesEndAlike : Type 0
SlicesEndAlike = (p slice : Procedure) (v : ℕ) (relevant : ℕ → Bool) (needs : ℕ → ℕ → Bool) → IsChecked p → IsClosed (graph_of p) v relevant needs
    → IsSlice p relevant slice → EndAlike p slice v
