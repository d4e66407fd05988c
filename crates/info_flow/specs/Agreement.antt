-- Equal values: two runs that end, and whose initial states agree on what line 0 needs for a variable, end with equal values of it.
use Rattle.std.specs.Prelude.{◌≡◌, ℕ, Bool, true}
use Rattle.il_core.specs.Evaluation.{State, value_at}
use Rattle.il_core.specs.Procedure.{Procedure}
use Rattle.il_core.specs.Run.{Ends}
use Rattle.il_core.specs.Checked.{IsChecked}
use Rattle.flow_graph.specs.Graph.{graph_of}
use Rattle.info_flow.specs.Relevance.{IsClosed}

-- two states give equal values to each place of a set
abbrev pub Agree : (ℕ → Type 0) → State → State → Type 0
Agree P s t = (p : ℕ) → P p → value_at s p ≡ value_at t p

abbrev pub EqualValues : Type 0
EqualValues = (p : Procedure) (v : ℕ) (relevant : ℕ → Bool) (needs : ℕ → ℕ → Bool) (s t to_s to_t : State) → IsChecked p
    → IsClosed (graph_of p) v relevant needs → Ends p s to_s → Ends p t to_t → Agree (λ x. needs 0 x ≡ true) s t → value_at to_s v ≡ value_at to_t v
