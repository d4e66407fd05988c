use Rattle.std.proofs.Common.{◌≡◌, ◌⊎◌, ℕ, ◌↔◌, length, take}
use Rattle.il_core.specs.LineGraph.{IsIn}
use Rattle.flow_graph.specs.Search.{row_of}
use Rattle.control_flow.proofs.splitting.extend_rows.Given as goal

abbrev pub invariant-loop-line : goal.invariant-loop-line
invariant-loop-line l = record {
  size : length l.rows.items ≡ length l.initial.rows.items;
  exact : (a b : ℕ) → IsIn (row_of l.rows.items a) b ↔ (IsIn (row_of l.initial.rows.items a) b ⊎ (IsIn (take l.line-index l.lines) a × (b ≡ l.item)));
}
