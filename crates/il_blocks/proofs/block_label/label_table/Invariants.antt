use Rattle.std.proofs.Common.{◌≡◌, ◌≤◌}
use Rattle.std.specs.Prelude.{map}
use Rattle.il_core.specs.Statement.{placed}
use Rattle.il_blocks.specs.BlockLabel.{owner, IsTable}
use Rattle.il_blocks.proofs.block_label.label_table.Given as goal

abbrev pub invariant-loop-i : goal.invariant-loop-i
invariant-loop-i l = (l.inside ≤ l.i) × (l.inside ≡ owner (map placed l.stmts) l.i) × IsTable (map placed l.stmts) l.i l.labels.entries
