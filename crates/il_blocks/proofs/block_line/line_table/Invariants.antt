use Rattle.std.proofs.Common.{◌≡◌, ◌≤◌}
use Rattle.std.specs.Prelude.{map}
use Rattle.il_core.specs.Statement.{placed}
use Rattle.il_blocks.specs.BlockLink.{line}
use Rattle.il_blocks.proofs.BlockLines.{LinesSoFar}
use Rattle.il_blocks.proofs.block_line.line_table.Given as goal

abbrev pub invariant-loop-i : goal.invariant-loop-i
invariant-loop-i l = (l.next ≤ l.i) × (l.next ≡ line (map placed l.stmts) l.i) × LinesSoFar (map placed l.stmts) l.i l.lines.items
