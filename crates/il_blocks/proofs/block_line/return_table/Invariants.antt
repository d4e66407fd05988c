use Rattle.std.specs.Prelude.{map}
use Rattle.il_core.specs.Statement.{placed}
use Rattle.il_blocks.proofs.BlockLines.{ReturnsFrom}
use Rattle.il_blocks.proofs.block_line.return_table.Given as goal

abbrev pub invariant-loop-i : goal.invariant-loop-i
invariant-loop-i l = ReturnsFrom (map placed l.stmts) l.i l.end l.returns.items
