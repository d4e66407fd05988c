use Rattle.std.proofs.Common.{reverse}
use Rattle.std.specs.Prelude.{map}
use Rattle.il_core.specs.Statement.{placed}
use Rattle.il_blocks.proofs.BlockMates.{SoFar}
use Rattle.il_blocks.proofs.block_mate.find_mates.Given as goal

abbrev pub invariant-loop-i : goal.invariant-loop-i
invariant-loop-i l = SoFar (map placed l.stmts) l.i (reverse l.blocks.items) l.ends.items l.heads.items
