use Rattle.std.proofs.Common.{◌≡◌, ◌≤◌}
use Rattle.std.specs.Prelude.{map}
use Rattle.il_core.specs.Statement.{placed}
use Rattle.il_blocks.specs.BlockLabel.{owner}
use Rattle.il_blocks.proofs.BlockLinks.{LinksSoFar}
use Rattle.il_blocks.proofs.block_link.links.Given as goal

abbrev pub invariant-loop-i : goal.invariant-loop-i
invariant-loop-i l = (l.inside ≤ l.i) × (l.inside ≡ owner (map placed l.stmts) l.i) × LinksSoFar (map placed l.stmts) l.i l.links
