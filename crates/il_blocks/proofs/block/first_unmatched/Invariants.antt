use Rattle.std.proofs.Common.{◌<◌, ℕ, reverse}
use Rattle.std.specs.Prelude.{map}
use Rattle.il_core.specs.Statement.{placed}
use Rattle.il_blocks.specs.Block.{IsUnmatched}
use Rattle.il_blocks.proofs.BlockStack.{IsStack}
use Rattle.il_blocks.proofs.block.first_unmatched.Given as goal

abbrev pub invariant-loop-i : goal.invariant-loop-i
invariant-loop-i l = IsStack (map placed l.stmts) l.i (reverse l.blocks.items) × ((j : ℕ) → j < l.i → IsUnmatched (map placed l.stmts) j → ⊥)
