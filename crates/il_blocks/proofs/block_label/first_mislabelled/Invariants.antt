use Rattle.std.proofs.Common.{◌≡◌, ◌≤◌, ◌<◌, ℕ}
use Rattle.std.specs.Prelude.{map}
use Rattle.il_core.specs.Statement.{placed}
use Rattle.il_blocks.specs.BlockLabel.{owner, IsMislabelled}
use Rattle.il_blocks.proofs.block_label.first_mislabelled.Given as goal

abbrev pub invariant-loop-i : goal.invariant-loop-i
invariant-loop-i l = (l.inside ≤ l.i) × (l.inside ≡ owner (map placed l.stmts) l.i) × ((j : ℕ) → j < l.i → IsMislabelled (map placed l.stmts) j → ⊥)
