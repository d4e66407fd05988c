use Rattle.std.proofs.Common.{sym, subst, ℕ, Option}
use Rattle.std.specs.Prelude.{map}
use Rattle.il_core.specs.Statement.{placed}
use Rattle.il_blocks.specs.Block.{IsFirst, IsUnmatched}
use Rattle.il_blocks.specs.BlockLabel.{IsMislabelled}
use Rattle.il_blocks.specs.BlockFault.{IsFault}
use Rattle.il_blocks.proofs.BlockFirst.{first_of_either}
use Rattle.il_blocks.proofs.block_fault.first_fault.Goals as goal

pub returns : goal.returns
returns c =
    subst (λ (o : Option ℕ). IsFirst (IsFault (map placed c.args.stmts.now)) o) (sym c.lesser.ensures)
    (first_of_either (IsUnmatched (map placed c.args.stmts.now)) (IsMislabelled (map placed c.args.stmts.now)) c.in_ok-unmatched.unmatched c.first_mislabelled.result
    (c.in_ok-unmatched.ensures {u = tt}) c.first_mislabelled.ensures)
