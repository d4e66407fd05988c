use Rattle.il_blocks.proofs.BlockFirst.{one_match}
use Rattle.il_blocks.proofs.block_fault.one_match.Goals as goal

pub returns : goal.returns
returns c = one_match
