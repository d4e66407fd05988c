use Rattle.il_blocks.proofs.BlockLaw as law
use Rattle.il_blocks.proofs.block_fault.one_links.Goals as goal

pub returns : goal.returns
returns c = law.one_links
