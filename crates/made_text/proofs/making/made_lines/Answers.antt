use Rattle.made_text.proofs.Counted.{made_ends}
use Rattle.made_text.proofs.making.made_lines.Goals as goal

pub returns : goal.returns
returns c = made_ends
