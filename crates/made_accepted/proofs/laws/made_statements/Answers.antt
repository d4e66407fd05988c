use Rattle.made_accepted.proofs.Reading.{is_said}
use Rattle.made_accepted.proofs.laws.made_statements.Goals as goal

pub returns : goal.returns
returns c n least most = is_said n most
