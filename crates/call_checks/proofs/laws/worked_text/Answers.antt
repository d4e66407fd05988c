use Rattle.call_checks.proofs.Worked.{worked}
use Rattle.call_checks.proofs.laws.worked_text.Goals as goal

pub returns : goal.returns
returns c = worked
