use Rattle.il_built.proofs.CheckedLinesWhole.{procedures_are_checked}
use Rattle.il_built.proofs.laws.procedures_are_checked.Goals as goal

pub returns : goal.returns
returns c = procedures_are_checked
