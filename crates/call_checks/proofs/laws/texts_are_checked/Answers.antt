use Rattle.call_checks.proofs.Whole.{text_callable}
use Rattle.call_checks.proofs.laws.texts_are_checked.Goals as goal

pub returns : goal.returns
returns c procs formed limits k callee e = (text_callable procs formed limits k callee e).checked
