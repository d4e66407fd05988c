use Rattle.call_checks.proofs.Whole.{expansion_callable}
use Rattle.call_checks.proofs.laws.expansions_are_checked.Goals as goal

pub returns : goal.returns
returns c callees number p callable formed limits = expansion_callable callees number p callable formed limits
