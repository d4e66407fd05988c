use Rattle.compliance.proofs.OneVerdict.{one_verdict}
use Rattle.compliance.proofs.laws.one_verdict.Goals as goal

pub returns : goal.returns
returns c = one_verdict
