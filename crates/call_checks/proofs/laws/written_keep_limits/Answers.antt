use Rattle.call_checks.proofs.Few.{few_written}
use Rattle.call_checks.proofs.laws.written_keep_limits.Goals as goal

pub returns : goal.returns
returns c procs begins limits k p e earlier = few_written procs begins limits k p e earlier
