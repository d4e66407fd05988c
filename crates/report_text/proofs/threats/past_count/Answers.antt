use Rattle.std.proofs.Common.{rules}
use Rattle.report_text.proofs.threats.past_count.Goals as goal

pub returns : goal.returns
returns c = search rules depth 9
