use Rattle.made_accepted.proofs.Blocks.{none_at_fault, no_call}
use Rattle.made_accepted.proofs.Rules.{none_broken}
use Rattle.made_accepted.proofs.laws.made_statements_have_no_fault.Goals as goal

pub returns : goal.returns
returns c n least most = (none_at_fault n, none_broken n most, no_call n)
