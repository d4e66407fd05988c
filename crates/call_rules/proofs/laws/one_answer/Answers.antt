use Rattle.il_types.proofs.OneAnswer.{one_refusal}
use Rattle.call_rules.specs.Rules.{passes}
use Rattle.call_rules.proofs.laws.one_answer.Goals as goal

pub returns : goal.returns
returns c = λ stmts links a b f g. one_refusal (passes stmts links) stmts a b f g
