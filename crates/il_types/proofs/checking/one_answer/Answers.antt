use Rattle.il_types.specs.Rules.{passes}
use Rattle.il_types.proofs.OneAnswer.{one_refusal}
use Rattle.il_types.proofs.checking.one_answer.Goals as goal

pub returns : goal.returns
returns c = λ stmts a b f g. one_refusal (passes stmts) stmts a b f g
