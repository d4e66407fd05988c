use Rattle.il_syntax.proofs.OneAnswer.{one_answer}
use Rattle.il_syntax.proofs.parsing.one_parse.Goals as goal

pub returns : goal.returns
returns c = one_answer
