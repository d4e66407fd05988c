use Rattle.request.proofs.Exactly.{one_answer}
use Rattle.request.proofs.reading.one_request.Goals as goal

pub returns : goal.returns
returns c = one_answer
