use Rattle.acceptance.proofs.Accepting.{answer_once}
use Rattle.acceptance.proofs.acceptance.one_answer.Goals as goal

pub returns : goal.returns
returns c = answer_once c.one_reading.ensures c.one_parse.ensures c.one_links.ensures c.one_answer.ensures
