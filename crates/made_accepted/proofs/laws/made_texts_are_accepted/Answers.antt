use Rattle.made_accepted.proofs.Accepted.{is_accepted, not_refused}
use Rattle.made_accepted.proofs.laws.made_texts_are_accepted.Goals as goal

pub returns-clause-accepted : goal.returns-clause-accepted
returns-clause-accepted c n least most = is_accepted n most c.answers_alike.ensures

pub returns-clause-unrefused : goal.returns-clause-unrefused
returns-clause-unrefused c n least most refusal r = not_refused n most c.answers_alike.ensures c.one_answer.ensures refusal r
