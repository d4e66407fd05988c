use Rattle.std.specs.Prelude.{map, string_bytes}
use Rattle.malpas.proofs.Summed.{asked_made}
use Rattle.malpas.proofs.top.malpas.Goals as goal

pub returns-in-Some-generate-clause-headline : goal.returns-in-Some-generate-clause-headline
returns-in-Some-generate-clause-headline g c =
    asked_made (map string_bytes c.args.words.now) c.in-Some.request c.in-Some-generate.number _ _ _ _ c.answer_made.result.report c.answer_made.result.status
    c.in-Some.ensures c.in-Some-generate.is c.answer_made.ensures.headline
