use Rattle.il_inline.specs.Expanded.{whole_of}
use Rattle.malpas.proofs.Outcomes.{has_spans, reported, not_silent}
use Rattle.malpas.proofs.source_text.answer_source.Goals as goal

pub returns-in-Accepted-clause-headline : goal.returns-in-Accepted-clause-headline
returns-in-Accepted-clause-headline g c =
    reported c.args.selection _ _ _ _ _ _ _ (whole_of c.in-Accepted.input.text) c.in-Accepted.input.certs c.report_on.result.report c.report_on.result.status (has_spans c.in-Accepted.input.text c.in-Accepted.ensures.judged.3)
    c.in-Accepted.ensures.judged.0
    (c.in-Accepted.ensures.judged.1, c.in-Accepted.ensures.judged.2)
    c.report_on.ensures.told_of c.report_on.ensures.written

pub returns-in-Accepted-clause-part : goal.returns-in-Accepted-clause-part
returns-in-Accepted-clause-part g c = λ four none.
    absurd (not_silent c.args.selection _ _ _ _ _ (whole_of c.in-Accepted.input.text).text c.report_on.result.report c.report_on.result.status c.report_on.ensures.written four none)
