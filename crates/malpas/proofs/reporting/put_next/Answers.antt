use Rattle.std.proofs.Common.{sym}
use Rattle.form_text.proofs.Written.{prefix_more, writes_behind}
use Rattle.malpas.proofs.Sent.{next_is}
use Rattle.malpas.proofs.reporting.put_next.Goals as goal

pub returns-in-Ok-clause-text : goal.returns-in-Ok-clause-text
returns-in-Ok-clause-text g c =
    let last = sym c.in-Some.ensures.value in
    rw (next_is c.args.selection c.args.report.now c.as_slice.result.now c.in-Some.part.now c.as_slice.ensures last) (writes_behind _ _ _ _ _ _ c.in-Ok.ensures.text c.put_part.ensures.text)

pub returns-in-Err-clause-text : goal.returns-in-Err-clause-text
returns-in-Err-clause-text g c = prefix_more _ _ _ _ c.in-Err.ensures.text
