use Rattle.std.proofs.Common.{◌≡◌, ◌<◌, length, arith}
use Rattle.std.proofs.lemmas.List.{length-map}
use Rattle.il_core.specs.Text.{text_procedure, text_of}
use Rattle.malpas.proofs.Ended.{given, ended, ended_in, ended_short}
use Rattle.malpas.proofs.reporting.report_on.Goals as goal
use Rattle.malpas.proofs.reporting.report_on.Goals.{in-Ok, in-Err-Failed, in-Err-NoMemory}

pub returns-clause-written : goal.returns-clause-written
returns-clause-written g c =
    let text = text_of c.args.input.now.text.text in
    let same = length-map c.args.input.now.text.text.procs text_procedure in
    let report = c.write_parts.new.report in
    let gives = c.then_some.ensures in
    let empty = c.is_empty-reported.ensures in
    elim c.match-write_parts.branch [
      | in-Ok w ↦
          let sent = w.in-Ok.ensures.sent in
          let full : 0 < length text.procs = omega (arith, same, c.profile.ensures.checked.some_procedures) in
          let whole : length report.procs ≡ length text.procs = omega (arith, same, sent.0) in
          rw (w.sink-is, w.status-is, given report c.is_empty-reported.result c.then_some.result gives empty.0 (omega (arith, full, whole)))
          (ended c.args.selection _ _ _ _ _ _ _ _ text report _ full whole sent.1 w.write_end-status.ensures.sent w.write_end-status.ensures.low c.write_parts.ensures.later)
      | in-Err-Failed w ↦
          let cut = rw w.in-Err-Failed.field-0-is at w.in-Err-Failed.ensures.sent in
          rw (w.sink-is, given report c.is_empty-reported.result c.then_some.result gives empty.0 cut.some) (ended_in c.args.selection _ _ _ _ _ text report _ w.status-is cut)
      | in-Err-NoMemory w ↦
          let sent = rw w.in-Err-NoMemory.field-0-is at w.in-Err-NoMemory.ensures.sent in
          let fewer : length report.procs < length text.procs = omega (arith, same, sent.0) in
          rw w.sink-is (ended_short c.args.selection _ _ _ _ _ text report c.is_empty-reported.result c.then_some.result _ w.status-is gives empty.1 fewer sent.1)
    ]
