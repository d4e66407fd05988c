use Rattle.std.proofs.Common.{◌≡◌, ◌<◌, length, arith}
use Rattle.std.proofs.lemmas.List.{length-map}
use Rattle.il_core.specs.Text.{text_procedure, text_of}
use Rattle.malpas.proofs.Ended.{given}
use Rattle.malpas.proofs.Summed.{summed, unsummed}
use Rattle.malpas.proofs.made.summarise.Goals as goal
use Rattle.malpas.proofs.made.summarise.Goals.{in-Ok, in-Err}

pub returns-clause-written : goal.returns-clause-written
returns-clause-written g c =
    let text = text_of c.args.text.now.text in
    let same = length-map c.args.text.now.text.procs text_procedure in
    let report = c.make_parts.new.report in
    let gives = c.then_some.ensures in
    let empty = c.is_empty-reported.ensures in
    elim c.match-make_parts.branch [
      | in-Ok w ↦
          let made = w.in-Ok.ensures.made in
          let full : 0 < length text.procs = omega (arith, same, c.profile.ensures.checked.some_procedures) in
          let whole : length report.procs ≡ length text.procs = omega (arith, same, made) in
          rw (w.sink-is, w.status-is, given report c.is_empty-reported.result c.then_some.result gives empty.0 (omega (arith, full, whole)))
          (summed _ _ _ _ _ _ _ text report _ whole w.write_summary-status.ensures.low w.write_summary-status.ensures.sent)
      | in-Err w ↦
          let fewer : length report.procs < length text.procs = omega (arith, same, w.in-Err.ensures.made) in
          rw w.sink-is (unsummed _ _ _ _ _ _ _ text report c.is_empty-reported.result c.then_some.result _ w.status-is gives fewer)
    ]
