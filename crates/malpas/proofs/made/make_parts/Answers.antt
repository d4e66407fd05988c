use Rattle.std.proofs.Common.{◌+◌, ◌<◌, [], length, refl, ap, ◌∙◌, arith}
use Rattle.std.proofs.lemmas.List.{length_push, length-map}
use Rattle.il_core.specs.Text.{text_procedure, text_of}
use Rattle.il_inline.specs.Expanded.{whole_of}
use Rattle.report.proofs.Fronts.{told_none, told_next}
use Rattle.malpas.proofs.made.make_parts.Goals as goal

pub loop-number-init : goal.loop-number-init
loop-number-init c = record {
  told_of = told_none _ _ _ c.requires.title c.requires.profile c.requires.none;
  made = ap length c.requires.none;
}

pub loop-number-preserved : goal.loop-number-preserved
loop-number-preserved c =
    let done = c.loop-number.invariant in
    let pushed = c.in-Ok-push.ensures.ok in
    let inside : c.loop-number.number < length (text_of c.args.text.now.text).procs = omega (arith, c.loop-number-test.true, c.len-number-end.ensures, ap length c.procs.ensures.value, length-map c.args.text.now.text.procs text_procedure) in
    record {
      told_of = told_next [] (whole_of c.args.text.now) c.loop-number.number c.loop-number.report (record c.loop-number.report { procs = c.push.new.self }) c.in-Ok.part inside done.made done.told_of
          c.in-Ok.ensures.report c.in-Ok.ensures.calls c.in-Ok.ensures.runs refl refl pushed;
      made = ap length pushed ∙ length_push c.loop-number.report.procs c.in-Ok.part ∙ ap (λ n. n + 1) done.made;
    }
