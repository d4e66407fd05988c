use Rattle.std.proofs.Common.{◌≡◌, ◌+◌, ◌≤◌, ◌<◌, length, ap, ◌∙◌, refl, arith}
use Rattle.std.proofs.lemmas.List.{length_push, length-map}
use Rattle.il_core.specs.Text.{text_procedure, text_of}
use Rattle.il_inline.specs.Expanded.{whole_of}
use Rattle.report.proofs.Clean.{no_bad_run}
use Rattle.report.proofs.Fronts.{told_next, told_all}
use Rattle.malpas_suite.proofs.whole.analyse.Goals as goal

pub loop-number-preserved : goal.loop-number-preserved
loop-number-preserved c =
    let done = c.loop-number.invariant in
    let inside : c.loop-number.number < length (text_of c.args.text.now.text).procs = omega (arith, c.loop-number-test.true, c.len-number-end.ensures, ap length c.procs.ensures.value, length-map c.args.text.now.text.procs text_procedure) in
    record {
      told = told_next c.args.certs.now (whole_of c.args.text.now) c.loop-number.number c.loop-number.report (record c.loop-number.report { procs = c.push.new.self }) c.in_ok-part.part
          inside done.made done.told c.in_ok-part.ensures.report c.in_ok-part.ensures.calls c.in_ok-part.ensures.runs refl refl c.in_ok-push.ensures.ok;
      made = ap length c.in_ok-push.ensures.ok ∙ length_push c.loop-number.report.procs c.in_ok-part.part ∙ ap (λ n. n + 1) done.made;
    }

pub returns-clause-clean : goal.returns-clause-clean
returns-clause-clean c =
    let x = whole_of c.args.text.now in
    let told = c.loop-number.invariant.told in
    let many : length x.text.procs ≤ length c.loop-number.report.procs =
    omega (arith, c.loop-number-test.false, c.len-number-end.ensures, ap length c.procs.ensures.value, length-map c.args.text.now.text.procs text_procedure, c.loop-number.invariant.made) in
    let spans : length x.spans ≡ length x.text.procs = omega (arith, c.requires.fits.spans, length-map c.args.text.now.text.procs text_procedure) in
    λ clean. no_bad_run c.args.certs.now x c.loop-number.report (told_all c.args.certs.now x c.loop-number.report many spans told) told.1.certified clean
