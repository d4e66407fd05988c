use Rattle.std.proofs.Common.{◌≡◌, ◌+◌, ◌<◌, length, refl, ap, subst, slice_get, IfSome, ◌∙◌, arith}
use Rattle.std.proofs.lemmas.List.{length_push, length-map}
use Rattle.il_core.specs.Text.{text_procedure, text_of}
use Rattle.il_inline.specs.Expanded.{whole_of}
use Rattle.report.specs.Reported.{IsProcReportOf}
use Rattle.report.proofs.Fronts.{told_none, told_next}
use Rattle.malpas.proofs.Sent.{sent_none, sent_more, cut_in}
use Rattle.malpas.proofs.reporting.write_parts.Goals as goal

pub loop-number-init : goal.loop-number-init
loop-number-init g c = record {
  so_far = record {
    told_of = told_none _ _ _ c.requires.title c.requires.profile c.requires.none;
    made = ap length c.requires.none;
    sent = sent_none c.args.selection _ _ _ c.requires.none;
    told = refl;
    later = omega arith;
  };
  untouched = λ _. refl;
}

pub returns-in-Err-write_next-clause-told_of : goal.returns-in-Err-write_next-clause-told_of
returns-in-Err-write_next-clause-told_of g c =
    let done = c.loop-number.invariant.so_far in
    let procs = (text_of c.args.input.now.text.text).procs in
    let inside : c.loop-number.number < length procs = omega (arith, c.loop-number-test.true, c.len-number-end.ensures, ap length c.procs.ensures.value, length-map c.args.input.now.text.text.procs text_procedure) in
    let report = subst (λ certs. IfSome (slice_get procs c.loop-number.number) (λ p. IsProcReportOf certs p c.in-Ok.part)) c.as_slice-certs.ensures c.in-Ok.ensures.report in
    told_next c.args.input.now.certs (whole_of c.args.input.now.text) c.loop-number.number c.loop-number.report (record c.loop-number.report { procs = c.push.new.self }) c.in-Ok.part
    inside done.made done.told_of report c.in-Ok.ensures.calls c.in-Ok.ensures.runs refl refl c.in-Ok-push.ensures.ok

pub returns-in-Err-write_next-clause-sent : goal.returns-in-Err-write_next-clause-sent
returns-in-Err-write_next-clause-sent g c =
    let done = c.loop-number.invariant.so_far in
    let sent = c.in-Err-write_next.ensures.sent in
    cut_in c.args.selection _ _ _ _ _ _ _ _ c.loop-number.report (record c.loop-number.report { procs = c.push.new.self }) c.in-Ok.part refl refl c.in-Ok-push.ensures.ok done.sent sent.0 sent.1 done.later sent.2

pub loop-number-preserved : goal.loop-number-preserved
loop-number-preserved g c =
    let done = c.loop-number.invariant.so_far in
    let pushed = c.in-Ok-push.ensures.ok in
    let procs = (text_of c.args.input.now.text.text).procs in
    let inside : c.loop-number.number < length procs = omega (arith, c.loop-number-test.true, c.len-number-end.ensures, ap length c.procs.ensures.value, length-map c.args.input.now.text.text.procs text_procedure) in
    let report = subst (λ certs. IfSome (slice_get procs c.loop-number.number) (λ p. IsProcReportOf certs p c.in-Ok.part)) c.as_slice-certs.ensures c.in-Ok.ensures.report in
    let sent = c.in-Ok-write_next.ensures.sent in
    let longer : length c.push.new.self ≡ c.loop-number.number + 1 = ap length pushed ∙ length_push c.loop-number.report.procs c.in-Ok.part ∙ ap (λ n. n + 1) done.made in
    record {
      so_far = record {
        told_of = told_next c.args.input.now.certs (whole_of c.args.input.now.text) c.loop-number.number c.loop-number.report (record c.loop-number.report { procs = c.push.new.self }) c.in-Ok.part
            inside done.made done.told_of report c.in-Ok.ensures.calls c.in-Ok.ensures.runs refl refl pushed;
        made = longer;
        sent = sent_more c.args.selection _ _ _ _ _ c.loop-number.report (record c.loop-number.report { procs = c.push.new.self }) c.in-Ok.part refl refl pushed done.sent sent.0 sent.1;
        told = c.write_next.ensures.told ∙ done.told;
        later = omega (arith, done.later, c.write_next.ensures.later);
      };
      untouched = λ none. let zero : length c.push.new.self ≡ 0 = ap length none in absurd (omega (arith, zero, longer));
    }
