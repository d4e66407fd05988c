use Rattle.std.proofs.Common.{◌+◌, ◌≤◌, length, ap, ◌∙◌, arith}
use Rattle.std.proofs.lemmas.List.{length_push, length-map}
use Rattle.il_core.specs.Text.{text_procedure, text_of}
use Rattle.malpas_literals.proofs.Each.{found_next, found_all}
use Rattle.malpas_literals.proofs.threats.all_threatened.Goals as goal

pub loop-proc-preserved : goal.loop-proc-preserved
loop-proc-preserved c = record {
  found = found_next c.args.text.now c.as_slice-proc-items.result.now c.loop-proc.proc-index c.proc-item.result c.loop-proc.all c.push.new.self c.in_ok-next.next
      (c.as_slice-proc-items.ensures ∙ c.procs.ensures.value) c.loop-proc-test.true c.proc-item.is c.loop-proc.invariant.made c.loop-proc.invariant.found
      c.in_ok-next.ensures c.in_ok-push.ensures.ok;
  made = ap length c.in_ok-push.ensures.ok ∙ length_push c.loop-proc.all c.in_ok-next.next ∙ ap (λ n. n + 1) c.loop-proc.invariant.made;
}

pub returns : goal.returns
returns c =
    let text = text_of c.args.text.now in
    let items = ap length (c.as_slice-proc-items.ensures ∙ c.procs.ensures.value) in
    let many : length text.procs ≤ length c.loop-proc.all =
    omega (arith, length-map c.args.text.now.procs text_procedure, items, c.loop-proc-test.false, c.loop-proc.invariant.made) in
    found_all text.procs c.loop-proc.all many c.loop-proc.invariant.found
