use Rattle.std.proofs.Common.{◌≡◌, ◌+◌, ◌∙◌, List, length, map, sym, ap, subst, arith}
use Rattle.std.proofs.lemmas.List.{length_push}
use Rattle.il_core.specs.Checked.{IsChecked}
use Rattle.il_called.specs.Called.{called_of, procedure_of, written_of}
use Rattle.il_called.specs.Expansion.{procedure_in, expansion_of, callees_of}
use Rattle.il_called.specs.declared.called.CalledProc.{CalledProc}
use Rattle.il_inline.specs.Calls.{AllCall}
use Rattle.il_inline.specs.Fits.{AreShort}
use Rattle.il_inline.specs.Held.{callees_held, expansion_held, HaveNames}
use Rattle.il_inline.proofs.Texts.{next_of, next_calls, next_checked, next_short, next_whole, all_expanded, parts_made, as_read, names_more}
use Rattle.il_inline.proofs.expanding.expand_procedures.Goals as goal

pub expand_procedure-requires-clause-calls : goal.expand_procedure-requires-clause-calls
expand_procedure-requires-clause-calls c =
    let ps = c.as_slice-written.result.now in
    let xs = c.loop-proc.inlined.items in
    let p = c.proc-item.result in
    let next = next_of ps xs c.loop-proc.proc-index p c.loop-proc.invariant.size c.loop-proc-test.true c.proc-item.is c.loop-proc.invariant.whole in
    let same = ap (map procedure_of) (sym (c.as_slice-written.ensures ∙ c.procs.ensures.value)) in
    as_read (λ x a l. AllCall (callees_held ps x) (map written_of l)) c.as_slice.result.now xs c.as_slice-in-loop-proc.result.now p.places c.as_slice-in-loop-proc-2.result.now p.lines
    c.as_slice.ensures.value c.as_slice-in-loop-proc.ensures c.as_slice-in-loop-proc-2.ensures (next_calls (called_of c.args.text.now) ps xs p same c.procs.ensures.checked next)

pub expand_procedure-requires-clause-checked : goal.expand_procedure-requires-clause-checked
expand_procedure-requires-clause-checked c =
    let ps = c.as_slice-written.result.now in
    let xs = c.loop-proc.inlined.items in
    let p = c.proc-item.result in
    let next = next_of ps xs c.loop-proc.proc-index p c.loop-proc.invariant.size c.loop-proc-test.true c.proc-item.is c.loop-proc.invariant.whole in
    let same = ap (map procedure_of) (sym (c.as_slice-written.ensures ∙ c.procs.ensures.value)) in
    as_read (λ x a l. IsChecked (procedure_in (expansion_of (callees_held ps x) (length x) (parts_made p.name a l)))) c.as_slice.result.now xs c.as_slice-in-loop-proc.result.now p.places
    c.as_slice-in-loop-proc-2.result.now p.lines c.as_slice.ensures.value c.as_slice-in-loop-proc.ensures c.as_slice-in-loop-proc-2.ensures (next_checked (called_of c.args.text.now) ps xs p same c.procs.ensures.checked next)

pub expand_procedure-requires-clause-short : goal.expand_procedure-requires-clause-short
expand_procedure-requires-clause-short c =
    let ps = c.as_slice-written.result.now in
    let xs = c.loop-proc.inlined.items in
    let p = c.proc-item.result in
    let next = next_of ps xs c.loop-proc.proc-index p c.loop-proc.invariant.size c.loop-proc-test.true c.proc-item.is c.loop-proc.invariant.whole in
    let same = ap (map procedure_of) (sym (c.as_slice-written.ensures ∙ c.procs.ensures.value)) in
    as_read (λ x a l. AreShort (expansion_of (callees_held ps x) (length x) (parts_made p.name a l)).places) c.as_slice.result.now xs c.as_slice-in-loop-proc.result.now p.places
    c.as_slice-in-loop-proc-2.result.now p.lines c.as_slice.ensures.value c.as_slice-in-loop-proc.ensures c.as_slice-in-loop-proc-2.ensures (next_short (called_of c.args.text.now) ps xs p same c.procs.ensures.checked next)

pub loop-proc-preserved : goal.loop-proc-preserved
loop-proc-preserved c =
    let ps = c.as_slice-written.result.now in
    let xs = c.loop-proc.inlined.items in
    let p = c.proc-item.result in
    let x = c.in_ok-next.next in
    let next = next_of ps xs c.loop-proc.proc-index p c.loop-proc.invariant.size c.loop-proc-test.true c.proc-item.is c.loop-proc.invariant.whole in
    let made = as_read (λ it a l. expansion_held x ≡ expansion_of (callees_held ps it) (length it) (parts_made p.name a l)) xs c.as_slice.result.now p.places c.as_slice-in-loop-proc.result.now
    p.lines c.as_slice-in-loop-proc-2.result.now (sym c.as_slice.ensures.value) (sym c.as_slice-in-loop-proc.ensures) (sym c.as_slice-in-loop-proc-2.ensures) c.in_ok-next.ensures.expansion in
    record {
      size = ap length c.in_ok-push.ensures.items ∙ length_push xs x ∙ ap (λ n. n + 1) c.loop-proc.invariant.size;
      names = subst (HaveNames ps) (sym c.in_ok-push.ensures.items) (names_more ps xs p x next.is c.in_ok-next.ensures.name c.loop-proc.invariant.names);
      whole = next_whole ps xs c.push.new.self.items c.loop-proc.proc-index p x next c.loop-proc.invariant.size c.in_ok-push.ensures.items made;
    }

pub returns-clause-callees : goal.returns-clause-callees
returns-clause-callees c =
    let ps = c.as_slice-written.result.now in
    let same = c.as_slice-written.ensures ∙ c.procs.ensures.value in
    subst (λ (q : List CalledProc). callees_held q c.loop-proc.inlined.items ≡ callees_of (map procedure_of q)) same
    (all_expanded ps c.loop-proc.inlined.items c.loop-proc.proc-index (omega arith) c.loop-proc.invariant.whole)

pub returns-clause-names : goal.returns-clause-names
returns-clause-names c =
    subst (λ (q : List CalledProc). HaveNames q c.loop-proc.inlined.items) (c.as_slice-written.ensures ∙ c.procs.ensures.value) c.loop-proc.invariant.names
