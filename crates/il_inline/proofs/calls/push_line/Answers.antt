use Rattle.std.proofs.Common.{◌≡◌, ◌+◌, ◌++◌, ◌≤◌, ◌∙◌, sym, ap, subst, length, map, List, IfOk}
use Rattle.il_core.specs.Procedure.{Instruction, instruction_of}
use Rattle.il_called.specs.Called.{passed_of}
use Rattle.il_called.specs.Expansion.{call_lines, call_width}
use Rattle.il_called.specs.declared.called.Argument.{Argument}
use Rattle.il_inline.specs.declared.layout.Slot.{Slot}
use Rattle.il_inline.specs.Held.{place_under, callee_held, callees_held}
use Rattle.il_inline.specs.Slots.{slot_in}
use Rattle.il_inline.specs.Within.{AreWithin}
use Rattle.il_inline.proofs.Held.{held_read, width_held, brings_held, lines_held}
use Rattle.il_inline.proofs.calls.push_line.Goals as goal

pub push_call-requires-clause-within : goal.push_call-requires-clause-within
push_call-requires-clause-within c =
    let below = rw c.in-Call.is at c.requires.fits.below in
    let it = callee_held c.index-written-callee.result c.index-inlined-callee.result in
    let held = held_read c.args.written.now c.args.inlined.now c.in-Call.callee c.index-written-callee.result c.index-inlined-callee.result c.requires.sizes below c.index-written-callee.is c.index-inlined-callee.is in
    let at = slot_in c.args.layout.now c.args.at in
    subst (λ (s : Slot). AreWithin (call_lines c.args.places.now (place_under c.args.under) s.base s.start it (map passed_of c.as_slice.result.now))) (sym c.slot.ensures)
    (subst (λ (a : List Argument). AreWithin (call_lines c.args.places.now (place_under c.args.under) at.base at.start it (map passed_of a))) (sym c.as_slice.ensures)
    (subst AreWithin
    (lines_held (callees_held c.args.written.now c.args.inlined.now) c.args.places.now c.args.under c.args.layout.now c.args.at c.in-Call.callee (map passed_of c.in-Call.arguments) it held)
    (rw c.in-Call.is at c.requires.within)))

pub push_call-requires-clause-start : goal.push_call-requires-clause-start
push_call-requires-clause-start c =
    let below = rw c.in-Call.is at c.requires.fits.below in
    let it = callee_held c.index-written-callee.result c.index-inlined-callee.result in
    let held = held_read c.args.written.now c.args.inlined.now c.in-Call.callee c.index-written-callee.result c.index-inlined-callee.result c.requires.sizes below c.index-written-callee.is c.index-inlined-callee.is in
    subst (λ (s : Slot). s.start + call_width it ≤ 1000) (sym c.slot.ensures)
    (subst (λ k. (slot_in c.args.layout.now c.args.at).start + k ≤ 1000)
    (width_held (callees_held c.args.written.now c.args.inlined.now) c.in-Call.callee (map passed_of c.in-Call.arguments) it held) (rw c.in-Call.is at c.requires.fits.start))

pub push_call-requires-clause-base : goal.push_call-requires-clause-base
push_call-requires-clause-base c =
    let below = rw c.in-Call.is at c.requires.fits.below in
    let it = callee_held c.index-written-callee.result c.index-inlined-callee.result in
    let held = held_read c.args.written.now c.args.inlined.now c.in-Call.callee c.index-written-callee.result c.index-inlined-callee.result c.requires.sizes below c.index-written-callee.is c.index-inlined-callee.is in
    subst (λ (s : Slot). s.base + length it.expanded.places ≤ 64) (sym c.slot.ensures)
    (subst (λ k. (slot_in c.args.layout.now c.args.at).base + k ≤ 64)
    (brings_held (callees_held c.args.written.now c.args.inlined.now) c.in-Call.callee (map passed_of c.in-Call.arguments) it held) (rw c.in-Call.is at c.requires.fits.base))

pub returns-in-Call : goal.returns-in-Call
returns-in-Call c =
    let below = rw c.in-Call.is at c.requires.fits.below in
    let it = callee_held c.index-written-callee.result c.index-inlined-callee.result in
    let held = held_read c.args.written.now c.args.inlined.now c.in-Call.callee c.index-written-callee.result c.index-inlined-callee.result c.requires.sizes below c.index-written-callee.is c.index-inlined-callee.is in
    let at = slot_in c.args.layout.now c.args.at in
    let same =
    ap (λ (s : Slot). call_lines c.args.places.now (place_under c.args.under) s.base s.start it (map passed_of c.as_slice.result.now)) c.slot.ensures
    ∙ ap (λ (a : List Argument). call_lines c.args.places.now (place_under c.args.under) at.base at.start it (map passed_of a)) c.as_slice.ensures
    ∙ sym (lines_held (callees_held c.args.written.now c.args.inlined.now) c.args.places.now c.args.under c.args.layout.now c.args.at c.in-Call.callee (map passed_of c.in-Call.arguments) it held) in
    rw c.in-Call.is
    (subst (λ (l : List Instruction). IfOk c.push_call.result (λ x. map instruction_of c.push_call.new.out ≡ map instruction_of c.args.out.now ++ l)) same c.push_call.ensures)
