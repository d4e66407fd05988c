use Rattle.std.proofs.Common.{◌≡◌, ◌+◌, ◌≤◌, sym, subst, map, IfOk}
use Rattle.il_called.specs.Called.{passed_of}
use Rattle.il_inline.specs.declared.layout.Slot.{Slot}
use Rattle.il_inline.specs.Held.{callees_held}
use Rattle.il_inline.proofs.Held.{held_read, width_held, brings_held, slot_call}
use Rattle.il_inline.proofs.layout.slot_behind.Goals as goal

pub slot_behind_call-requires-clause-lines : goal.slot_behind_call-requires-clause-lines
slot_behind_call-requires-clause-lines c =
    let below = rw c.in-Call.is at c.requires.below in
    let held = held_read c.args.written.now c.args.inlined.now c.in-Call.callee c.index-written-callee.result c.index-inlined-callee.result c.requires.sizes below c.index-written-callee.is c.index-inlined-callee.is in
    subst (λ k. c.args.before.start + k ≤ 1000) (width_held (callees_held c.args.written.now c.args.inlined.now) c.in-Call.callee (map passed_of c.in-Call.field-1) _ held)
    (rw c.in-Call.is at c.requires.lines)

pub slot_behind_call-requires-clause-places : goal.slot_behind_call-requires-clause-places
slot_behind_call-requires-clause-places c =
    let below = rw c.in-Call.is at c.requires.below in
    let held = held_read c.args.written.now c.args.inlined.now c.in-Call.callee c.index-written-callee.result c.index-inlined-callee.result c.requires.sizes below c.index-written-callee.is c.index-inlined-callee.is in
    subst (λ k. c.args.before.base + k ≤ 64) (brings_held (callees_held c.args.written.now c.args.inlined.now) c.in-Call.callee (map passed_of c.in-Call.field-1) _ held)
    (rw c.in-Call.is at c.requires.places)

pub returns-in-Call : goal.returns-in-Call
returns-in-Call c =
    let below = rw c.in-Call.is at c.requires.below in
    let held = held_read c.args.written.now c.args.inlined.now c.in-Call.callee c.index-written-callee.result c.index-inlined-callee.result c.requires.sizes below c.index-written-callee.is c.index-inlined-callee.is in
    rw c.in-Call.is
    (subst (λ (it : Slot). IfOk c.slot_behind_call.result (λ s. s ≡ it))
    (sym (slot_call (callees_held c.args.written.now c.args.inlined.now) c.args.before c.in-Call.callee (map passed_of c.in-Call.field-1) _ held)) c.slot_behind_call.ensures)
