use Rattle.std.proofs.Common.{◌+◌, ◌++◌, ◌∙◌, sym, ap, subst, map, List}
use Rattle.il_core.specs.Procedure.{Instruction, instruction_of}
use Rattle.il_core.specs.declared.line.Place.{Place}
use Rattle.il_called.specs.Called.{passed_of}
use Rattle.il_called.specs.Expansion.{entered, handed_back, entry_width}
use Rattle.il_inline.specs.Held.{place_under, callee_held}
use Rattle.il_inline.specs.Within.{AreWithin}
use Rattle.il_inline.proofs.Steps.{call_parts, joined, copied_same, body_same}
use Rattle.il_inline.proofs.calls.push_call.Goals as goal

pub enter-requires : goal.enter-requires
enter-requires c =
    let it = callee_held c.args.written.now c.args.callee.now in
    let parts = call_parts c.args.places.now (place_under c.args.under) c.args.slot.base c.args.slot.start it (map passed_of c.args.arguments.now) c.requires.within in
    subst (λ (v : List Place). AreWithin (entered c.args.places.now (place_under c.args.under) c.args.slot.base v (map passed_of c.args.arguments.now)))
    (sym (c.as_slice-variables.ensures.value ∙ c.in_ok-entry.ensures.variables)) parts.first

pub copy_old-requires : goal.copy_old-requires
copy_old-requires c =
    let it = callee_held c.args.written.now c.args.callee.now in
    let parts = call_parts c.args.places.now (place_under c.args.under) c.args.slot.base c.args.slot.start it (map passed_of c.args.arguments.now) c.requires.within in
    let same = copied_same c.args.slot.base c.as_slice.result.now it.written.places c.in_ok-entry.entry.first _ c.as_slice-inouts.result.now _
    c.as_slice.ensures c.in_ok-entry.ensures.first (c.as_slice-inouts.ensures.value ∙ c.in_ok-entry.ensures.inouts) in
    subst AreWithin (sym same) parts.copies

pub push_body-requires : goal.push_body-requires
push_body-requires c =
    let it = callee_held c.args.written.now c.args.callee.now in
    let parts = call_parts c.args.places.now (place_under c.args.under) c.args.slot.base c.args.slot.start it (map passed_of c.args.arguments.now) c.requires.within in
    let same = body_same c.args.slot.base c.in_ok-entry.entry.middle (c.args.slot.start + entry_width it) c.as_slice-2.result.now c.args.callee.now.proc.lines
    c.in_ok-entry.ensures.middle (c.as_slice-2.ensures ∙ c.lines.ensures.value) in
    subst AreWithin (sym same) parts.body

pub leave-requires-clause-within : goal.leave-requires-clause-within
leave-requires-clause-within c =
    let it = callee_held c.args.written.now c.args.callee.now in
    let parts = call_parts c.args.places.now (place_under c.args.under) c.args.slot.base c.args.slot.start it (map passed_of c.args.arguments.now) c.requires.within in
    subst (λ (v : List Place). AreWithin (handed_back (place_under c.args.under) c.args.slot.base v (map passed_of c.args.arguments.now)))
    (sym (c.as_slice-variables.ensures.value ∙ c.in_ok-entry.ensures.variables)) parts.last

pub returns : goal.returns
returns c =
    let it = callee_held c.args.written.now c.args.callee.now in
    let place = place_under c.args.under in
    let arguments = map passed_of c.args.arguments.now in
    let variables = c.as_slice-variables.ensures.value ∙ c.in_ok-entry.ensures.variables in
    let copies = copied_same c.args.slot.base c.as_slice.result.now it.written.places c.in_ok-entry.entry.first _ c.as_slice-inouts.result.now _
    c.as_slice.ensures c.in_ok-entry.ensures.first (c.as_slice-inouts.ensures.value ∙ c.in_ok-entry.ensures.inouts) in
    let body = body_same c.args.slot.base c.in_ok-entry.entry.middle (c.args.slot.start + entry_width it) c.as_slice-2.result.now c.args.callee.now.proc.lines
    c.in_ok-entry.ensures.middle (c.as_slice-2.ensures ∙ c.lines.ensures.value) in
    joined (map instruction_of c.args.out.now) (map instruction_of c.enter.new.out) (map instruction_of c.copy_old.new.out) (map instruction_of c.push_body.new.out)
    (map instruction_of c.leave.new.out) _ _ _ _
    (c.in_ok-enter.ensures ∙ ap (λ (v : List Place). map instruction_of c.args.out.now ++ entered c.args.places.now place c.args.slot.base v arguments) variables)
    (c.in_ok-copy_old.ensures ∙ ap (λ (l : List Instruction). map instruction_of c.enter.new.out ++ l) copies)
    (c.in_ok-push_body.ensures ∙ ap (λ (l : List Instruction). map instruction_of c.copy_old.new.out ++ l) body)
    (c.in_ok-leave.ensures ∙ ap (λ (v : List Place). map instruction_of c.push_body.new.out ++ handed_back place c.args.slot.base v arguments) variables)
