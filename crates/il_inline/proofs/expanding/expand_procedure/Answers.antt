use Rattle.std.proofs.Common.{◌≡◌, ◌+◌, ◌≤◌, ◌∙◌, length, map, sym, ap, subst, arith}
use Rattle.std.specs.Prelude.{sum_by}
use Rattle.std.proofs.lemmas.List.{length-map}
use Rattle.il_core.specs.Checked.{IsChecked, NamedProcedure}
use Rattle.il_core.specs.Procedure.{Procedure, instruction_of}
use Rattle.il_called.specs.Called.{WrittenProcedure, written_of}
use Rattle.il_called.specs.Expansion.{variables_in, brings}
use Rattle.il_inline.specs.Held.{callees_held}
use Rattle.il_inline.proofs.Held.{held_count}
use Rattle.il_inline.proofs.Layouts.{IsLayout, layout_is, lines_fit, few_calls}
use Rattle.il_inline.proofs.Procedures.{calls_below, few_lines, few_written, few_places, fewer_variables, spans_are, lines_limited, places_short, procedure_made, procedure_same, shift_is, expansion_same}
use Rattle.il_inline.proofs.expanding.expand_procedure.Goals as goal

pub layout_of-requires-clause-below : goal.layout_of-requires-clause-below
layout_of-requires-clause-below c =
    calls_below (callees_held c.args.written.now c.args.inlined.now) (length c.args.inlined.now) (map written_of c.args.lines.now)
    (held_count c.args.written.now c.args.inlined.now c.requires.sizes) c.requires.calls

pub layout_of-requires-clause-lines : goal.layout_of-requires-clause-lines
layout_of-requires-clause-lines c =
    let p : WrittenProcedure = record { name = c.args.name; places = c.args.places.now; lines = map written_of c.args.lines.now } in
    few_lines (callees_held c.args.written.now c.args.inlined.now) (length c.args.inlined.now) p c.requires.calls c.requires.checked

pub layout_of-requires-clause-places : goal.layout_of-requires-clause-places
layout_of-requires-clause-places c =
    let p : WrittenProcedure = record { name = c.args.name; places = c.args.places.now; lines = map written_of c.args.lines.now } in
    let many : c.len-variables.result ≡ length (variables_in p.places) = let e = ap length c.in_ok-all.ensures in omega arith in
    subst (λ n. n + sum_by (brings (callees_held c.args.written.now c.args.inlined.now)) p.lines ≤ 64) (sym many)
    (few_places (callees_held c.args.written.now c.args.inlined.now) (length c.args.inlined.now) p c.requires.checked)

pub layout_of-requires-clause-calls : goal.layout_of-requires-clause-calls
layout_of-requires-clause-calls c =
    let p : WrittenProcedure = record { name = c.args.name; places = c.args.places.now; lines = map written_of c.args.lines.now } in
    let few = few_written (callees_held c.args.written.now c.args.inlined.now) (length c.args.inlined.now) p c.requires.calls c.requires.checked in
    let same = length-map c.args.lines.now written_of in
    omega arith

pub push_all_places-requires-clause-below : goal.push_all_places-requires-clause-below
push_all_places-requires-clause-below c =
    calls_below (callees_held c.args.written.now c.args.inlined.now) (length c.args.inlined.now) (map written_of c.args.lines.now)
    (held_count c.args.written.now c.args.inlined.now c.requires.sizes) c.requires.calls

pub push_all_places-requires-clause-calls : goal.push_all_places-requires-clause-calls
push_all_places-requires-clause-calls c =
    let p : WrittenProcedure = record { name = c.args.name; places = c.args.places.now; lines = map written_of c.args.lines.now } in
    let is = layout_is (callees_held c.args.written.now c.args.inlined.now) c.len-variables.result p.lines c.in_ok-layout.layout c.in_ok-layout.ensures.slots c.in_ok-layout.ensures.end in
    few_calls (callees_held c.args.written.now c.args.inlined.now) c.len-variables.result p.lines c.in_ok-layout.layout is
    (few_written (callees_held c.args.written.now c.args.inlined.now) (length c.args.inlined.now) p c.requires.calls c.requires.checked)

pub push_all_places-requires-clause-short : goal.push_all_places-requires-clause-short
push_all_places-requires-clause-short c =
    let p : WrittenProcedure = record { name = c.args.name; places = c.args.places.now; lines = map written_of c.args.lines.now } in
    let many : c.len-variables.result ≡ length (variables_in p.places) = let e = ap length c.in_ok-all.ensures in omega arith in
    let is = subst (λ n. IsLayout (callees_held c.args.written.now c.args.inlined.now) n p.lines c.in_ok-layout.layout) many
    (layout_is (callees_held c.args.written.now c.args.inlined.now) c.len-variables.result p.lines c.in_ok-layout.layout c.in_ok-layout.ensures.slots c.in_ok-layout.ensures.end) in
    places_short c.args.written.now c.args.inlined.now (length c.args.inlined.now) p c.in_ok-layout.layout c.requires.sizes is c.requires.short

pub push_copies-requires : goal.push_copies-requires
push_copies-requires c = let f = fewer_variables c.args.places.now in let e = ap length c.in_ok-all.ensures in omega arith

pub renumbering_of-under-requires : goal.renumbering_of-under-requires
renumbering_of-under-requires c =
    let is = layout_is (callees_held c.args.written.now c.args.inlined.now) c.len-variables.result (map written_of c.args.lines.now) c.in_ok-layout.layout c.in_ok-layout.ensures.slots c.in_ok-layout.ensures.end in
    let l = is.last in
    omega arith

pub lines_by-requires-clause-fit : goal.lines_by-requires-clause-fit
lines_by-requires-clause-fit c =
    let p : WrittenProcedure = record { name = c.args.name; places = c.args.places.now; lines = map written_of c.args.lines.now } in
    let callees = callees_held c.args.written.now c.args.inlined.now in
    let many : c.len-variables.result ≡ length (variables_in p.places) = let e = ap length c.in_ok-all.ensures in omega arith in
    let is = subst (λ n. IsLayout callees n p.lines c.in_ok-layout.layout) many
    (layout_is callees c.len-variables.result p.lines c.in_ok-layout.layout c.in_ok-layout.ensures.slots c.in_ok-layout.ensures.end) in
    lines_fit callees (length c.args.inlined.now) (length (variables_in p.places)) p.lines c.in_ok-layout.layout is
    (few_lines callees (length c.args.inlined.now) p c.requires.calls c.requires.checked) (few_places callees (length c.args.inlined.now) p c.requires.checked)
    (few_written callees (length c.args.inlined.now) p c.requires.calls c.requires.checked)
    (calls_below callees (length c.args.inlined.now) p.lines (held_count c.args.written.now c.args.inlined.now c.requires.sizes) c.requires.calls)

pub lines_by-requires-clause-within : goal.lines_by-requires-clause-within
lines_by-requires-clause-within c =
    let p : WrittenProcedure = record { name = c.args.name; places = c.args.places.now; lines = map written_of c.args.lines.now } in
    let callees = callees_held c.args.written.now c.args.inlined.now in
    let many : c.len-variables.result ≡ length (variables_in p.places) = let e = ap length c.in_ok-all.ensures in omega arith in
    let is = subst (λ n. IsLayout callees n p.lines c.in_ok-layout.layout) many
    (layout_is callees c.len-variables.result p.lines c.in_ok-layout.layout c.in_ok-layout.ensures.slots c.in_ok-layout.ensures.end) in
    lines_limited callees (length c.args.inlined.now) p c.renumbering_of-under.result c.in_ok-layout.layout is
    (shift_is callees (length (variables_in p.places)) p.lines c.in_ok-layout.layout c.renumbering_of-under.result c.len-variables.result is.last many c.renumbering_of-under.ensures)
    c.requires.checked

pub origins_of-requires-clause-below : goal.origins_of-requires-clause-below
origins_of-requires-clause-below c =
    calls_below (callees_held c.args.written.now c.args.inlined.now) (length c.args.inlined.now) (map written_of c.args.lines.now)
    (held_count c.args.written.now c.args.inlined.now c.requires.sizes) c.requires.calls

pub origins_of-requires-clause-few : goal.origins_of-requires-clause-few
origins_of-requires-clause-few c =
    let p : WrittenProcedure = record { name = c.args.name; places = c.args.places.now; lines = map written_of c.args.lines.now } in
    few_lines (callees_held c.args.written.now c.args.inlined.now) (length c.args.inlined.now) p c.requires.calls c.requires.checked

pub spans_by-requires : goal.spans_by-requires
spans_by-requires c =
    let p : WrittenProcedure = record { name = c.args.name; places = c.args.places.now; lines = map written_of c.args.lines.now } in
    let few = few_written (callees_held c.args.written.now c.args.inlined.now) (length c.args.inlined.now) p c.requires.calls c.requires.checked in
    let same = length-map c.args.lines.now written_of in
    omega arith

pub new-proc-requires : goal.new-proc-requires
new-proc-requires c =
    let p : WrittenProcedure = record { name = c.args.name; places = c.args.places.now; lines = map written_of c.args.lines.now } in
    let callees = callees_held c.args.written.now c.args.inlined.now in
    let many : c.len-variables.result ≡ length (variables_in p.places) = let e = ap length c.in_ok-all.ensures in omega arith in
    let is = subst (λ n. IsLayout callees n p.lines c.in_ok-layout.layout) many
    (layout_is callees c.len-variables.result p.lines c.in_ok-layout.layout c.in_ok-layout.ensures.slots c.in_ok-layout.ensures.end) in
    let made = procedure_made c.args.written.now c.args.inlined.now p c.in_ok-layout.layout c.renumbering_of-under.result c.len-variables.result c.requires.sizes is many c.renumbering_of-under.ensures
    c.in_ok-all.all.items c.push_all_places.new.out.items c.push_copies.new.out.items (map instruction_of c.in_ok-made.made)
    c.in_ok-all.ensures c.in_ok-push_all_places.ensures c.in_ok-push_copies.ensures c.in_ok-made.ensures in
    subst (λ (q : Procedure). IsChecked q) (sym (procedure_same c.from_vec.result c.push_copies.new.out.items _ _ _ c.from_vec.ensures made.0 made.1)) c.requires.checked

pub returns-clause-expansion : goal.returns-clause-expansion
returns-clause-expansion c =
    let p : WrittenProcedure = record { name = c.args.name; places = c.args.places.now; lines = map written_of c.args.lines.now } in
    let callees = callees_held c.args.written.now c.args.inlined.now in
    let many : c.len-variables.result ≡ length (variables_in p.places) = let e = ap length c.in_ok-all.ensures in omega arith in
    let is = subst (λ n. IsLayout callees n p.lines c.in_ok-layout.layout) many
    (layout_is callees c.len-variables.result p.lines c.in_ok-layout.layout c.in_ok-layout.ensures.slots c.in_ok-layout.ensures.end) in
    let made = procedure_made c.args.written.now c.args.inlined.now p c.in_ok-layout.layout c.renumbering_of-under.result c.len-variables.result c.requires.sizes is many c.renumbering_of-under.ensures
    c.in_ok-all.all.items c.push_all_places.new.out.items c.push_copies.new.out.items (map instruction_of c.in_ok-made.made)
    c.in_ok-all.ensures c.in_ok-push_all_places.ensures c.in_ok-push_copies.ensures c.in_ok-made.ensures in
    expansion_same _ _ _ _ _ _ _ _
    (ap (λ (it : NamedProcedure). it.places) c.new-proc.ensures ∙ c.from_vec.ensures ∙ made.0)
    (ap (λ (it : NamedProcedure). map instruction_of it.lines) c.new-proc.ensures ∙ made.1)
    c.in_ok-origins.ensures
    (c.in_ok-spans.ensures ∙ spans_are callees p c.in_ok-layout.layout is c.requires.calls)
