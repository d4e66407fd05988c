use Rattle.std.proofs.Common.{◌≡◌, ◌∙◌, sym, ap, subst, refl, ◌+◌, ℕ, List, [], false, length, take, get_or, nat_eq, rules}
use Rattle.std.specs.Prelude.{Some, find, slice_get}
use Rattle.std.specs.List.{list_any}
use Rattle.std.proofs.lemmas.Bool.{eqb-true}
use Rattle.std.proofs.lemmas.Option.{slice_get-get_or}
use Rattle.std.proofs.lemmas.Result.{IfOk-weaker}
use Rattle.call_names.specs.Search.{is_among, begins_with, places_at}
use Rattle.call_names.specs.Numbers.{AreNumbersBehind}
use Rattle.call_names.specs.Sorted.{AreInOrder}
use Rattle.call_names.proofs.Brought.{called_names}
use Rattle.call_names.proofs.InOrder.{kept_in_order}
use Rattle.call_names.proofs.Numbered.{none_numbered}
use Rattle.call_names.proofs.Parts.{outlined_before}
use Rattle.call_names.proofs.Steps.{none_there, found_variable, found_called, found_copy, none_begin, call_passed, call_found, calls_end, read_variables, read_copies, read_calls, kept_those, none_left}
use Rattle.call_names.proofs.search.+first_new.Goals as goal

pub returns-in-None : goal.returns-in-None
returns-in-None t c = λ procs h. sym (none_there procs c.args.outlines.now c.args.number c.args.front.now c.args.call c.args.sought.now h c.in-None.ensures.lookup.3)

pub returns-then-is_empty : goal.returns-then-is_empty
returns-then-is_empty t c =
    let o = c.in-Some.outline.now in
    let there : slice_get c.args.outlines.now c.args.number ≡ Some o =
    slice_get-get_or c.args.outlines.now c.args.number o c.in-Some.ensures.lookup.3.0 ∙ ap Some (sym c.in-Some.ensures.lookup.1) in
    let stem = c.in_ok-stem.stem.items in
    let those = c.all_beginning_with-those.result.now in
    let are = kept_those c.args.front.now c.args.call c.args.sought.now c.as_slice.result.now stem those c.in_ok-stem.ensures c.as_slice.ensures.value c.all_beginning_with-those.ensures in
    let none : those ≡ [] = none_left those (eqb-true (length those) 0 (sym c.if-is_empty.ensures)) in
    IfOk-weaker c.first_copy.result _ _ (λ found e procs h.
    read_copies found c.args.front.now c.args.call c.args.sought.now c.as_slice-variables.result.now o.variables c.as_slice-variables.ensures e
    ∙ sym (none_begin procs c.args.outlines.now c.args.number o c.args.front.now c.args.call c.args.sought.now stem those h there are none))
    c.first_copy.ensures

pub returns-in-Some-first_variable : goal.returns-in-Some-first_variable
returns-in-Some-first_variable t c = λ procs h.
    let o = c.in-Some.outline.now in
    let there : slice_get c.args.outlines.now c.args.number ≡ Some o =
    slice_get-get_or c.args.outlines.now c.args.number o c.in-Some.ensures.lookup.3.0 ∙ ap Some (sym c.in-Some.ensures.lookup.1) in
    let stem = c.in_ok-stem.stem.items in
    let those = c.all_beginning_with-those.result.now in
    let are = kept_those c.args.front.now c.args.call c.args.sought.now c.as_slice.result.now stem those c.in_ok-stem.ensures c.as_slice.ensures.value c.all_beginning_with-those.ensures in
    let found = read_variables c.first_variable.result c.as_slice-2.result.now stem those those c.as_slice-variables.result.now o.variables
    c.as_slice-2.ensures.value refl c.as_slice-variables.ensures c.first_variable.ensures in
    sym (found_variable procs c.args.outlines.now c.args.number o c.args.front.now c.args.call c.args.sought.now stem those h there are c.in-Some-first_variable.name
    (found ∙ c.in-Some-first_variable.is))

pub first_new-requires : goal.first_new-requires
first_new-requires t c = (search rules, subst AreInOrder (sym c.all_beginning_with-those.ensures) (kept_in_order (begins_with c.as_slice.result.now) c.args.sought.now c.requires))

pub returns-in-Some-2 : goal.returns-in-Some-2
returns-in-Some-2 t c = λ procs h.
    let o = c.in-Some.outline.now in
    let n = c.args.number in
    let k = c.loop-k.k in
    let there : slice_get c.args.outlines.now n ≡ Some o = slice_get-get_or c.args.outlines.now n o c.in-Some.ensures.lookup.3.0 ∙ ap Some (sym c.in-Some.ensures.lookup.1) in
    let stem = c.in_ok-stem.stem.items in
    let those = c.all_beginning_with-those.result.now in
    let are = kept_those c.args.front.now c.args.call c.args.sought.now c.as_slice.result.now stem those c.in_ok-stem.ensures c.as_slice.ensures.value c.all_beginning_with-those.ensures in
    let none = read_variables c.first_variable.result c.as_slice-2.result.now stem those those c.as_slice-variables.result.now o.variables
    c.as_slice-2.ensures.value refl c.as_slice-variables.ensures c.first_variable.ensures ∙ c.in-None-first_variable.is in
    let before = take n procs in
    let outlined = outlined_before procs c.args.outlines.now n h in
    let calls = c.as_slice-callee-items.result.now in
    let here = read_calls c.in_ok-name.field-0 before c.as_slice-in-loop-k-2.result.now stem those those (k + 1) _
    c.as_slice-in-loop-k-2.ensures.value refl (c.in_ok-name.ensures before outlined) in
    let all = sym (c.loop-k.invariant before outlined) ∙ call_found before stem those calls k c.loop-k-test.true c.in-Some-2.name (here ∙ c.in-Some-2.is) in
    sym (found_called procs c.args.outlines.now n o c.args.front.now c.args.call c.args.sought.now stem those h there are c.in-Some-2.name none
    (ap (λ cs. find (is_among those) (called_names before stem 1 cs)) (sym c.as_slice-callee-items.ensures) ∙ all))

pub loop-k-preserved-then-not-is_one_of : goal.loop-k-preserved-then-not-is_one_of
loop-k-preserved-then-not-is_one_of t c = λ before outlined.
    let k = c.loop-k.k in
    let stem = c.in_ok-stem.stem.items in
    let those = c.all_beginning_with-those.result.now in
    let calls = c.as_slice-callee-items.result.now in
    let numbers = subst (λ (s : List ℕ). AreNumbersBehind s those c.in_ok-numbers.numbers.items) c.as_slice-3.ensures.value c.in_ok-numbers.ensures in
    let other : list_any (nat_eq (k + 1)) c.in_ok-numbers.numbers.items ≡ false =
    ap (list_any (nat_eq (k + 1))) (sym c.as_slice-in-loop-k.ensures.value) ∙ sym c.is_one_of.ensures ∙ c.if-not-is_one_of.true in
    call_passed before stem those calls k c.loop-k-test.true
    (none_numbered stem those c.in_ok-numbers.numbers.items (k + 1) (places_at before (get_or calls k 0)) numbers (search rules) other) ∙ c.loop-k.invariant before outlined

pub loop-k-preserved : goal.loop-k-preserved
loop-k-preserved t c = λ before outlined.
    let k = c.loop-k.k in
    let stem = c.in_ok-stem.stem.items in
    let those = c.all_beginning_with-those.result.now in
    let calls = c.as_slice-callee-items.result.now in
    let here = read_calls c.in_ok-name.field-0 before c.as_slice-in-loop-k-2.result.now stem those those (k + 1) _
    c.as_slice-in-loop-k-2.ensures.value refl (c.in_ok-name.ensures before outlined) in
    call_passed before stem those calls k c.loop-k-test.true (here ∙ c.in-None-2.is) ∙ c.loop-k.invariant before outlined

pub returns : goal.returns
returns t c =
    let o = c.in-Some.outline.now in
    let n = c.args.number in
    let there : slice_get c.args.outlines.now n ≡ Some o = slice_get-get_or c.args.outlines.now n o c.in-Some.ensures.lookup.3.0 ∙ ap Some (sym c.in-Some.ensures.lookup.1) in
    let stem = c.in_ok-stem.stem.items in
    let those = c.all_beginning_with-those.result.now in
    let are = kept_those c.args.front.now c.args.call c.args.sought.now c.as_slice.result.now stem those c.in_ok-stem.ensures c.as_slice.ensures.value c.all_beginning_with-those.ensures in
    let none = read_variables c.first_variable.result c.as_slice-2.result.now stem those those c.as_slice-variables.result.now o.variables
    c.as_slice-2.ensures.value refl c.as_slice-variables.ensures c.first_variable.ensures ∙ c.in-None-first_variable.is in
    let calls = c.as_slice-callee-items.result.now in
    IfOk-weaker c.first_copy-2.result _ _ (λ found e procs h.
    let before = take n procs in
    let outlined = outlined_before procs c.args.outlines.now n h in
    let all = sym (c.loop-k.invariant before outlined) ∙ calls_end before stem those calls c.loop-k.k (c.loop-k.k + 1) c.loop-k-test.false in
    read_copies found c.args.front.now c.args.call c.args.sought.now c.as_slice-variables.result.now o.variables c.as_slice-variables.ensures e
    ∙ sym (found_copy procs c.args.outlines.now n o c.args.front.now c.args.call c.args.sought.now stem those h there are none
    (ap (λ cs. find (is_among those) (called_names before stem 1 cs)) (sym c.as_slice-callee-items.ensures) ∙ all)))
    c.first_copy-2.ensures
