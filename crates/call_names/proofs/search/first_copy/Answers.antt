use Rattle.std.proofs.Common.{◌≡◌, ◌∙◌, sym, ap, [], List, ℕ, ◌++◌, filter, length}
use Rattle.std.specs.Prelude.{find, map}
use Rattle.std.proofs.lemmas.Bool.{eqb-true}
use Rattle.call_names.specs.Search.{is_among}
use Rattle.call_names.specs.declared.outline.Variable.{Variable}
use Rattle.call_names.proofs.Parts.{none_sought}
use Rattle.call_names.proofs.Steps.{copies_those, none_left}
use Rattle.call_names.proofs.search.first_copy.Goals as goal

pub returns-then-is_empty : goal.returns-then-is_empty
returns-then-is_empty c =
    let s = c.as_slice.result.now in
    let those = c.all_beginning_with-those.result.now in
    let copied = filter (λ (v : Variable). v.copied) c.args.variables.now in
    let none : those ≡ [] = none_left those (eqb-true (length those) 0 (sym c.if-is_empty.ensures)) in
    sym (sym (copies_those c.args.front.now c.args.call c.args.sought.now those s copied (c.as_slice.ensures.value ∙ c.in_ok-stem.ensures) c.all_beginning_with-those.ensures)
    ∙ ap (λ l. find (is_among l) (map (λ (v : Variable). s ++ v.name) copied)) none ∙ none_sought (map (λ (v : Variable). s ++ v.name) copied))

pub returns : goal.returns
returns c =
    let s = c.as_slice.result.now in
    let those = c.all_beginning_with-those.result.now in
    let copied = filter (λ (v : Variable). v.copied) c.args.variables.now in
    c.first_copied.ensures
    ∙ ap (λ (z : List ℕ). find (is_among those) (map (λ (v : Variable). z ++ v.name) copied)) (c.as_slice-2.ensures.value ∙ sym c.as_slice.ensures.value)
    ∙ copies_those c.args.front.now c.args.call c.args.sought.now those s copied (c.as_slice.ensures.value ∙ c.in_ok-stem.ensures) c.all_beginning_with-those.ensures
