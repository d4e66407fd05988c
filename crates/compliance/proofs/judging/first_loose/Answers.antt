use Rattle.std.proofs.Common.{◌≡◌, sym, ap, ◌∙◌, refl, ◌+◌, ◌<◌, cond, add-zero, true, false, Some, map, length, slice_get, arith}
use Rattle.std.specs.Option.{option_map}
use Rattle.std.proofs.lemmas.List.{length-map}
use Rattle.std.proofs.lemmas.Option.{slice_get-map, slice_get_read, same_Some}
use Rattle.sym_simplify.specs.Literal.{literal_form_of}
use Rattle.path_inputs.specs.Core.{is_disequality}
use Rattle.compliance.proofs.Loose.{loose_more, never_past}
use Rattle.compliance.proofs.judging.first_loose.Goals as goal
use Rattle.compliance.proofs.judging.first_loose.Goals.{then-is_disequality+else-count-ge-CORE, else-is_disequality}

pub loop-at-preserved : goal.loop-at-preserved
loop-at-preserved c =
    let read = slice_get_read c.args.literals.now (length c.args.literals.now) c.loop-at.at c.index-literals-at.result refl c.loop-at-test.true c.index-literals-at.is in
    let again = slice_get_read c.args.literals.now (length c.args.literals.now) c.loop-at.at c.index-literals-at-in-loop-at.result refl c.loop-at-test.true c.index-literals-at-in-loop-at.is in
    let same = same_Some c.index-literals-at.result c.index-literals-at-in-loop-at.result (sym read ∙ again) in
    let there : slice_get (map literal_form_of c.args.literals.now) c.loop-at.at ≡ Some (literal_form_of c.index-literals-at.result) =
    slice_get-map literal_form_of c.args.literals.now c.loop-at.at ∙ ap (option_map literal_form_of) read in
    let kind : is_disequality (literal_form_of c.index-literals-at.result) ≡ c.is_disequality.result =
    ap (λ x. is_disequality (literal_form_of x)) same ∙ sym c.is_disequality.ensures in
    let few : c.is_disequality.result ≡ true → c.loop-at.count < 8 =
    elim c.if-is_disequality.branch [
      | then-is_disequality+else-count-ge-CORE w ↦ λ e. w.if-count-ge-CORE.false
      | else-is_disequality w ↦ λ e. let x : true ≡ false = sym e ∙ w.if-is_disequality.false in absurd cc
    ] in
    let more : c.if-is_disequality.count ≡ c.loop-at.count + cond c.is_disequality.result 1 0 =
    elim c.if-is_disequality.branch [
      | then-is_disequality+else-count-ge-CORE w ↦ w.count-is ∙ ap (λ b. c.loop-at.count + cond b 1 0) (sym w.if-is_disequality.true)
      | else-is_disequality w ↦ w.count-is ∙ sym (add-zero c.loop-at.count) ∙ ap (λ b. c.loop-at.count + cond b 1 0) (sym w.if-is_disequality.false)
    ] in
    loose_more (map literal_form_of c.args.literals.now) c.loop-at.at c.loop-at.count c.if-is_disequality.count (literal_form_of c.index-literals-at.result) c.is_disequality.result c.loop-at.invariant there
    (sym c.is_easy.ensures ∙ c.if-not-is_easy.false) kind few more

pub unreachable-requires : goal.unreachable-requires
unreachable-requires c =
    never_past (map literal_form_of c.args.literals.now) c.loop-at.at c.loop-at.count c.loop-at.invariant (omega (arith, c.loop-at-test.false, length-map c.args.literals.now literal_form_of)) c.requires
