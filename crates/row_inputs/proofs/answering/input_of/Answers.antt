use Rattle.std.proofs.Common.{◌≡◌, inl, inr, sym, ap, ◌∙◌, subst, ℕ, ◌+◌, map, length, arith}
use Rattle.std.proofs.lemmas.List.{length-map}
use Rattle.il_core.specs.Procedure.{instruction_of}
use Rattle.il_core.specs.Checked.{procedure_of}
use Rattle.il_core.specs.Places.{AreCheckedPlaces}
use Rattle.il_core.proofs.Inputs.{checked-places}
use Rattle.sym_simplify.specs.Literal.{literal_form_of}
use Rattle.path_inputs.specs.Least.{IsPlainlyRefuted, IsLeastInput}
use Rattle.row_inputs.proofs.Rows.{has_input, no_input}
use Rattle.row_inputs.proofs.answering.input_of.Goals as goal

pub least_input-requires-clause-places : goal.least_input-requires-clause-places
least_input-requires-clause-places c =
    subst AreCheckedPlaces (sym (c.as_slice.ensures ∙ c.places.ensures.value)) (checked-places (procedure_of c.args.proc.now) c.places.ensures.checked)

pub returns-in-None : goal.returns-in-None
returns-in-None c = λ loops marks b.
    let k : IsPlainlyRefuted c.as_slice.result.now c.args.pc (map literal_form_of c.as_slice-literals.result.now) = rw c.in-None.is at c.in_ok-input.ensures in
    let m = subst (λ x. IsPlainlyRefuted x c.args.pc (map literal_form_of c.as_slice-literals.result.now)) (c.as_slice.ensures ∙ c.places.ensures.value) k in
    inl (subst (λ x. IsPlainlyRefuted c.args.proc.now.places c.args.pc (map literal_form_of x)) c.as_slice-literals.ensures m)

pub returns-then-branch : goal.returns-then-branch
returns-then-branch c = λ loops marks b.
    let least : IsLeastInput c.as_slice.result.now c.args.pc (map literal_form_of c.as_slice-literals.result.now) c.in-Some.input = rw c.in-Some.is at c.in_ok-input.ensures in
    has_input (procedure_of c.args.proc.now) loops c.args.pc c.args.row.now c.in-Some.input c.as_slice.result.now c.as_slice-literals.result.now c.as_slice-2.result.now
    c.as_slice-path.result.now (length c.args.proc.now.lines + 1) c.in_ok-is_taken.field-0
    (c.as_slice.ensures ∙ c.places.ensures.value) c.as_slice-literals.ensures c.as_slice-2.ensures c.as_slice-path.ensures least (c.in_ok-is_taken.ensures loops marks) c.if-branch.true

pub returns : goal.returns
returns c = λ loops marks b.
    let room : length c.args.proc.now.lines + 1 ≡ length (procedure_of c.args.proc.now).lines + 1 = ap (λ n. n + 1) (sym (length-map c.args.proc.now.lines instruction_of)) in
    let least : IsLeastInput c.as_slice.result.now c.args.pc (map literal_form_of c.as_slice-literals.result.now) c.in-Some.input = rw c.in-Some.is at c.in_ok-input.ensures in
    no_input (procedure_of c.args.proc.now) loops c.args.pc c.args.row.now c.in-Some.input c.as_slice.result.now c.as_slice-literals.result.now c.as_slice-2.result.now
    c.as_slice-path.result.now (length c.args.proc.now.lines + 1) c.in_ok-is_taken.field-0 b
    (c.as_slice.ensures ∙ c.places.ensures.value) c.as_slice-literals.ensures c.as_slice-2.ensures c.as_slice-path.ensures room least (c.in_ok-is_taken.ensures loops marks) c.if-branch.false
