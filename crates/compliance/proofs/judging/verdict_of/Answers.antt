use Rattle.std.proofs.Common.{◌≡◌, refl, sym, ap, subst, ◌+◌, ◌*◌, map, length, arith}
use Rattle.std.proofs.lemmas.List.{length-map}
use Rattle.il_core.specs.Evaluation.{State}
use Rattle.il_core.specs.Procedure.{instruction_of}
use Rattle.il_core.specs.Run.{IsInRange}
use Rattle.il_core.specs.Checked.{procedure_of}
use Rattle.sym_simplify.specs.Literal.{literal_form_of}
use Rattle.path_inputs.specs.Least.{IsLeastInput}
use Rattle.region_paths.proofs.Sized.{first_inside}
use Rattle.compliance.specs.Behind.{hazard_from}
use Rattle.compliance.proofs.Judged.{refuted, shown, open_threat, open_at}
use Rattle.compliance.proofs.NoBadRun.{input_in_range}
use Rattle.compliance.proofs.Stepped.{TakesWithin}
use Rattle.compliance.proofs.judging.verdict_of.Goals as goal

pub returns-in-None : goal.returns-in-None
returns-in-None c = λ r e.
    refuted (procedure_of c.args.proc.now) c.args.pc (hazard_from c.args.path.now c.args.literals.now c.args.halt) r (rw c.in-None.is at c.requires.least) e

pub is_taken-requires-clause-line : goal.is_taken-requires-clause-line
is_taken-requires-clause-line c =
    omega (arith, first_inside (procedure_of c.args.proc.now) c.requires.threat.loops c.args.pc c.requires.threat.begins, length-map c.args.proc.now.lines instruction_of)

pub is_taken-requires-clause-range : goal.is_taken-requires-clause-range
is_taken-requires-clause-range c =
    let least : IsLeastInput c.args.proc.now.places c.args.pc (map literal_form_of c.args.literals.now) c.in-Some.input = rw c.in-Some.is at c.requires.least in
    subst (IsInRange c.args.proc.now.places) (sym c.as_slice.ensures) (input_in_range c.args.proc.now.places c.args.pc c.in-Some.input least.met.input)

pub returns-then-branch : goal.returns-then-branch
returns-then-branch c = λ r e.
    let least : IsLeastInput c.args.proc.now.places c.args.pc (map literal_form_of c.args.literals.now) c.in-Some.input = rw c.in-Some.is at c.requires.least in
    let taken = c.in_ok-is_taken.ensures.0 c.if-branch.true in
    shown (procedure_of c.args.proc.now) c.args.pc (2 * length c.args.proc.now.lines + 2) (hazard_from c.args.path.now c.args.literals.now c.args.halt) c.args.halt c.in-Some.input r least refl
    (subst (λ (s : State). TakesWithin (procedure_of c.args.proc.now) (2 * length c.args.proc.now.lines + 2) c.args.pc s c.args.path.now c.args.halt) c.as_slice.ensures taken) e

pub first_loose-requires : goal.first_loose-requires
first_loose-requires c =
    let room : 2 * length c.args.proc.now.lines + 2 ≡ 2 * length (procedure_of c.args.proc.now).lines + 2 = ap (λ n. 2 * n + 2) (sym (length-map c.args.proc.now.lines instruction_of)) in
    let least : IsLeastInput c.args.proc.now.places c.args.pc (map literal_form_of c.args.literals.now) c.in-Some.input = rw c.in-Some.is at c.requires.least in
    let k =
    open_threat (procedure_of c.args.proc.now) c.args.pc (hazard_from c.args.path.now c.args.literals.now c.args.halt) c.args.halt c.in-Some.input c.as_slice.result.now (2 * length c.args.proc.now.lines + 2)
    c.in_ok-is_taken.field-0 c.threats_are_taken_soon.ensures c.open_threats_are_loose.ensures c.requires.threat refl c.as_slice.ensures room least c.in_ok-is_taken.ensures c.if-branch.false in
    k.stays.loose

pub returns : goal.returns
returns c = λ r e.
    let room : 2 * length c.args.proc.now.lines + 2 ≡ 2 * length (procedure_of c.args.proc.now).lines + 2 = ap (λ n. 2 * n + 2) (sym (length-map c.args.proc.now.lines instruction_of)) in
    let least : IsLeastInput c.args.proc.now.places c.args.pc (map literal_form_of c.args.literals.now) c.in-Some.input = rw c.in-Some.is at c.requires.least in
    let k =
    open_threat (procedure_of c.args.proc.now) c.args.pc (hazard_from c.args.path.now c.args.literals.now c.args.halt) c.args.halt c.in-Some.input c.as_slice.result.now (2 * length c.args.proc.now.lines + 2)
    c.in_ok-is_taken.field-0 c.threats_are_taken_soon.ensures c.open_threats_are_loose.ensures c.requires.threat refl c.as_slice.ensures room least c.in_ok-is_taken.ensures c.if-branch.false in
    open_at (procedure_of c.args.proc.now) c.args.pc (hazard_from c.args.path.now c.args.literals.now c.args.halt) c.in-Some.input c.first_loose.result r k.stays k.least c.first_loose.ensures e
