use Rattle.std.proofs.Common.{sym, ◌∙◌, ◌-◌, length, take, drop, eqb-true, arith}
use Rattle.std.proofs.lemmas.List.{length-map, nil_from_length}
use Rattle.il_core.specs.Procedure.{instruction_of}
use Rattle.il_core.specs.Checked.{procedure_of}
use Rattle.il_core.proofs.StepKeeps.{step-kept}
use Rattle.compliance.proofs.Stepped.{takes_on, takes_end}
use Rattle.compliance.proofs.stepping.+takes.Goals as goal

pub takes-requires : goal.takes-requires
takes-requires t c =
    let some = c.if-room-eq0.false in
    let k = c.in-Some.ensures.taken in
    let inside = (step-kept (procedure_of c.args.proc.now) c.args.pc c.args.vals.now c.requires.checked c.requires.range).inside c.in-At.line (sym k.next ∙ c.in-At.is) in
    (omega (arith, some, c.decreases), (c.requires.checked, (omega (arith, inside, length-map c.args.proc.now.lines instruction_of), c.step_along.ensures.range)))

pub returns-in-At : goal.returns-in-At
returns-in-At t c =
    let k = takes_on (procedure_of c.args.proc.now) c.args.room c.args.pc c.args.vals.now c.args.path.now c.in-Some.taken c.in-At.line c.step_along.new.vals c.args.halt c.if-room-eq0.false c.in-Some.ensures.taken c.in-At.is in
    (λ e. k.0 (c.takes.ensures.0 e), λ t. c.takes.ensures.1 (k.1 t))

pub returns-then-is_empty : goal.returns-then-is_empty
returns-then-is_empty t c =
    let none = nil_from_length (take (length c.args.path.now - c.in-Some.taken.used) (drop c.in-Some.taken.used c.args.path.now)) (eqb-true _ 0 (sym c.is_empty.ensures ∙ c.if-is_empty.true)) in
    let k =
    takes_end (procedure_of c.args.proc.now) c.args.room c.args.pc c.args.vals.now c.args.path.now c.in-Some.taken c.in-Halted.end c.args.halt c.step_along.new.vals c.if-room-eq0.false
    c.in-Some.ensures.taken c.in-Halted.is none in
    (λ e. k.0 (c.are_same.ensures.0 e), λ t. c.are_same.ensures.1 (k.1 t))
