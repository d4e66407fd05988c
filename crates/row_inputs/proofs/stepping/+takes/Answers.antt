use Rattle.std.proofs.Common.{◌≡◌, sym, ap, ◌∙◌, ◌-◌, true, false, Some, [], length, take, drop, eqb, eqb-true, arith}
use Rattle.std.proofs.lemmas.List.{length-map, nil_from_length}
use Rattle.il_core.specs.Procedure.{instruction_of}
use Rattle.il_core.specs.Checked.{procedure_of}
use Rattle.il_core.specs.declared.line.Stop.TheVariants as stop
use Rattle.il_core.proofs.StepKeeps.{step-kept}
use Rattle.region_paths.specs.Region.{is_head}
use Rattle.row_inputs.specs.Input.{stop_at}
use Rattle.row_inputs.proofs.Stepped.{head_stop, takes_on, takes_end, takes_too_little}
use Rattle.row_inputs.proofs.stepping.+takes.Goals as goal

pub is_marked-requires : goal.is_marked-requires
is_marked-requires t c =
    let k = c.in-Some.ensures.taken in
    let inside = (step-kept (procedure_of c.args.proc.now) c.args.pc c.args.vals.now c.requires.checked c.requires.range).inside c.in-At.line (sym k.next ∙ c.in-At.is) in
    omega (arith, inside, length-map c.args.proc.now.lines instruction_of, c.requires.marks)

pub takes-requires : goal.takes-requires
takes-requires t c =
    let some = c.if-room-eq0.false in
    let k = c.in-Some.ensures.taken in
    let inside = (step-kept (procedure_of c.args.proc.now) c.args.pc c.args.vals.now c.requires.checked c.requires.range).inside c.in-At.line (sym k.next ∙ c.in-At.is) in (
      omega (arith, some, c.decreases),
      (c.requires.checked, (c.requires.marks, (omega (arith, inside, length-map c.args.proc.now.lines instruction_of), c.step_along.ensures.range))),
    )

pub returns-then-is_empty : goal.returns-then-is_empty
returns-then-is_empty t c = λ loops marks.
    let none = nil_from_length (take (length c.args.path.now - c.in-Some.taken.used) (drop c.in-Some.taken.used c.args.path.now)) (eqb-true _ 0 (sym c.is_empty.ensures ∙ c.if-is_empty.true)) in
    let met : stop_at loops c.in-Some.taken.next ≡ Some (stop.Halted c.in-Halted.halt) = ap (stop_at loops) c.in-Halted.is in
    let k =
    takes_end (procedure_of c.args.proc.now) loops c.args.room c.args.pc c.args.vals.now c.args.path.now c.in-Some.taken (stop.Halted c.in-Halted.halt) c.args.stop
    c.step_along.new.vals c.if-room-eq0.false c.in-Some.ensures.taken met none in
    (λ e. k.0 (c.are_same.ensures.0 e), λ t. c.are_same.ensures.1 (k.1 t))

pub returns-then-is_empty-2 : goal.returns-then-is_empty-2
returns-then-is_empty-2 t c = λ loops marks.
    let none =
    nil_from_length (take (length c.args.path.now - c.in-Some.taken.used) (drop c.in-Some.taken.used c.args.path.now))
    (eqb-true _ 0 (sym c.is_empty-then-is_marked.ensures ∙ c.if-is_empty-2.true)) in
    let head : is_head loops c.in-At.line ≡ true = sym (marks.each c.in-At.line true (c.is_marked.ensures ∙ ap Some c.if-is_marked.true)) in
    let met : stop_at loops c.in-Some.taken.next ≡ Some (stop.Head c.in-At.line) = ap (stop_at loops) c.in-At.is ∙ head_stop loops c.in-At.line head in
    let k =
    takes_end (procedure_of c.args.proc.now) loops c.args.room c.args.pc c.args.vals.now c.args.path.now c.in-Some.taken (stop.Head c.in-At.line) c.args.stop
    c.step_along.new.vals c.if-room-eq0.false c.in-Some.ensures.taken met none in
    (λ e. k.0 (c.are_same-then-is_empty-2.ensures.0 e), λ t. c.are_same-then-is_empty-2.ensures.1 (k.1 t))

pub returns-else-is_empty-2 : goal.returns-else-is_empty-2
returns-else-is_empty-2 t c = λ loops marks.
    let head : is_head loops c.in-At.line ≡ true = sym (marks.each c.in-At.line true (c.is_marked.ensures ∙ ap Some c.if-is_marked.true)) in
    let met : stop_at loops c.in-Some.taken.next ≡ Some (stop.Head c.in-At.line) = ap (stop_at loops) c.in-At.is ∙ head_stop loops c.in-At.line head in (
      (λ e. let x : false ≡ true = sym c.if-is_empty-2.false ∙ e in absurd cc),
      λ w.
          let none =
          takes_too_little (procedure_of c.args.proc.now) loops c.args.room c.args.pc c.args.vals.now c.args.path.now c.in-Some.taken (stop.Head c.in-At.line) c.args.stop
          c.step_along.new.vals c.in-Some.ensures.taken met w in
          let x : false ≡ true = sym c.if-is_empty-2.false ∙ c.is_empty-then-is_marked.ensures ∙ ap (λ l. eqb (length l) 0) none in
          absurd cc,
    )

pub returns-else-is_marked : goal.returns-else-is_marked
returns-else-is_marked t c = λ loops marks.
    let plain : is_head loops c.in-At.line ≡ false = sym (marks.each c.in-At.line false (c.is_marked.ensures ∙ ap Some c.if-is_marked.false)) in
    let k =
    takes_on (procedure_of c.args.proc.now) loops c.args.room c.args.pc c.args.vals.now c.args.path.now c.in-Some.taken c.in-At.line c.step_along.new.vals c.args.stop
    c.if-room-eq0.false c.in-Some.ensures.taken c.in-At.is plain in
    (λ e. k.0 ((c.takes.ensures loops marks).0 e), λ w. (c.takes.ensures loops marks).1 (k.1 w))
