use Rattle.std.proofs.Common.{◌≡◌, ◌<◌, ◌≤◌, true, false, length, sym, ap, ◌∙◌, arith}
use Rattle.std.proofs.lemmas.List.{length-map}
use Rattle.il_core.specs.Procedure.{instruction_of}
use Rattle.il_core.specs.Checked.{procedure_of}
use Rattle.il_core.proofs.StepKeeps.{step-kept}
use Rattle.line_machine.proofs.Ways.{few_steps, halts_here, marked_here, more_here, read}
use Rattle.line_machine.proofs.running.run_to_cut.Goals as goal

pub returns-in-Halted-clause-steps : goal.returns-in-Halted-clause-steps
returns-in-Halted-clause-steps c =
    let lines : c.len-taken-end.result ≡ length c.args.proc.now.lines = c.len-taken-end.ensures ∙ ap length c.lines.ensures.value in
    let few : c.loop-taken._taken ≤ length c.args.proc.now.lines = omega (arith, lines) in (
      c.loop-taken._taken,
      few,
      halts_here (procedure_of c.args.proc.now) c.args.cuts.now c.args.pc c.args.vals.now c.loop-taken._taken c.loop-taken.line c.loop-taken.vals
          c.in-Halted.halt c.step.new.vals c.loop-taken.invariant c.in-Halted.ensures.next c.in-Halted.ensures.values,
    )

pub bounds-cuts-next : goal.bounds-cuts-next
bounds-cuts-next c =
    let k = step-kept (procedure_of c.args.proc.now) c.loop-taken.line c.loop-taken.vals c.lines.ensures.checked c.loop-taken.invariant.in_range in
    let inside = k.inside c.in-At.next (sym c.in-At.ensures.next) in
    omega (arith, inside, length-map c.args.proc.now.lines instruction_of, c.requires.marks)

pub returns-then-cuts-next-clause-steps : goal.returns-then-cuts-next-clause-steps
returns-then-cuts-next-clause-steps c =
    let lines : c.len-taken-end.result ≡ length c.args.proc.now.lines = c.len-taken-end.ensures ∙ ap length c.lines.ensures.value in
    let few : c.loop-taken._taken ≤ length c.args.proc.now.lines = omega (arith, lines) in
    let k = step-kept (procedure_of c.args.proc.now) c.loop-taken.line c.loop-taken.vals c.lines.ensures.checked c.loop-taken.invariant.in_range in
    let inside : c.in-At.next < length c.args.cuts.now =
    omega (arith, k.inside c.in-At.next (sym c.in-At.ensures.next), length-map c.args.proc.now.lines instruction_of, c.requires.marks) in (
      c.loop-taken._taken,
      few,
      marked_here (procedure_of c.args.proc.now) c.args.cuts.now c.args.pc c.args.vals.now c.loop-taken._taken c.loop-taken.line c.loop-taken.vals
          c.in-At.next c.step.new.vals c.loop-taken.invariant c.in-At.ensures.next c.in-At.ensures.values (read c.args.cuts.now c.in-At.next true inside c.if-cuts-next.true),
    )

pub loop-taken-preserved : goal.loop-taken-preserved
loop-taken-preserved c =
    let k = step-kept (procedure_of c.args.proc.now) c.loop-taken.line c.loop-taken.vals c.lines.ensures.checked c.loop-taken.invariant.in_range in
    let inside : c.in-At.next < length c.args.cuts.now =
    omega (arith, k.inside c.in-At.next (sym c.in-At.ensures.next), length-map c.args.proc.now.lines instruction_of, c.requires.marks) in
    more_here (procedure_of c.args.proc.now) c.args.cuts.now c.args.pc c.args.vals.now c.loop-taken._taken c.loop-taken.line c.loop-taken.vals
    c.in-At.next c.step.new.vals c.lines.ensures.checked c.loop-taken.invariant c.in-At.ensures.next c.in-At.ensures.values
    (read c.args.cuts.now c.in-At.next false inside c.if-cuts-next.false)

pub unreachable-requires : goal.unreachable-requires
unreachable-requires c =
    let few = few_steps (procedure_of c.args.proc.now) c.args.cuts.now c.args.pc c.args.vals.now c.loop-taken._taken c.loop-taken.line c.loop-taken.vals c.requires.cut c.loop-taken.invariant in
    let lines : c.len-taken-end.result ≡ length c.args.proc.now.lines = c.len-taken-end.ensures ∙ ap length c.lines.ensures.value in
    omega (arith, few, lines, c.requires.marks)
