use Rattle.std.proofs.Common.{◌≡◌, Some, slice_get, ap, sym, subst}
use Rattle.il_core.specs.Machine.{Step}
use Rattle.il_core.specs.Evaluation.{State}
use Rattle.il_core.specs.Checked.{procedure_of}
use Rattle.il_core.specs.Run.{IsInRange}
use Rattle.il_core.proofs.StepKeeps.{step-kept}
use Rattle.line_machine.proofs.LineFitting.{line-step, there-fits}
use Rattle.line_machine.proofs.stepping.step.Goals as goal

pub step_line-requires-clause-fits : goal.step_line-requires-clause-fits
step_line-requires-clause-fits c =
    let there : slice_get c.args.proc.now.lines c.args.pc ≡ Some c.line_at-line.result.now = cc in
    there-fits c.args.proc.now c.args.pc c.args.vals.now c.line_at-line.result.now c.lines-lines.ensures.checked c.requires.range there

pub returns-clause-next : goal.returns-clause-next
returns-clause-next c =
    let there : slice_get c.args.proc.now.lines c.args.pc ≡ Some c.line_at-line.result.now = cc in
    let places : c.as_slice-2.result.now ≡ c.args.proc.now.places = cc in
    ap (λ (t : Step). t.next) (line-step c.args.proc.now c.args.pc c.args.vals.now c.line_at-line.result.now _ there (rw places at c.step_line.ensures))

pub returns-clause-values : goal.returns-clause-values
returns-clause-values c =
    let there : slice_get c.args.proc.now.lines c.args.pc ≡ Some c.line_at-line.result.now = cc in
    let places : c.as_slice-2.result.now ≡ c.args.proc.now.places = cc in
    ap (λ (t : Step). t.state) (line-step c.args.proc.now c.args.pc c.args.vals.now c.line_at-line.result.now _ there (rw places at c.step_line.ensures))

pub returns-clause-range : goal.returns-clause-range
returns-clause-range c =
    let there : slice_get c.args.proc.now.lines c.args.pc ≡ Some c.line_at-line.result.now = cc in
    let places : c.as_slice-2.result.now ≡ c.args.proc.now.places = cc in
    let same = ap (λ (t : Step). t.state) (line-step c.args.proc.now c.args.pc c.args.vals.now c.line_at-line.result.now _ there (rw places at c.step_line.ensures)) in
    subst (λ (s : State). IsInRange c.args.proc.now.places s) (sym same)
    (step-kept (procedure_of c.args.proc.now) c.args.pc c.args.vals.now c.lines-lines.ensures.checked c.requires.range).in_range
