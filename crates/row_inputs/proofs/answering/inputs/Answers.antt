use Rattle.std.proofs.Common.{◌≡◌, refl, sym, ap, ◌∙◌, subst, length, arith}
use Rattle.std.proofs.lemmas.List.{length-map}
use Rattle.il_core.specs.Procedure.{instruction_of}
use Rattle.il_core.specs.Checked.{procedure_of}
use Rattle.region_paths.specs.Laws.{BeginsRegion}
use Rattle.region_paths.proofs.Sized.{begins, first_inside}
use Rattle.semantic_tables.specs.Fit.{HasSoundLiterals}
use Rattle.row_inputs.specs.Heads.{MarkHeads}
use Rattle.row_inputs.proofs.Rows.{inputs_next}
use Rattle.row_inputs.proofs.answering.inputs.Goals as goal

pub input_of-requires-clause-marks : goal.input_of-requires-clause-marks
input_of-requires-clause-marks c = ap length c.deref.ensures.value ∙ c.in_ok-heads.ensures.size ∙ c.len.ensures ∙ ap length c.lines.ensures.value

pub input_of-requires-clause-line : goal.input_of-requires-clause-line
input_of-requires-clause-line c =
    let b = begins (procedure_of c.args.proc.now) c.args.control.now c.args.pc c.lines.ensures.checked c.requires.control c.requires.shape c.requires.first in
    omega (arith, first_inside (procedure_of c.args.proc.now) c.args.control.now.loops c.args.pc b, length-map c.args.proc.now.lines instruction_of)

pub input_of-requires-clause-fits : goal.input_of-requires-clause-fits
input_of-requires-clause-fits c =
    subst (HasSoundLiterals (length c.args.proc.now.places)) (sym c.row-item.is) (c.requires.fits c.loop-row.row-index c.row-item.result c.loop-row-test.true)

pub loop-row-preserved : goal.loop-row-preserved
loop-row-preserved c =
    let b = begins (procedure_of c.args.proc.now) c.args.control.now c.args.pc c.lines.ensures.checked c.requires.control c.requires.shape c.requires.first in
    let made = rw (c.len.ensures, c.lines.ensures.value, c.as_slice.ensures) at c.in_ok-heads.ensures in
    let marks : MarkHeads (length c.args.proc.now.lines) c.args.control.now.loops c.deref.result.now = rw c.deref.ensures.value made in
    inputs_next (procedure_of c.args.proc.now) c.args.control.now.loops c.args.control.now.loops c.args.pc c.args.rows.now c.loop-row.row-index c.row-item.result c.loop-row.answers
    c.push.new.self c.in_ok-input.input refl c.loop-row-test.true c.row-item.is c.loop-row.invariant (c.in_ok-input.ensures c.args.control.now.loops marks b) c.in_ok-push.ensures.ok
