-- The numbers that come up in the step of a line of a checked procedure are small.
use Rattle.std.proofs.Common.{◌≡◌, sym, ap, ◌∙◌, ℕ, Bool, true, false, Some, List, map, length, slice_get}
use Rattle.std.proofs.lemmas.Option.{slice_get-map}
use Rattle.std.specs.Option.{option_map}
use Rattle.il_core.specs.Expression.{Expression}
use Rattle.il_core.specs.Evaluation.{State}
use Rattle.il_core.specs.Bounds.{IsNarrow}
use Rattle.il_core.specs.Procedure.{Instruction, instruction_of, pre, assign, if_true, otherwise, end_if, loop, end_loop, exit, exit_when, label, goto, skip, assert, return, end_procedure}
use Rattle.il_core.specs.Run.{IsInRange}
use Rattle.il_core.specs.Checked.{IsChecked, FitsAt, IsSoundCondition, Suits, NamedProcedure, procedure_of}
use Rattle.il_core.specs.Machine.{Step, step, stepped, stepped_at}
use Rattle.il_core.specs.declared.line.Place.{Place}
use Rattle.il_core.specs.declared.line.Line.{Line}
use Rattle.line_machine.specs.Fits.{PartsFit, LineFits}
use Rattle.line_machine.proofs.NarrowFits.{whole-fits, condition-fits}

-- the instruction that stands where a line stands
pub instruction_there : (lines : List Line) (pc : ℕ) (l : Line) → slice_get lines pc ≡ Some l → slice_get (map instruction_of lines) pc ≡ Some (instruction_of l)
instruction_there lines pc l h = slice_get-map instruction_of lines pc ∙ ap (option_map instruction_of) h

-- of a sound condition
sound-fits : (places : List Place) (s : State) (e : Expression) → IsInRange places s → IsSoundCondition places e → PartsFit s e
sound-fits places s e r h = condition-fits places s r e h.typed h.narrow

-- of what suits a place
suiting-fits : (b : Bool) (places : List Place) (s : State) (e : Expression) → IsInRange places s → Suits b places e → IsNarrow places e → PartsFit s e
suiting-fits true places s e r t n = condition-fits places s r e t n
suiting-fits false places s e r t n = whole-fits places s r e t n

-- of an instruction that fits its line
pub line-fits : (places : List Place) (count pc : ℕ) (s : State) (i : Instruction) → IsInRange places s → FitsAt places count pc i → LineFits s i
line-fits places count pc s (pre e) r f = sound-fits places s e r f.1
line-fits places count pc s (assign p e) r f = suiting-fits f.1.target.flag places s e r f.1.typed f.1.narrow
line-fits places count pc s (if_true e q) r f = sound-fits places s e r f.2
line-fits places count pc s (otherwise q) r f = tt
line-fits places count pc s end_if r f = tt
line-fits places count pc s loop r f = tt
line-fits places count pc s (end_loop q) r f = tt
line-fits places count pc s (exit q) r f = tt
line-fits places count pc s (exit_when e q) r f = sound-fits places s e r f.2
line-fits places count pc s label r f = tt
line-fits places count pc s (goto q) r f = tt
line-fits places count pc s skip r f = tt
line-fits places count pc s (assert e) r f = sound-fits places s e r f.1
line-fits places count pc s (return q) r f = tt
line-fits places count pc s (end_procedure e) r f = sound-fits places s e r f.1

-- the step of the line that stands at pc is the procedure's
pub line-step : (p : NamedProcedure) (pc : ℕ) (s : State) (l : Line) (to : Step) → slice_get p.lines pc ≡ Some l → to ≡ stepped p.places pc s (instruction_of l)
    → to ≡ step (procedure_of p) pc s
unfolding step
line-step p pc s l to there h = h ∙ ap (stepped_at p.places pc s) (sym (instruction_there p.lines pc l there))

-- the numbers that come up at a line of a checked procedure are small
pub there-fits : (p : NamedProcedure) (pc : ℕ) (s : State) (l : Line) → IsChecked (procedure_of p) → IsInRange p.places s → slice_get p.lines pc ≡ Some l
    → LineFits s (instruction_of l)
there-fits p pc s l c r there =
    line-fits p.places (length (map instruction_of p.lines)) pc s (instruction_of l) r (c.fits pc (instruction_of l) (instruction_there p.lines pc l there))
