-- Each number that comes up while an expression is evaluated in a state is small: within 2 ^ 126 on either side of 0.
use Rattle.std.specs.Prelude.{◌^◌, ◌≤◌, ℤ, unsigned_abs, Option, Some, None}
use Rattle.il_core.specs.Expression.{Expression, number, variable, flag, truth, minus, opposite, two}
use Rattle.il_core.specs.Evaluation.{State, value_at, whole}
use Rattle.il_core.specs.Procedure.{Instruction, pre, assign, if_true, otherwise, end_if, loop, end_loop, exit, exit_when, label, goto, skip, assert, return, end_procedure}

abbrev pub IsSmall : Option ℤ → Type 0
IsSmall None = Unit {0}
IsSmall (Some v) = unsigned_abs v ≤ 2 ^ 126

abbrev pub PartsFit : State → Expression → Type 0
PartsFit s (number n) = IsSmall (Some n)
PartsFit s (variable p) = IsSmall (Some (value_at s p))
PartsFit s (flag p) = Unit {0}
PartsFit s (truth b) = Unit {0}
PartsFit s (minus e) = PartsFit s e × IsSmall (whole (minus e) s)
PartsFit s (opposite e) = PartsFit s e
PartsFit s (two o a b) = PartsFit s a × PartsFit s b × IsSmall (whole (two o a b) s)

-- the same of the expression of an instruction, where it has one
abbrev pub LineFits : State → Instruction → Type 0
LineFits s (pre e) = PartsFit s e
LineFits s (assign p e) = PartsFit s e
LineFits s (if_true e q) = PartsFit s e
LineFits s (otherwise q) = Unit {0}
LineFits s end_if = Unit {0}
LineFits s loop = Unit {0}
LineFits s (end_loop q) = Unit {0}
LineFits s (exit q) = Unit {0}
LineFits s (exit_when e q) = PartsFit s e
LineFits s label = Unit {0}
LineFits s (goto q) = Unit {0}
LineFits s skip = Unit {0}
LineFits s (assert e) = PartsFit s e
LineFits s (return q) = Unit {0}
LineFits s (end_procedure e) = PartsFit s e
