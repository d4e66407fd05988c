-- An input of the lines that a run may come to from a line on: at line 0 an initial state, elsewhere a state in range.
use Rattle.std.specs.Prelude.{ℕ, zero, suc, List}
use Rattle.il_core.specs.Evaluation.{State}
use Rattle.il_core.specs.Run.{IsInRange, IsInitial}
use Rattle.il_core.specs.declared.line.Place.{Place}

abbrev pub IsInput : List Place → ℕ → State → Type 0
IsInput places zero s = IsInitial places s
IsInput places (suc pc) s = IsInRange places s
