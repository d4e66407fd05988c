-- Instructions whose places and targets have small numbers.
use Rattle.std.specs.Prelude.{ℕ, ◌<◌, List, [], ◌∷◌}
use Rattle.il_core.specs.Expression.{Expression, number, variable, flag, truth, minus, opposite, two}
use Rattle.il_core.specs.Procedure.{Instruction, pre, assign, if_true, otherwise, end_if, loop, end_loop, exit, exit_when, label, goto, skip, assert, return, end_procedure}

-- an expression names places below a limit
abbrev pub NamesBelow : ℕ → Expression → Type 0
NamesBelow n (number v) = Unit {0}
NamesBelow n (variable p) = p < n
NamesBelow n (flag p) = p < n
NamesBelow n (truth b) = Unit {0}
NamesBelow n (minus e) = NamesBelow n e
NamesBelow n (opposite e) = NamesBelow n e
NamesBelow n (two o a b) = NamesBelow n a × NamesBelow n b

-- an instruction names places below one limit and lines below another
abbrev pub IsWithin : ℕ → ℕ → Instruction → Type 0
IsWithin n m (pre e) = NamesBelow n e
IsWithin n m (assign p e) = (p < n) × NamesBelow n e
IsWithin n m (if_true e q) = NamesBelow n e × (q < m)
IsWithin n m (otherwise q) = q < m
IsWithin n m end_if = Unit {0}
IsWithin n m loop = Unit {0}
IsWithin n m (end_loop q) = q < m
IsWithin n m (exit q) = q < m
IsWithin n m (exit_when e q) = NamesBelow n e × (q < m)
IsWithin n m label = Unit {0}
IsWithin n m (goto q) = q < m
IsWithin n m skip = Unit {0}
IsWithin n m (assert e) = NamesBelow n e
IsWithin n m (return q) = q < m
IsWithin n m (end_procedure e) = NamesBelow n e

-- each of these names places and lines below the limits of a procedure
abbrev pub AreWithin : List Instruction → Type 0
AreWithin [] = Unit {0}
AreWithin (i ∷ is) = IsWithin 64 1000 i × AreWithin is
