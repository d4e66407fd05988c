-- The modes allow a use of a variable: only a variable that is not IN is assigned, OLD names an INOUT variable and stands in PRE, POST and
-- ASSERT alone, PRE names no OUT or LOCAL variable, POST no LOCAL one.
use Rattle.std.specs.Prelude.{ℕ, Bool, true, false, ◌&&◌, List, Option, Some, None}
use Rattle.std.specs.Option.{option_and_then}
use Rattle.il_core.specs.Tree.{Tree, number, word, former, constant, minus, opposite, two}
use Rattle.il_core.specs.Statement.{Statement, variable, pre, post, assign, if_true, exit_when, assert}
use Rattle.il_core.specs.declared.statement.Mode.{Mode}
use Rattle.il_core.specs.declared.statement.Mode.TheVariants as mode
use Rattle.il_types.specs.declared.modes.Part.{Part}
use Rattle.il_types.specs.declared.modes.Part.TheVariants as part
use Rattle.il_types.specs.Names.{Setting, declaration}

abbrev pub mode_in : Statement → Option Mode
mode_in (variable m _ _) = Some m
mode_in _ = None

-- the mode of a name, where it is a variable's
abbrev pub mode_of : Setting → List ℕ → Option Mode
mode_of s name = option_and_then (λ d. mode_in d.1) (declaration s name)

abbrev pub may_name : Part → Option Mode → Bool
may_name part.Precondition (Some mode.Output) = false
may_name part.Precondition (Some mode.Local) = false
may_name part.Postcondition (Some mode.Local) = false
may_name _ _ = true

abbrev pub may_recall : Part → Option Mode → Bool
may_recall part.Action m = false
may_recall _ (Some mode.InOut) = true
may_recall _ _ = false

abbrev pub may_assign : Option Mode → Bool
may_assign (Some mode.Input) = false
may_assign _ = true

abbrev pub keeps_modes : Setting → Part → Tree → Bool
keeps_modes s p (number _) = true
keeps_modes s p (word name) = may_name p (mode_of s name)
keeps_modes s p (former name) = may_recall p (mode_of s name)
keeps_modes s p (constant _) = true
keeps_modes s p (minus e) = keeps_modes s p e
keeps_modes s p (opposite e) = keeps_modes s p e
keeps_modes s p (two _ a b) = keeps_modes s p a && keeps_modes s p b

abbrev pub is_allowed : Setting → Statement → Bool
is_allowed s (pre e) = keeps_modes s part.Precondition e
is_allowed s (post e) = keeps_modes s part.Postcondition e
is_allowed s (assign name e) = may_assign (mode_of s name) && keeps_modes s part.Action e
is_allowed s (if_true e) = keeps_modes s part.Action e
is_allowed s (exit_when e) = keeps_modes s part.Action e
is_allowed s (assert e) = keeps_modes s part.Assertion e
is_allowed s _ = true
