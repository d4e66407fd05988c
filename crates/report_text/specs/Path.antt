-- The path and the stop of a row or a threat: its decisions, T where the literal holds and F where it does not, and where it ends.
use Rattle.std.specs.Prelude.{ℕ, Bool, List, [], ◌∷◌, ◌++◌, codes, decimal, if◌then◌else◌}
use Rattle.std.specs.List.{flat_map}
use Rattle.il_core.specs.declared.line.Halt.{Halt}
use Rattle.il_core.specs.declared.line.Halt.TheVariants.{End, Outside, FailedAssert, FailedPost, DivZero, Range}
use Rattle.il_core.specs.declared.line.Stop.{Stop}
use Rattle.il_core.specs.declared.line.Stop.TheVariants as stop
use Rattle.form_text.specs.Lists.{line_text}

abbrev pub letter : Bool → List ℕ
letter decision = if decision then codes "T" else codes "F"

-- a path without decisions is a dash
abbrev pub path_text : List Bool → List ℕ
path_text [] = codes "-"
path_text (d ∷ ds) = flat_map letter (d ∷ ds)

-- what has a number and a path
abbrev pub numbered_path : List ℕ → ℕ → List Bool → List ℕ
numbered_path label n path = label ++ decimal n ++ codes " PATH " ++ path_text path

abbrev pub halt_text : Halt → List ℕ
halt_text End = codes "END"
halt_text Outside = codes "OUTSIDE"
halt_text (FailedAssert n) = codes "ASSERT " ++ line_text n
halt_text FailedPost = codes "POST"
halt_text (DivZero n) = codes "DIVZERO " ++ line_text n
halt_text (Range n) = codes "RANGE " ++ line_text n

abbrev pub stop_text : Stop → List ℕ
stop_text (stop.Head n) = codes "HEAD " ++ line_text n
stop_text (stop.Halted h) = halt_text h

-- the line of a stop
abbrev pub stop_line : Stop → List ℕ
stop_line s = codes "STOP " ++ stop_text s ++ codes "\n"
