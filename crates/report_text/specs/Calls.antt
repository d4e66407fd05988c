-- The lines that tell which lines of a procedure stand for a call, and which procedure is called.
use Rattle.std.specs.Prelude.{ℕ, List, ◌++◌, codes, decimal}
use Rattle.std.specs.List.{flat_map}
use Rattle.report.specs.declared.report.CallLine.{CallLine}

unfoldable pub call_text : CallLine → List ℕ
call_text c = codes "EXPANDED L" ++ decimal c.first ++ codes " L" ++ decimal c.last ++ codes " " ++ c.callee ++ codes "\n"

abbrev pub calls_text : List CallLine → List ℕ
calls_text calls = flat_map call_text calls
