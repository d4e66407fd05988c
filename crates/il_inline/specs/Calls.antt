-- The calls of a procedure fit the procedures that they call.
use Rattle.std.specs.Prelude.{◌≡◌, ℕ, ◌≤◌, List, [], ◌∷◌, length, slice_get, Some}
use Rattle.il_called.specs.Called.{Passed, WrittenLine, own, call}
use Rattle.il_called.specs.CalledText.{Suit, parameters_of}
use Rattle.il_called.specs.Expansion.{Callee}

-- the procedure that is called is expanded, and has a parameter for each argument
pub record CallFits (callees : List Callee) (n : ℕ) (arguments : List Passed) : Type 0 where
  pub callee : Callee
  pub there : slice_get callees n ≡ Some callee
  pub suits : Suit (parameters_of callee.written) arguments
  pub lines : 1 ≤ length callee.expanded.lines

abbrev pub LineCalls : List Callee → WrittenLine → Type 0
LineCalls callees (own i) = Unit {0}
LineCalls callees (call n arguments) = CallFits callees n arguments

abbrev pub AllCall : List Callee → List WrittenLine → Type 0
AllCall callees [] = Unit {0}
AllCall callees (line ∷ lines) = LineCalls callees line × AllCall callees lines
