-- What the types of the code hold: procedures that may be called, as they are written and expanded.
use Rattle.std.specs.Prelude.{◌≡◌, ℕ, ◌+◌, ◌<◌, nat_lt, if◌then◌else◌, List, [], ◌∷◌, map}
use Rattle.il_core.specs.Procedure.{instruction_of}
use Rattle.il_called.specs.Called.{WrittenLine, own, call, procedure_of}
use Rattle.il_called.specs.Expansion.{Callee, Expansion}
use Rattle.il_called.specs.declared.called.CalledProc.{CalledProc}
use Rattle.il_inline.specs.declared.inlined.Inlined.{Inlined}
use Rattle.il_inline.specs.declared.renumbering.Renumbering.{Renumbering}

-- the new number of a place
abbrev pub place_under : Renumbering → ℕ → ℕ
place_under r p = if nat_lt p r.kept then p else p + r.shift

abbrev pub expansion_held : Inlined → Expansion
expansion_held x = record { places = x.proc.places; lines = map instruction_of x.proc.lines; origins = x.origins; spans = x.spans }

abbrev pub callee_held : CalledProc → Inlined → Callee
callee_held p x = record { written = procedure_of p; expanded = expansion_held x }

-- the procedures that are expanded so far
abbrev pub callees_held : List CalledProc → List Inlined → List Callee
callees_held ps [] = []
callees_held [] (x ∷ xs) = []
callees_held (p ∷ ps) (x ∷ xs) = callee_held p x ∷ callees_held ps xs

-- they have the names of those that are written
abbrev pub HaveNames : List CalledProc → List Inlined → Type 0
HaveNames ps [] = Unit {0}
HaveNames [] (x ∷ xs) = ⊥
HaveNames (p ∷ ps) (x ∷ xs) = (x.proc.name ≡ p.name) × HaveNames ps xs

-- a line calls no procedure but one of the first n
abbrev pub CallsBelow : ℕ → WrittenLine → Type 0
CallsBelow n (own i) = Unit {0}
CallsBelow n (call c arguments) = c < n

abbrev pub AllCallBelow : ℕ → List WrittenLine → Type 0
AllCallBelow n [] = Unit {0}
AllCallBelow n (l ∷ ls) = CallsBelow n l × AllCallBelow n ls
