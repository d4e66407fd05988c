-- Arcs that each lead forward or to a marked line, so that every cycle has a marked line.
use Rattle.std.specs.Prelude.{◌≡◌, ◌⊎◌, ℕ, ◌<◌, Bool, List, [], ◌∷◌, slice_get, Some}
use Rattle.il_core.specs.LineGraph.{heads_of}
use Rattle.il_core.specs.Procedure.{instruction_of}
use Rattle.il_core.specs.declared.line.Line.{Line}
use Rattle.line_machine.specs.Cut.{IsMarked}

-- the lines that arcs of line pc enter
abbrev pub LeadOn : List Bool → ℕ → List ℕ → Type 0
LeadOn cuts pc [] = Unit {0}
LeadOn cuts pc (q ∷ qs) = ((pc < q) ⊎ IsMarked cuts q) × LeadOn cuts pc qs

abbrev pub LinesLeadOn : List Bool → List Line → Type 0
LinesLeadOn cuts lines = (pc : ℕ) (line : Line) → slice_get lines pc ≡ Some line → LeadOn cuts pc (heads_of pc (instruction_of line))
