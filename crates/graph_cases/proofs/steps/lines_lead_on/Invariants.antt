use Rattle.std.proofs.Common.{◌≡◌, ◌<◌, ℕ, slice_get, Some}
use Rattle.il_core.specs.LineGraph.{heads_of}
use Rattle.il_core.specs.Procedure.{instruction_of}
use Rattle.il_core.specs.declared.line.Line.{Line}
use Rattle.line_machine.specs.Arcs.{LeadOn}
use Rattle.graph_cases.proofs.steps.lines_lead_on.Given as goal

-- the lines so far lead on
abbrev pub invariant-loop-pc : goal.invariant-loop-pc
invariant-loop-pc l = (k : ℕ) (line : Line) → k < l.pc → slice_get l.lines k ≡ Some line → LeadOn l.cuts k (heads_of k (instruction_of line))
