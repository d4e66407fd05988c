use Rattle.std.proofs.Common.{All}
use Rattle.input_cases.specs.Asked.{IsVariable}
use Rattle.input_cases.proofs.least_inputs.variables.Given as goal

abbrev pub invariant-loop-row : goal.invariant-loop-row
invariant-loop-row l = All IsVariable l.found.items
