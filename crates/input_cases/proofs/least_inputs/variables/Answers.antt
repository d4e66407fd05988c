use Rattle.std.proofs.lemmas.List.Elements.{All-push}
use Rattle.input_cases.specs.Asked.{IsVariable}
use Rattle.input_cases.proofs.least_inputs.variables.Goals as goal

pub loop-row-preserved : goal.loop-row-preserved
loop-row-preserved c = rw c.in_ok-push.ensures.items (All-push IsVariable c.loop-row.found.items c.variable.result c.loop-row.invariant c.variable.ensures)
