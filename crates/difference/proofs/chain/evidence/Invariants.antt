use Rattle.std.proofs.Common.{◌≡◌, take}
use Rattle.difference.specs.Chains.{edges_of}
use Rattle.difference.proofs.chain.evidence.Given as goal

abbrev pub invariant-loop-step : goal.invariant-loop-step
invariant-loop-step l = l.edges.items ≡ edges_of (take l.step-index l.steps)
