use Rattle.std.proofs.Common.{◌≡◌, ◌++◌, drop}
use Rattle.difference.specs.Chains.{givens}
use Rattle.difference.proofs.answers.named.Given as goal

abbrev pub invariant-loop-edge : goal.invariant-loop-edge
invariant-loop-edge l = l.places.items ++ givens (drop l.edge-index l.edges) ≡ givens l.edges
