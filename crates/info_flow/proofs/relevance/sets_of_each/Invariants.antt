use Rattle.info_flow.proofs.EachSets.{SetsBelow}
use Rattle.info_flow.proofs.relevance.sets_of_each.Given as goal

abbrev pub invariant-loop-number : goal.invariant-loop-number
invariant-loop-number l = SetsBelow l.graph l.places l.number l.found
