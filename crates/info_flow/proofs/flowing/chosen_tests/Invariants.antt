use Rattle.info_flow.specs.Growth.{IsChosen}
use Rattle.info_flow.proofs.Listing.{ListsBelow}
use Rattle.info_flow.proofs.flowing.chosen_tests.Given as goal

abbrev pub invariant-loop-line : goal.invariant-loop-line
invariant-loop-line l = ListsBelow (IsChosen l.graph l.reached l.lines) l.line l.tests
