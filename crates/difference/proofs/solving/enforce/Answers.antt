-- A raise wakes its unknown.
use Rattle.std.proofs.Common.{rules, SFits, w64}
use Rattle.std.proofs.lemmas.Int.{to_z-of_z}
use Rattle.difference.proofs.Lifts.{keeps-put}
use Rattle.difference.proofs.solving.enforce.Goals as goal

pub returns-in-Raised : goal.returns-in-Raised
returns-in-Raised c =
    let raised = rw c.in-Raised.is at c.in_ok-lift_by.ensures in
    let fits : SFits w64 c.in-Raised.value = search rules in
    keeps-put c.args.ranges.now c.args.constraints.now c.args.board.now c.put.new.board c.args.index c.in-Raised.node c.in-Raised.value c.in-Raised.chain
    c.requires.kept raised (rw (to_z-of_z w64 c.in-Raised.value fits) at c.put.ensures.values) c.put.ensures.chains c.put.ensures.pending
