use Rattle.std.proofs.Common.{arith}
use Rattle.regular_algebra.proofs.Turns.{among-at}
use Rattle.regular_algebra.proofs.board.Board.eliminate_all.Goals as goal

pub eliminate_node-requires : goal.eliminate_node-requires
eliminate_node-requires c =
    omega (arith, c.requires _ (among-at c.args.order.now c.loop-p.p-index c.loop-p-test.true), c.loop-p.invariant.sized.count)
