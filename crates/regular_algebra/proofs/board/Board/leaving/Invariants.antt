use Rattle.std.proofs.Common.{◌≡◌, take, get_or, []}
use Rattle.regular_algebra.proofs.Leaving.{live_nodes}
use Rattle.regular_algebra.proofs.board.Board.leaving.Given as goal

-- the live nodes of the first items
abbrev pub invariant-loop-item : goal.invariant-loop-item
invariant-loop-item l = l.nodes.items ≡ live_nodes l.self.gone.items (take l.item-index (get_or l.self.rows.items l.p []))
