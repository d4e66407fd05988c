use Rattle.regular_algebra.proofs.Turns.{passed-none, passed-some}
use Rattle.regular_algebra.proofs.Listed.{listed-made}
use Rattle.regular_algebra.proofs.board.Board.pass.Goals as goal

pub returns-in-None-clause-table : goal.returns-in-None-clause-table
returns-in-None-clause-table c = passed-none _ _ _ _ _ c.in-None.ensures c.in_ok-turn_rows-in-None.ensures.table

pub returns-clause-table : goal.returns-clause-table
returns-clause-table c =
    passed-some _ _ _ _ _ _ _ _ _ _ c.in_ok-star-in-Some.ensures.sized.first c.in_ok-star-in-Some.ensures.sized.count c.in-Some.ensures
    c.in_ok-star-in-Some.ensures.table c.in_ok-star-in-Some.ensures.number c.in_ok-turn_rows-in-Some.ensures.table

pub turn_rows-requires-in-Some-clause-entering : goal.turn_rows-requires-in-Some-clause-entering
turn_rows-requires-in-Some-clause-entering c =
    rw c.as_slice-in-Some.ensures.value ((listed-made c.args.p _ _ _ _ _ c.in_ok-star-in-Some.ensures.table c.in_ok-entering.ensures c.in_ok-leaving.ensures).0)

pub turn_rows-requires-in-Some-clause-leaving : goal.turn_rows-requires-in-Some-clause-leaving
turn_rows-requires-in-Some-clause-leaving c =
    rw c.as_slice-in-Some-2.ensures.value ((listed-made c.args.p _ _ _ _ _ c.in_ok-star-in-Some.ensures.table c.in_ok-entering.ensures c.in_ok-leaving.ensures).1)
