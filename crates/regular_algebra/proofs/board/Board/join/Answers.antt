use Rattle.std.proofs.Common.{◌∙◌, ap, Some}
use Rattle.regular_algebra.specs.Rule.{put}
use Rattle.regular_algebra.proofs.Sizes.{board-noted_made}
use Rattle.regular_algebra.proofs.Turns.{joined-none, joined-some}
use Rattle.regular_algebra.proofs.board.Board.join.Goals as goal

pub put-requires-in-Some-clause-noted : goal.put-requires-in-Some-clause-noted
put-requires-in-Some-clause-noted c = board-noted_made _ _ _ _ _ _ c.in-Some.ensures c.in_ok-sum-in-Some.ensures.table

pub returns-in_ok-put-in-None-clause-table : goal.returns-in_ok-put-in-None-clause-table
returns-in_ok-put-in-None-clause-table c =
    joined-none _ _ _ _ _ _ c.in-None.ensures (c.in_ok-put-in-None.ensures.table ∙ ap (put c.args.i c.args.j (Some c.args.value)) c.in_ok-note-in-None.ensures.table)

pub returns-in_ok-put-in-Some-clause-table : goal.returns-in_ok-put-in-Some-clause-table
returns-in_ok-put-in-Some-clause-table c =
    joined-some _ _ _ _ _ _ _ _ _ c.in-Some.ensures c.in_ok-sum-in-Some.ensures.table c.in_ok-sum-in-Some.ensures.number c.in_ok-put-in-Some.ensures.table
