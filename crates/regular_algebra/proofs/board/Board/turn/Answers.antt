use Rattle.std.proofs.Common.{◌≡◌, ◌⊎◌, inl, inr}
use Rattle.regular_algebra.proofs.Sizes.{board-stands}
use Rattle.regular_algebra.proofs.Turns.{turn-own, turn-none, turn-none_right, turn-some}
use Rattle.regular_algebra.proofs.board.Board.turn.Goals as goal

pub returns-then-i-p-clause-table : goal.returns-then-i-p-clause-table
returns-then-i-p-clause-table c =
    let own : (c.args.i ≡ c.args.p) ⊎ (c.args.j ≡ c.args.p) = elim c.then-i-p.either [ inl e ↦ inl e | inr r ↦ inr r.1 ] in
    turn-own _ _ _ _ _ _ own

pub returns-in_default-clause-table : goal.returns-in_default-clause-table
returns-in_default-clause-table c = turn-none _ _ _ _ _ _ c.in_default.ensures

pub returns-in_default-entry-clause-table : goal.returns-in_default-entry-clause-table
returns-in_default-entry-clause-table c = turn-none_right _ _ _ _ _ _ c.in_default-entry.ensures

pub returns-clause-table : goal.returns-clause-table
returns-clause-table c =
    turn-some _ _ _ _ _ _ _ _ _ c.if-i-p.false c.if-j-p.false c.in-Some.ensures c.in-Some-entry.ensures c.in_ok-multiply_through.ensures.table

pub multiply_through-requires-clause-row : goal.multiply_through-requires-clause-row
multiply_through-requires-clause-row c = (board-stands _ _ _ _ c.in-Some.ensures).row

pub multiply_through-requires-clause-column : goal.multiply_through-requires-clause-column
multiply_through-requires-clause-column c = (board-stands _ _ _ _ c.in-Some-entry.ensures).column
