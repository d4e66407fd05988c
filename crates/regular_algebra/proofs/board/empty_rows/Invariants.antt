use Rattle.std.proofs.Common.{◌≡◌, [], replicate}
use Rattle.regular_algebra.proofs.board.empty_rows.Given as goal

-- one empty row for each node so far
abbrev pub invariant-loop-row : goal.invariant-loop-row
invariant-loop-row l = l.rows.items ≡ replicate l._row []
