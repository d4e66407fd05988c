use Rattle.std.proofs.Common.{◌≡◌, [], replicate}
use Rattle.regular_algebra.proofs.board.empty_columns.Given as goal

-- one empty column for each node so far
abbrev pub invariant-loop-column : goal.invariant-loop-column
invariant-loop-column l = l.columns.items ≡ replicate l._column []
