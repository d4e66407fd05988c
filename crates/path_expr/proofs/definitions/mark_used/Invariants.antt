use Rattle.std.proofs.Common.{◌≤◌, length}
use Rattle.path_expr.proofs.Marking.{Using}
use Rattle.path_expr.proofs.definitions.mark_used.Given as goal

-- the steps from k on have marked what they name
abbrev pub invariant-loop-k : goal.invariant-loop-k
invariant-loop-k l = record { within : l.k ≤ length l.steps; using : Using l.first l.steps l.fn.answer l.k l.used }

abbrev pub decreases-loop-k : goal.decreases-loop-k
decreases-loop-k l = l.k
