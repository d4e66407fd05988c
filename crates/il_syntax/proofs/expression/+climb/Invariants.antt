use Rattle.std.proofs.Common.{◌≡◌, ◌+◌, ◌-◌, ◌*◌, ◌≤◌}
use Rattle.il_syntax.specs.Expression.{kinds}
use Rattle.il_syntax.specs.ExpressionReading.{view, further, climb}
use Rattle.il_syntax.proofs.expression.+climb.Given as goal

abbrev pub decreases-climb : goal.decreases-climb
decreases-climb l = 2 * l.room

abbrev pub decreases-first_operand : goal.decreases-first_operand
decreases-first_operand l = 2 * l.room + 1

abbrev pub decreases-further : goal.decreases-further
decreases-further l = 2 * l.room + 1

abbrev pub decreases-further-sides : goal.decreases-further-sides
decreases-further-sides l = l.room + 1 + 1 - l.seen.depth

abbrev pub invariant-further-sides : goal.invariant-further-sides
invariant-further-sides l = record {
  shallow : l.seen.depth ≤ l.room + 1;
  same : further (climb l.room) (l.room + 1) l.room l.least (view l.seen) (kinds l.rest) ≡ further (climb l.room) (l.room + 1) l.room l.least (view l.fn.seen) (kinds l.fn.tokens);
}
