use Rattle.std.proofs.Common.{◌≡◌, take}
use Rattle.std.specs.Prelude.{map, Some}
use Rattle.il_core.specs.Statement.{placed}
use Rattle.il_syntax.specs.Order.{run}
use Rattle.il_syntax.specs.declared.order.Stage.TheVariants.{Start}
use Rattle.il_syntax.proofs.order.order_break.Given as goal

abbrev pub invariant-loop-stmt : goal.invariant-loop-stmt
invariant-loop-stmt l = run Start (map placed (take l.stmt-index l.stmts)) ≡ Some l.stage
