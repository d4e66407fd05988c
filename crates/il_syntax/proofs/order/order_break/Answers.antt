use Rattle.std.proofs.Common.{◌≡◌, ◌≤◌, ℕ, true, false, List, length, take, rules, sym, ◌∙◌, ap}
use Rattle.std.specs.Prelude.{map, Some}
use Rattle.std.proofs.lemmas.List.{take_all}
use Rattle.il_core.specs.Statement.{placed}
use Rattle.il_core.specs.declared.statement.Stmt.{Stmt}
use Rattle.il_syntax.specs.Order.{run}
use Rattle.il_syntax.specs.declared.order.Stage.{Stage}
use Rattle.il_syntax.specs.declared.order.Stage.TheVariants.{Start}
use Rattle.il_syntax.proofs.Ordering.{goes_on, breaks_here, breaks_behind}
use Rattle.il_syntax.proofs.order.order_break.Goals as goal

pub returns-in-None : goal.returns-in-None
returns-in-None c =
    breaks_here c.args.text_len c.args.stmts.now c.loop-stmt.stmt-index c.stmt-item.result c.loop-stmt.stage c.loop-stmt-test.true (sym c.stmt-item.is) c.loop-stmt.invariant (search (rules, c.in-None.ensures))

pub loop-stmt-preserved : goal.loop-stmt-preserved
loop-stmt-preserved c =
    goes_on c.args.stmts.now c.loop-stmt.stmt-index c.stmt-item.result c.loop-stmt.stage c.in-Some.after c.loop-stmt-test.true (sym c.stmt-item.is) c.loop-stmt.invariant (search (rules, c.in-Some.ensures))

-- all of the statements have been passed
all_passed : (stmts : List Stmt) (i : ℕ) (stage : Stage) → length stmts ≤ i → run Start (map placed (take i stmts)) ≡ Some stage → run Start (map placed stmts) ≡ Some stage
all_passed stmts i stage h e = ap (λ x. run Start (map placed x)) (sym (take_all i stmts h)) ∙ e

pub returns-else-is_done : goal.returns-else-is_done
returns-else-is_done c = breaks_behind c.args.text_len (map placed c.args.stmts.now) c.loop-stmt.stage
    (all_passed c.args.stmts.now c.loop-stmt.stmt-index c.loop-stmt.stage c.loop-stmt-test.false c.loop-stmt.invariant) (λ h. let e : false ≡ true = c.if-is_done.ensures.1 h in cc)
