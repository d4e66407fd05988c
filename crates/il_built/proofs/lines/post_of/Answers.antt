use Rattle.std.proofs.Common.{◌≡◌, ◌∙◌, sym, ap, refl, [], arith, ℕ}
use Rattle.std.specs.Prelude.{List}
use Rattle.std.proofs.lemmas.Result.{IfOk-weaker}
use Rattle.il_core.specs.Expression.{Expression, expression_of}
use Rattle.il_core.specs.Statement.{Statement, placed}
use Rattle.il_core.specs.Tree.{tree_of}
use Rattle.il_core.specs.declared.line.Expr.{Expr}
use Rattle.il_types.specs.Built.{built}
use Rattle.il_types.specs.Names.{Setting}
use Rattle.il_built.specs.CheckedText.{posted, first_condition}
use Rattle.il_built.specs.Holding.{setting_at}
use Rattle.il_built.proofs.Given.{given_by}
use Rattle.il_built.proofs.Gathered.{gathered_start, gathered_step, gathered_end, given_first}
use Rattle.il_built.proofs.lines.post_of.Goals as goal

pub loop-i-init : goal.loop-i-init
loop-i-init c =
    let stmts = c.args.setting.now.stmts in
    let give : ℕ → Statement → List Expression = λ i x. posted (setting_at stmts i) x in
    gathered_start give stmts c.args.span.owner c.args.span.from c.args.span.to c.requires.statements

pub returns-in-Some : goal.returns-in-Some
returns-in-Some c =
    let say : Setting → ℕ → Statement → List Expression = λ s i x. posted s x in
    let s = c.args.setting.now in
    let here = c.in_procedure-here.result in
    let first = given_first say s.stmts s.table c.args.span.owner c.args.span.from c.args.span.to c.loop-i.i here (placed c.stmt.result.now) (built here (tree_of c.in-Some.raw.now))
    c.in_procedure-here.ensures c.stmt.ensures c.requires.names c.requires.statements c.loop-i.auto.i c.loop-i-test.true c.loop-i.invariant (sym (c.in-Some.ensures here)) in
    IfOk-weaker c.build_expression.result (λ (e : Expr). expression_of e ≡ built here (tree_of c.in-Some.raw.now)) _
    (λ e is. is ∙ sym (ap first_condition first.1)) c.build_expression.ensures

pub loop-i-preserved : goal.loop-i-preserved
loop-i-preserved c =
    let say : Setting → ℕ → Statement → List Expression = λ s i x. posted s x in
    let s = c.args.setting.now in
    let here = c.in_procedure-here.result in
    sym (gathered_step say s.stmts s.table c.args.span.owner c.args.span.from c.args.span.to c.loop-i.i here (placed c.stmt.result.now) [] [] []
    c.in_procedure-here.ensures c.stmt.ensures c.requires.names c.requires.statements c.loop-i.auto.i c.loop-i-test.true (sym c.loop-i.invariant)
    (sym (c.in_default.ensures here)) refl)

pub returns : goal.returns
returns c =
    let stmts = c.args.setting.now.stmts in
    let give : ℕ → Statement → List Expression = λ i x. posted (setting_at stmts i) x in
    let s = c.requires.statements in
    let ordered = s.ordered in
    let e : c.loop-i.i ≡ c.args.span.to = omega arith in
    ap first_condition (sym c.loop-i.invariant ∙ ap (given_by give stmts c.args.span.owner) e ∙ gathered_end give stmts c.args.span.owner c.args.span.from c.args.span.to s)
