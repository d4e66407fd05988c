use Rattle.std.proofs.Common.{◌≡◌, ◌∙◌, sym, ap, arith, ℕ}
use Rattle.std.specs.Prelude.{map, List}
use Rattle.std.specs.Option.{option_to_list, option_map}
use Rattle.il_core.specs.Procedure.{Instruction, instruction_of}
use Rattle.il_core.specs.Statement.{Statement, placed, statement_of}
use Rattle.il_types.specs.Names.{Setting, setting}
use Rattle.il_built.specs.CheckedText.{post_of, target_at, instructions}
use Rattle.il_built.specs.Holding.{setting_at}
use Rattle.il_built.proofs.Given.{given_by}
use Rattle.il_built.proofs.Gathered.{gathered_start, gathered_step, gathered_end, one_more, no_more}
use Rattle.il_built.proofs.lines.lines_of.Goals as goal
use Rattle.il_built.proofs.lines.lines_of.Goals.{in-Some+in_ok-push, in_default}

pub loop-i-init : goal.loop-i-init
loop-i-init c =
    let stmts = c.args.setting.now.stmts in
    let give : ℕ → Statement → List Instruction = λ i x. instructions (setting_at stmts i) (post_of stmts c.args.span.owner) (target_at c.args.links.now i) x in
    ap (map instruction_of) c.new-lines.ensures ∙ sym (gathered_start give stmts c.args.span.owner c.args.span.from c.args.span.to c.requires.statements)

pub loop-i-preserved : goal.loop-i-preserved
loop-i-preserved c =
    let s = c.args.setting.now in
    let here = c.in_procedure-here.result in
    let at : here ≡ setting s.table s.stmts c.args.span.owner c.loop-i.i = c.in_procedure-here.ensures in
    let says = statement_of c.stmt.result.now.form in
    let say : Setting → ℕ → Statement → List Instruction = λ z i x. instructions z (post_of s.stmts c.args.span.owner) (target_at c.args.links.now i) x in
    gathered_step say s.stmts s.table c.args.span.owner c.args.span.from c.args.span.to c.loop-i.i here (placed c.stmt.result.now)
    (map instruction_of c.loop-i.lines) (map instruction_of c.match-branch-2.lines) (option_to_list (option_map instruction_of c.in_ok-line.field-0))
    at c.stmt.ensures c.requires.names c.requires.statements c.loop-i.auto.i c.loop-i-test.true c.loop-i.invariant
    (c.in_ok-line.ensures ∙ ap (λ (z : Setting). instructions here (post_of z.stmts c.args.span.owner) c.target_at-target.result says) at
    ∙ ap (λ t. instructions here (post_of s.stmts c.args.span.owner) t says) c.target_at-target.ensures)
    (elim c.match-branch-2.branch [
      | in-Some+in_ok-push w ↦ one_more instruction_of c.loop-i.lines c.match-branch-2.lines w.in-Some.line c.in_ok-line.field-0 (w.lines-is ∙ w.in_ok-push.ensures.ok) w.in-Some.is
      | in_default w ↦ no_more instruction_of c.loop-i.lines c.match-branch-2.lines c.in_ok-line.field-0 w.lines-is w.in_default.is
    ])

pub returns : goal.returns
returns c =
    let stmts = c.args.setting.now.stmts in
    let give : ℕ → Statement → List Instruction = λ i x. instructions (setting_at stmts i) (post_of stmts c.args.span.owner) (target_at c.args.links.now i) x in
    let s = c.requires.statements in
    let ordered = s.ordered in
    let e : c.loop-i.i ≡ c.args.span.to = omega arith in
    c.loop-i.invariant ∙ ap (given_by give stmts c.args.span.owner) e ∙ gathered_end give stmts c.args.span.owner c.args.span.from c.args.span.to s
