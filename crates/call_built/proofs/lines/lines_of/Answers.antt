use Rattle.std.proofs.Common.{◌≡◌, ◌<◌, ◌∙◌, sym, ap, arith, length, subst, ℕ}
use Rattle.std.specs.Prelude.{map, List}
use Rattle.std.specs.Option.{option_to_list, option_map}
use Rattle.il_core.specs.Statement.{Statement, placed, statement_of}
use Rattle.il_types.specs.Names.{Setting, setting, counts_at}
use Rattle.il_built.specs.Holding.{setting_at}
use Rattle.il_built.specs.Span.{AreStatementsOf}
use Rattle.il_built.proofs.Given.{given_by}
use Rattle.il_built.proofs.Gathered.{gathered_start, gathered_step, gathered_end, one_more, no_more}
use Rattle.il_called.specs.Called.{WrittenLine, written_of}
use Rattle.call_rules.specs.CalledText.{written_lines}
use Rattle.call_rules.specs.Parameters.{AreParameters}
use Rattle.call_rules.proofs.Here.{setting_here}
use Rattle.call_built.proofs.lines.lines_of.Goals as goal
use Rattle.call_built.proofs.lines.lines_of.Goals.{in-Some+in_ok-push, in_default}

pub loop-i-init : goal.loop-i-init
loop-i-init c =
    let s = c.args.setting.now in
    ap (map written_of) c.new-lines.ensures
    ∙ sym (gathered_start (written_lines s.stmts c.args.links.now c.args.span.owner) s.stmts c.args.span.owner c.args.span.from c.args.span.to c.requires.statements)

pub called_line_of-requires : goal.called_line_of-requires
called_line_of-requires c =
    let s = c.args.setting.now in
    let span = c.requires.statements in
    let within = span.within in
    let from = c.loop-i.auto.i in
    let to = c.loop-i-test.true in
    let at = c.in_procedure-here.ensures in
    let own : c.args.span.owner ≡ (counts_at s.stmts c.loop-i.i).procedures = sym (span.inside c.loop-i.i from to) in
    let i : c.loop-i.i < length s.stmts = omega arith in
    record {
      inside = subst (λ (z : Setting). z.at < length z.stmts) (sym at) i;
      here = setting_here s.stmts s.table c.args.span.owner c.loop-i.i c.in_procedure-here.result c.requires.names own at
          ∙ ap (λ (z : Setting). setting_at z.stmts z.at) (sym at);
      parameters = subst (λ (z : Setting). AreParameters z.stmts c.args.parameters.now) (sym at) c.requires.parameters;
      statements = subst (λ (z : Setting). AreStatementsOf z.stmts c.args.span.owner c.args.span.from c.args.span.to) (sym at) span;
    }

pub loop-i-preserved : goal.loop-i-preserved
loop-i-preserved c =
    let s = c.args.setting.now in
    let owner = c.args.span.owner in
    let at : c.in_procedure-here.result ≡ setting s.table s.stmts owner c.loop-i.i = c.in_procedure-here.ensures in
    let says = statement_of c.stmt.result.now.form in
    let say : Setting → ℕ → Statement → List WrittenLine = λ z i x. written_lines s.stmts c.args.links.now owner i x in
    gathered_step say s.stmts s.table owner c.args.span.from c.args.span.to c.loop-i.i c.in_procedure-here.result (placed c.stmt.result.now)
    (map written_of c.loop-i.lines) (map written_of c.match-branch-2.lines) (option_to_list (option_map written_of c.in_ok-line.field-0))
    at c.stmt.ensures c.requires.names c.requires.statements c.loop-i.auto.i c.loop-i-test.true c.loop-i.invariant
    (c.in_ok-line.ensures ∙ ap (λ (z : Setting). written_lines z.stmts c.args.links.now owner z.at says) at)
    (elim c.match-branch-2.branch [
      | in-Some+in_ok-push w ↦ one_more written_of c.loop-i.lines c.match-branch-2.lines w.in-Some.line c.in_ok-line.field-0 (w.lines-is ∙ w.in_ok-push.ensures.ok) w.in-Some.is
      | in_default w ↦ no_more written_of c.loop-i.lines c.match-branch-2.lines c.in_ok-line.field-0 w.lines-is w.in_default.is
    ])

pub returns : goal.returns
returns c =
    let s = c.args.setting.now in
    let give = written_lines s.stmts c.args.links.now c.args.span.owner in
    let span = c.requires.statements in
    let ordered = span.ordered in
    let e : c.loop-i.i ≡ c.args.span.to = omega arith in
    c.loop-i.invariant ∙ ap (given_by give s.stmts c.args.span.owner) e ∙ gathered_end give s.stmts c.args.span.owner c.args.span.from c.args.span.to span
