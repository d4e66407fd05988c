use Rattle.std.proofs.Common.{◌∙◌, sym, ap}
use Rattle.std.specs.Prelude.{map}
use Rattle.il_core.specs.Statement.{placed, statement_of}
use Rattle.il_types.specs.Rules.{broken, fault}
use Rattle.il_types.proofs.Passing.{refuses_here, broken_is, counts_more, before_more, nowhere}
use Rattle.il_types.proofs.rules.first_broken.Goals as goal

pub returns-in-Some : goal.returns-in-Some
returns-in-Some c =
    let stmts = c.args.stmts.now in
    let x = c.index-stmts-i.result in
    let same = broken_is c.args.rule c.args.names.now (map placed stmts) c.loop-i.i (statement_of x.form) c.loop-i.counts c.loop-i.invariant.counts in
    let fault_is = ap (λ s. fault c.args.rule s c.loop-i.counts (statement_of x.form)) c.new-setting.ensures in
    refuses_here (broken c.args.rule c.args.names.now (map placed stmts)) stmts c.loop-i.i x c.in-Some.found c.refusal_of.result c.loop-i-test.true c.index-stmts-i.is
    c.loop-i.invariant.before (sym (c.in-Some.ensures ∙ fault_is ∙ same)) c.refusal_of.ensures

pub loop-i-preserved : goal.loop-i-preserved
loop-i-preserved c =
    let stmts = c.args.stmts.now in
    let x = c.index-stmts-i.result in
    let same = broken_is c.args.rule c.args.names.now (map placed stmts) c.loop-i.i (statement_of x.form) c.loop-i.counts c.loop-i.invariant.counts in
    let fault_is = ap (λ s. fault c.args.rule s c.loop-i.counts (statement_of x.form)) c.new-setting.ensures in
    record {
      counts = c.counts_behind-counts.ensures.counts ∙ counts_more stmts c.loop-i.i x c.loop-i.counts c.loop-i-test.true c.index-stmts-i.is c.loop-i.invariant.counts;
      behind = c.counts_behind-counts.ensures.behind;
      before = before_more (broken c.args.rule c.args.names.now (map placed stmts)) stmts c.loop-i.i x c.loop-i-test.true c.index-stmts-i.is c.loop-i.invariant.before
          (sym (c.in-None.ensures ∙ fault_is ∙ same));
    }

pub returns : goal.returns
returns c = nowhere (broken c.args.rule c.args.names.now (map placed c.args.stmts.now)) c.args.stmts.now c.loop-i.i c.loop-i-test.false c.loop-i.invariant.before
