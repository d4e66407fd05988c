use Rattle.std.proofs.Common.{◌≡◌, ◌∙◌, ap}
use Rattle.std.specs.Prelude.{map, Some, None}
use Rattle.std.specs.Option.{option_and_then, option_map}
use Rattle.il_core.specs.Statement.{Placed, placed, statement_of}
use Rattle.il_core.specs.declared.refusal.Code.TheVariants as code
use Rattle.il_types.specs.Rules.{naming, twice}
use Rattle.il_types.proofs.Passing.{here, twice_here, table_more, counts_more, before_more, nowhere, whole_front}
use Rattle.il_types.proofs.names.declare_until.Goals as goal

pub returns-in-Some : goal.returns-in-Some
returns-in-Some c =
    let stmts = c.args.stmts.now in
    let x = c.index-stmts-i.result in
    let is = c.in-Some.is in
    let some : c.in_ok-taken.taken ≡ Some c.in-Some.name = cc in
    let found = twice_here (map placed stmts) c.loop-i.i (statement_of x.form) c.loop-i.names c.declare_all_of.new.self c.loop-i.counts c.in_ok-taken.taken
    c.loop-i.invariant.table c.loop-i.invariant.counts c.in_ok-taken.ensures in
    record {
      first = (
        ap (option_and_then (λ (y : Placed). twice (map placed stmts) c.loop-i.i y.says)) (here stmts c.loop-i.i x c.loop-i-test.true c.index-stmts-i.is)
            ∙ found ∙ ap (option_map (naming code.Twice)) some,
        c.loop-i.invariant.before,
      );
      whole = λ none. let clash : Some (record { at = c.loop-i.i; name = c.in-Some.name }) ≡ None = none in cc;
    }

pub loop-i-preserved : goal.loop-i-preserved
loop-i-preserved c =
    let stmts = c.args.stmts.now in
    let x = c.index-stmts-i.result in
    let is = c.in-None.is in
    let none : c.in_ok-taken.taken ≡ None = cc in
    let found = twice_here (map placed stmts) c.loop-i.i (statement_of x.form) c.loop-i.names c.declare_all_of.new.self c.loop-i.counts c.in_ok-taken.taken
    c.loop-i.invariant.table c.loop-i.invariant.counts c.in_ok-taken.ensures in
    record {
      table = table_more stmts c.loop-i.i x c.loop-i.names c.declare_all_of.new.self c.loop-i.counts c.loop-i-test.true c.index-stmts-i.is
          c.loop-i.invariant.table c.loop-i.invariant.counts c.loop-i.invariant.behind.statements (c.in_ok-taken.ensures.1 none);
      counts = c.counts_behind-counts.ensures.counts ∙ counts_more stmts c.loop-i.i x c.loop-i.counts c.loop-i-test.true c.index-stmts-i.is c.loop-i.invariant.counts;
      behind = c.counts_behind-counts.ensures.behind;
      before = before_more (twice (map placed stmts)) stmts c.loop-i.i x c.loop-i-test.true c.index-stmts-i.is c.loop-i.invariant.before (found ∙ ap (option_map (naming code.Twice)) none);
    }

pub returns : goal.returns
returns c =
    let stmts = c.args.stmts.now in
    record {
      first = nowhere (twice (map placed stmts)) stmts c.loop-i.i c.loop-i-test.false c.loop-i.invariant.before;
      whole = λ none. c.loop-i.invariant.table ∙ whole_front stmts c.loop-i.i c.loop-i-test.false;
    }
