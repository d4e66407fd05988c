use Rattle.std.proofs.Common.{◌∙◌, subst}
use Rattle.il_types.specs.Names.{FindAlike}
use Rattle.il_types.proofs.Passing.{alike_more, counts_more, whole_front}
use Rattle.il_types.proofs.names.first_names.Goals as goal

pub loop-i-preserved : goal.loop-i-preserved
loop-i-preserved c =
    let stmts = c.args.stmts.now in
    let i = c.loop-i.i in
    let x = c.index-stmts-i.result in
    record {
      table = alike_more stmts i x c.loop-i.names c.declare_first_of.new.self c.loop-i.counts c.loop-i-test.true c.index-stmts-i.is
          c.loop-i.invariant.table c.loop-i.invariant.counts c.loop-i.invariant.behind.statements c.in_ok-declare_first_of.ensures;
      counts = c.counts_behind-counts.ensures.counts ∙ counts_more stmts i x c.loop-i.counts c.loop-i-test.true c.index-stmts-i.is c.loop-i.invariant.counts;
      behind = c.counts_behind-counts.ensures.behind;
    }

pub returns : goal.returns
returns c = subst (FindAlike c.loop-i.names) (whole_front c.args.stmts.now c.loop-i.i c.loop-i-test.false) c.loop-i.invariant.table
