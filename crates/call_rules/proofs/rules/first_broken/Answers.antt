use Rattle.std.proofs.Common.{◌∙◌, sym, ap, subst, arith, List}
use Rattle.std.specs.Prelude.{map}
use Rattle.il_core.specs.Statement.{Placed, placed, statement_of}
use Rattle.il_types.specs.declared.counts.Counts.{Counts}
use Rattle.il_types.specs.CountsBelow.{IsBehind}
use Rattle.il_types.specs.Names.{Setting}
use Rattle.il_types.proofs.Passing.{refuses_here, counts_more, before_more, nowhere}
use Rattle.call_rules.specs.Calls.{fault_at}
use Rattle.call_rules.specs.Parameters.{AreParameters}
use Rattle.call_rules.proofs.Here.{setting_here, fault_here}
use Rattle.call_rules.proofs.rules.first_broken.Goals as goal

pub fault_in-requires : goal.fault_in-requires
fault_in-requires c =
    let at = ap (λ (s : Setting). s.at) c.new-setting.ensures in
    let stmts = ap (λ (s : Setting). s.stmts) c.new-setting.ensures in
    record {
      parameters = subst (λ (all : List Placed). AreParameters all c.args.parameters.now) (sym stmts) c.requires.parameters;
      behind = subst (IsBehind c.loop-i.counts) (sym at) c.loop-i.invariant.behind;
      room = omega arith;
    }

pub returns-in-Some : goal.returns-in-Some
returns-in-Some c =
    let all = map placed c.args.stmts.now in
    let stmts = c.args.stmts.now in
    let i = c.loop-i.i in
    let x = c.index-stmts-i.result in
    let counts = c.loop-i.invariant.counts in
    let set = setting_here all c.args.names.now c.loop-i.counts.procedures i c.new-setting.result c.requires.names (ap (λ (n : Counts). n.procedures) counts) c.new-setting.ensures in
    let same = fault_here c.args.rule all i (statement_of x.form) c.new-setting.result c.loop-i.counts set counts in
    refuses_here (fault_at c.args.rule all) stmts i x c.in-Some.found c.refusal_of.result c.loop-i-test.true c.index-stmts-i.is
    c.loop-i.invariant.before (sym (c.in-Some.ensures ∙ same)) c.refusal_of.ensures

pub loop-i-preserved : goal.loop-i-preserved
loop-i-preserved c =
    let all = map placed c.args.stmts.now in
    let stmts = c.args.stmts.now in
    let i = c.loop-i.i in
    let x = c.index-stmts-i.result in
    let counts = c.loop-i.invariant.counts in
    let set = setting_here all c.args.names.now c.loop-i.counts.procedures i c.new-setting.result c.requires.names (ap (λ (n : Counts). n.procedures) counts) c.new-setting.ensures in
    let same = fault_here c.args.rule all i (statement_of x.form) c.new-setting.result c.loop-i.counts set counts in
    record {
      counts = c.counts_behind-counts.ensures.counts ∙ counts_more stmts i x c.loop-i.counts c.loop-i-test.true c.index-stmts-i.is counts;
      behind = c.counts_behind-counts.ensures.behind;
      before = before_more (fault_at c.args.rule all) stmts i x c.loop-i-test.true c.index-stmts-i.is c.loop-i.invariant.before (sym (c.in-None.ensures ∙ same));
    }

pub returns : goal.returns
returns c = nowhere (fault_at c.args.rule (map placed c.args.stmts.now)) c.args.stmts.now c.loop-i.i c.loop-i-test.false c.loop-i.invariant.before
