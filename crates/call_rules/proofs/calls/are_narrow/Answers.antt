use Rattle.std.proofs.Common.{◌∙◌, sym, ap}
use Rattle.std.specs.Prelude.{is_some}
use Rattle.call_rules.proofs.Paired.{narrow_lost, narrow_kept, narrow_end}
use Rattle.call_rules.proofs.calls.are_narrow.Goals as goal

pub returns-then-is_none : goal.returns-then-is_none
returns-then-is_none c =
    sym (narrow_lost c.args.setting.now c.args.arguments.now c.loop-argument.argument-index c.argument-item.result
    c.loop-argument-test.true c.argument-item.is (sym (ap is_some c.static_bounds.ensures) ∙ c.if-is_none.ensures)) ∙ c.loop-argument.invariant

pub loop-argument-preserved : goal.loop-argument-preserved
loop-argument-preserved c =
    narrow_kept c.args.setting.now c.args.arguments.now c.loop-argument.argument-index c.argument-item.result
    c.loop-argument-test.true c.argument-item.is (sym (ap is_some c.static_bounds.ensures) ∙ c.if-is_none.ensures) ∙ c.loop-argument.invariant

pub returns : goal.returns
returns c = sym (narrow_end c.args.setting.now c.args.arguments.now c.loop-argument.argument-index c.loop-argument-test.false) ∙ c.loop-argument.invariant
