use Rattle.std.proofs.Common.{◌∙◌, sym}
use Rattle.call_rules.proofs.Paired.{unknown_here, unknown_later, unknown_end}
use Rattle.call_rules.proofs.calls.first_unknown.Goals as goal

pub returns-in-Some : goal.returns-in-Some
returns-in-Some c =
    sym (unknown_here c.args.setting.now c.args.arguments.now c.loop-argument.argument-index c.argument-item.result c.in-Some.name
    c.loop-argument-test.true c.argument-item.is (sym c.in-Some.ensures)) ∙ c.loop-argument.invariant

pub loop-argument-preserved : goal.loop-argument-preserved
loop-argument-preserved c =
    unknown_later c.args.setting.now c.args.arguments.now c.loop-argument.argument-index c.argument-item.result
    c.loop-argument-test.true c.argument-item.is (sym c.in_default.ensures) ∙ c.loop-argument.invariant

pub returns : goal.returns
returns c = sym (unknown_end c.args.setting.now c.args.arguments.now c.loop-argument.argument-index c.loop-argument-test.false) ∙ c.loop-argument.invariant
