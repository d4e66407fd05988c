use Rattle.std.proofs.Common.{◌∙◌, sym, ap}
use Rattle.call_rules.specs.Fits.{are_apart}
use Rattle.call_fits.proofs.Apart.{not_apart, apart_later, names_end}
use Rattle.call_fits.proofs.arguments.are_apart.Goals as goal

pub returns-then-is_given_again : goal.returns-then-is_given_again
returns-then-is_given_again c =
    sym (not_apart c.args.parameters.now c.args.arguments.now c.loop-k.k c.index-arguments-k.result c.is_given_again.result c.loop-k-test.true c.index-arguments-k.is
    c.is_given_again.ensures c.if-is_given_again.true) ∙ c.loop-k.invariant

pub loop-k-preserved : goal.loop-k-preserved
loop-k-preserved c =
    apart_later c.args.parameters.now c.args.arguments.now c.loop-k.k c.index-arguments-k.result c.is_given_again.result c.loop-k-test.true c.index-arguments-k.is
    c.is_given_again.ensures c.if-is_given_again.false ∙ c.loop-k.invariant

pub returns : goal.returns
returns c = sym (ap are_apart (names_end c.args.parameters.now c.args.arguments.now c.loop-k.k c.loop-k-test.false)) ∙ c.loop-k.invariant
