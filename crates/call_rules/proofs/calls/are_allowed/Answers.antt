use Rattle.std.proofs.Common.{◌∙◌, sym, ap}
use Rattle.il_core.specs.Tree.{tree_of}
use Rattle.call_rules.specs.declared.parameters.Parameter.{Parameter}
use Rattle.std.specs.Prelude.{Option}
use Rattle.call_rules.specs.Callee.{paired}
use Rattle.call_rules.specs.Calls.{is_allowed_pairing}
use Rattle.call_rules.proofs.Paired.{all_kept, all_lost, all_end}
use Rattle.call_rules.proofs.calls.are_allowed.Goals as goal

pub returns-then-not-is_allowed_pairing : goal.returns-then-not-is_allowed_pairing
returns-then-not-is_allowed_pairing c =
    let s = c.args.setting.now in
    let x = c.index-arguments-k.result in
    let same = c.is_allowed_pairing.ensures ∙ ap (λ (p : Option Parameter). is_allowed_pairing s (paired p (tree_of x))) c.parameter_at.ensures in
    sym (all_lost (is_allowed_pairing s) c.args.parameters.now c.args.arguments.now c.loop-k.k x c.is_allowed_pairing.result c.loop-k-test.true c.index-arguments-k.is same c.if-not-is_allowed_pairing.true) ∙ c.loop-k.invariant

pub loop-k-preserved : goal.loop-k-preserved
loop-k-preserved c =
    let s = c.args.setting.now in
    let x = c.index-arguments-k.result in
    let same = c.is_allowed_pairing.ensures ∙ ap (λ (p : Option Parameter). is_allowed_pairing s (paired p (tree_of x))) c.parameter_at.ensures in
    all_kept (is_allowed_pairing s) c.args.parameters.now c.args.arguments.now c.loop-k.k x c.is_allowed_pairing.result c.loop-k-test.true c.index-arguments-k.is same c.if-not-is_allowed_pairing.false ∙ c.loop-k.invariant

pub returns : goal.returns
returns c = sym (all_end (is_allowed_pairing c.args.setting.now) c.args.parameters.now c.args.arguments.now c.loop-k.k c.loop-k-test.false) ∙ c.loop-k.invariant
