use Rattle.std.proofs.Common.{◌∙◌, sym, ap}
use Rattle.std.specs.Prelude.{Option}
use Rattle.il_core.specs.Tree.{tree_of}
use Rattle.call_rules.specs.declared.parameters.Parameter.{Parameter}
use Rattle.call_rules.specs.Callee.{paired}
use Rattle.call_rules.specs.Fits.{is_suited}
use Rattle.call_rules.proofs.Paired.{all_kept, all_lost, all_end}
use Rattle.call_fits.proofs.arguments.are_suited.Goals as goal

pub returns-then-not-is_suited : goal.returns-then-not-is_suited
returns-then-not-is_suited c =
    let x = c.index-arguments-k.result in
    let same = c.is_suited.ensures ∙ ap (λ (p : Option Parameter). is_suited (paired p (tree_of x))) c.parameter_at.ensures in
    sym (all_lost is_suited c.args.parameters.now c.args.arguments.now c.loop-k.k x c.is_suited.result c.loop-k-test.true c.index-arguments-k.is same c.if-not-is_suited.true) ∙ c.loop-k.invariant

pub loop-k-preserved : goal.loop-k-preserved
loop-k-preserved c =
    let x = c.index-arguments-k.result in
    let same = c.is_suited.ensures ∙ ap (λ (p : Option Parameter). is_suited (paired p (tree_of x))) c.parameter_at.ensures in
    all_kept is_suited c.args.parameters.now c.args.arguments.now c.loop-k.k x c.is_suited.result c.loop-k-test.true c.index-arguments-k.is same c.if-not-is_suited.false ∙ c.loop-k.invariant

pub returns : goal.returns
returns c = sym (all_end is_suited c.args.parameters.now c.args.arguments.now c.loop-k.k c.loop-k-test.false) ∙ c.loop-k.invariant
