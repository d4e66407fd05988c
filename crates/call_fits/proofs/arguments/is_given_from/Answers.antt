use Rattle.std.proofs.Common.{◌∙◌, sym, ap, nat_eq, arith}
use Rattle.std.specs.Prelude.{Option}
use Rattle.std.specs.Cmp.Lexicographic.{pointwise}
use Rattle.std.specs.List.{list_any}
use Rattle.il_core.specs.Tree.{tree_of}
use Rattle.call_rules.specs.declared.parameters.Parameter.{Parameter}
use Rattle.call_rules.specs.Callee.{paired}
use Rattle.call_rules.specs.Calls.{back_to}
use Rattle.call_fits.specs.Apart.{is_same}
use Rattle.call_fits.proofs.Apart.{given_here, given_later, names_end}
use Rattle.call_fits.proofs.arguments.is_given_from.Goals as goal

pub returns-then-is_given : goal.returns-then-is_given
returns-then-is_given c =
    let x = c.index-arguments-k.result in
    let same = c.is_given.ensures ∙ ap (λ (p : Option Parameter). is_same c.args.name.now (back_to (paired p (tree_of x)))) c.parameter_at.ensures in
    sym (given_here c.args.name.now c.args.parameters.now c.args.arguments.now c.loop-k.k x c.is_given.result c.loop-k-test.true c.index-arguments-k.is same c.if-is_given.true) ∙ c.loop-k.invariant

pub loop-k-preserved : goal.loop-k-preserved
loop-k-preserved c =
    let x = c.index-arguments-k.result in
    let same = c.is_given.ensures ∙ ap (λ (p : Option Parameter). is_same c.args.name.now (back_to (paired p (tree_of x)))) c.parameter_at.ensures in
    given_later c.args.name.now c.args.parameters.now c.args.arguments.now c.loop-k.k x c.is_given.result c.loop-k-test.true c.index-arguments-k.is same c.if-is_given.false ∙ c.loop-k.invariant

pub returns : goal.returns
returns c = sym (ap (list_any (pointwise nat_eq c.args.name.now)) (names_end c.args.parameters.now c.args.arguments.now c.loop-k.k (omega arith))) ∙ c.loop-k.invariant
