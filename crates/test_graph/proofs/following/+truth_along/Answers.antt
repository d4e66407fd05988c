use Rattle.std.proofs.Common.{◌≡◌, ◌∙◌, sym, true, false, Some, rules}
use Rattle.il_core.specs.Expression.{expression_of, two}
use Rattle.il_core.specs.declared.operator.BinOp.TheVariants.{And, Or}
use Rattle.test_graph.proofs.FollowedPath.{truth_two}
use Rattle.test_graph.proofs.following.+truth_along.Goals as goal

pub returns-then-is_true-clause-at : goal.returns-then-is_true-clause-at
returns-then-is_true-clause-at t c =
    let a = expression_of c.deref-in-And.result.now in
    let b = expression_of c.deref-then-is_true.result.now in
    let same : expression_of c.args.expr.now ≡ two And (expression_of c.deref-in-And.result.now) (expression_of c.deref-then-is_true.result.now) = cc in
    let truth : c.truth_along-first.result.truth ≡ Some true = search rules in
    truth_two c.args.places.now And (expression_of c.args.expr.now) a b c.args.vals.now true c.args.path.now c.args.at c.truth_along-first.result.at c.truth_along.result.at
    same tt (sym c.truth_along-first.ensures.truth ∙ truth) c.truth_along-first.ensures.at c.truth_along.ensures.at

pub returns-then-is_false-clause-at : goal.returns-then-is_false-clause-at
returns-then-is_false-clause-at t c =
    let a = expression_of c.deref-in-Or.result.now in
    let b = expression_of c.deref-then-is_false.result.now in
    let same : expression_of c.args.expr.now ≡ two Or (expression_of c.deref-in-Or.result.now) (expression_of c.deref-then-is_false.result.now) = cc in
    let truth : c.truth_along-first-in-Or.result.truth ≡ Some false = search rules in
    truth_two c.args.places.now Or (expression_of c.args.expr.now) a b c.args.vals.now false c.args.path.now c.args.at c.truth_along-first-in-Or.result.at
    c.truth_along-then-is_false.result.at same tt (sym c.truth_along-first-in-Or.ensures.truth ∙ truth) c.truth_along-first-in-Or.ensures.at
    c.truth_along-then-is_false.ensures.at
