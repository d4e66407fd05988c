use Rattle.std.proofs.Common.{◌≡◌, ◌∙◌, sym, rules, to_z, of_z}
use Rattle.std.specs.Int.{w128}
use Rattle.std.proofs.lemmas.Int.{ints}
use Rattle.il_core.specs.Expression.{expression_of, two}
use Rattle.test_graph.proofs.FollowedPath.{whole_two, whole_half}
use Rattle.test_graph.proofs.following.+whole_along.Goals as goal

pub returns-in-Some-value-2-clause-at : goal.returns-in-Some-value-2-clause-at
returns-in-Some-value-2-clause-at t c =
    let a = expression_of c.deref-in-Binary.result.now in
    let b = expression_of c.deref-in-Some-value.result.now in
    let same : expression_of c.args.expr.now ≡ two c.in-Binary.op (expression_of c.deref-in-Binary.result.now) (expression_of c.deref-in-Some-value.result.now) = cc in
    let here : expression_of c.deref-in-Some-value-2.result.now ≡ expression_of c.deref-in-Some-value.result.now = cc in
    let kept : to_z w128 (of_z w128 c.in-Some-value-2.divisor) ≡ c.in-Some-value-2.divisor = search (rules, ints) in
    whole_two c.args.places.now c.in-Binary.op (expression_of c.args.expr.now) a b (expression_of c.deref-in-Some-value-2.result.now) c.args.vals.now
    c.in-Some-value.dividend c.in-Some-value-2.divisor (to_z w128 (of_z w128 c.in-Some-value-2.divisor)) c.args.path.now c.args.at c.whole_along-first.result.at c.whole_along-second.result.at c.guard_along.result same here kept
    (sym c.whole_along-first.ensures.value ∙ c.in-Some-value.is) (sym c.whole_along-second.ensures.value ∙ c.in-Some-value-2.is) c.whole_along-first.ensures.at
    c.whole_along-second.ensures.at c.guard_along.ensures

pub returns-in-None-value-2-clause-at : goal.returns-in-None-value-2-clause-at
returns-in-None-value-2-clause-at t c =
    let a = expression_of c.deref-in-Binary.result.now in
    let b = expression_of c.deref-in-Some-value.result.now in
    let same : expression_of c.args.expr.now ≡ two c.in-Binary.op (expression_of c.deref-in-Binary.result.now) (expression_of c.deref-in-Some-value.result.now) = cc in
    whole_half c.args.places.now c.in-Binary.op (expression_of c.args.expr.now) a b c.args.vals.now c.in-Some-value.dividend c.args.path.now c.args.at
    c.whole_along-first.result.at c.whole_along-second.result.at same (sym c.whole_along-first.ensures.value ∙ c.in-Some-value.is)
    (sym c.whole_along-second.ensures.value ∙ c.in-None-value-2.is) c.whole_along-first.ensures.at c.whole_along-second.ensures.at
