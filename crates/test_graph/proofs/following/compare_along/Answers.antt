use Rattle.std.proofs.Common.{◌≡◌, ◌∙◌, sym, ap, rules, to_z, of_z}
use Rattle.std.specs.Int.{w128}
use Rattle.std.proofs.lemmas.Int.{ints}
use Rattle.il_core.specs.Expression.{expression_of}
use Rattle.il_core.specs.Evaluation.{whole, compares}
use Rattle.test_graph.specs.Followed.{whole_path, followed_one}
use Rattle.test_graph.proofs.FollowedPath.{compared_two, compared_half}
use Rattle.test_graph.proofs.following.compare_along.Goals as goal

pub returns-in-Some-value-clause-at : goal.returns-in-Some-value-clause-at
returns-in-Some-value-clause-at c =
    let first : to_z w128 (of_z w128 c.in-Some.a) ≡ c.in-Some.a = search (rules, ints) in
    let second : to_z w128 (of_z w128 c.in-Some-value.b) ≡ c.in-Some-value.b = search (rules, ints) in
    let truth : c.is_related-truth.result ≡ compares c.args.relation c.in-Some.a c.in-Some-value.b =
    c.is_related-truth.ensures ∙ ap (λ x. compares c.args.relation x (to_z w128 (of_z w128 c.in-Some-value.b))) first
    ∙ ap (λ y. compares c.args.relation c.in-Some.a y) second in
    let here : c.follow.result ≡ followed_one c.args.path.now c.whole_along-second.result.at (compares c.args.relation c.in-Some.a c.in-Some-value.b) =
    c.follow.ensures ∙ ap (λ b. followed_one c.args.path.now c.whole_along-second.result.at b) truth in
    compared_two c.args.relation (whole (expression_of c.args.left.now) c.args.vals.now) (whole (expression_of c.args.right.now) c.args.vals.now) c.in-Some.a
    c.in-Some-value.b (whole_path c.args.places.now (expression_of c.args.left.now) c.args.vals.now)
    (whole_path c.args.places.now (expression_of c.args.right.now) c.args.vals.now) c.args.path.now c.args.at c.whole_along-first.result.at
    c.whole_along-second.result.at c.follow.result (sym c.whole_along-first.ensures.value ∙ c.in-Some.is) (sym c.whole_along-second.ensures.value ∙ c.in-Some-value.is)
    c.whole_along-first.ensures.at c.whole_along-second.ensures.at here

pub returns-in-None-value-clause-at : goal.returns-in-None-value-clause-at
returns-in-None-value-clause-at c =
    compared_half c.args.relation (whole (expression_of c.args.left.now) c.args.vals.now) (whole (expression_of c.args.right.now) c.args.vals.now) c.in-Some.a
    (whole_path c.args.places.now (expression_of c.args.left.now) c.args.vals.now) (whole_path c.args.places.now (expression_of c.args.right.now) c.args.vals.now)
    c.args.path.now c.args.at c.whole_along-first.result.at c.whole_along-second.result.at (sym c.whole_along-first.ensures.value ∙ c.in-Some.is)
    (sym c.whole_along-second.ensures.value ∙ c.in-None-value.is) c.whole_along-first.ensures.at c.whole_along-second.ensures.at
