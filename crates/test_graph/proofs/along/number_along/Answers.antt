use Rattle.std.proofs.Common.{◌≡◌, ◌∙◌, sym, rules, to_z, of_z}
use Rattle.std.specs.Int.{w128}
use Rattle.std.proofs.lemmas.Int.{ints}
use Rattle.il_core.specs.Expression.{expression_of}
use Rattle.line_machine.specs.Static.{bounds_in}
use Rattle.test_graph.proofs.FollowedSteps.{number_none, number_some}
use Rattle.test_graph.proofs.along.number_along.Goals as goal

pub returns-in-None : goal.returns-in-None
returns-in-None c =
    number_none c.args.places.now (expression_of c.args.expr.now) c.args.place.now c.args.pc c.args.index c.args.vals.now c.args.path.now c.whole_along-found.result.at
    c.taken.result (sym c.whole_along-found.ensures.value ∙ c.in-None.is) c.whole_along-found.ensures.at (c.taken.ensures c.args.vals.now)

pub returns-in-Some : goal.returns-in-Some
returns-in-Some c =
    let kept : to_z w128 (of_z w128 c.in-Some.value) ≡ c.in-Some.value = search (rules, ints) in
    number_some c.args.places.now (expression_of c.args.expr.now) c.args.place.now c.args.pc c.args.index c.args.vals.now c.in-Some.value (to_z w128 (of_z w128 c.in-Some.value))
    (bounds_in c.static_bounds-bounds.result) c.args.path.now c.whole_along-found.result.at c.kept_along-at.result c.store_along.result c.store_along.new.vals
    (sym c.whole_along-found.ensures.value ∙ c.in-Some.is) kept c.static_bounds-bounds.ensures.bounds c.whole_along-found.ensures.at c.kept_along-at.ensures c.store_along.ensures
