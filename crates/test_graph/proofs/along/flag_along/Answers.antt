use Rattle.std.proofs.Common.{◌≡◌, ◌∙◌, sym, rules, to_z, of_z}
use Rattle.std.specs.Int.{w128}
use Rattle.std.proofs.lemmas.Int.{ints}
use Rattle.il_core.specs.Expression.{expression_of}
use Rattle.il_core.specs.Evaluation.{holds}
use Rattle.test_graph.specs.Followed.{flag_path}
use Rattle.test_graph.proofs.FollowedSteps.{flag_none, flag_some}
use Rattle.test_graph.proofs.along.flag_along.Goals as goal

pub returns-in-None : goal.returns-in-None
returns-in-None c =
    flag_none (holds (expression_of c.args.expr.now) c.args.vals.now) c.args.place.now c.args.pc c.args.index c.args.vals.now
    (flag_path c.args.places.now (expression_of c.args.expr.now) c.args.vals.now) c.args.path.now c.given_along-found.result.at c.taken.result
    (sym c.given_along-found.ensures.truth ∙ c.in-None.is) c.given_along-found.ensures.at (c.taken.ensures c.args.vals.now)

pub returns-in-Some : goal.returns-in-Some
returns-in-Some c =
    let kept : to_z w128 (of_z w128 c.bit_of.result) ≡ c.bit_of.result = search (rules, ints) in
    flag_some (holds (expression_of c.args.expr.now) c.args.vals.now) c.in-Some.truth (to_z w128 (of_z w128 c.bit_of.result)) c.args.place.now c.args.pc c.args.index
    c.args.vals.now (flag_path c.args.places.now (expression_of c.args.expr.now) c.args.vals.now) c.args.path.now c.given_along-found.result.at
    c.store_along.result c.store_along.new.vals (sym c.given_along-found.ensures.truth ∙ c.in-Some.is) (kept ∙ c.bit_of.ensures.value) c.given_along-found.ensures.at
    c.store_along.ensures
