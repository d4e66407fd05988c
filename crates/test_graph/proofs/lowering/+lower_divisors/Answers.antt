use Rattle.std.proofs.Common.{◌≡◌}
use Rattle.il_core.specs.Expression.{expression_of, two}
use Rattle.test_graph.proofs.StandingParts.{two_stand}
use Rattle.test_graph.proofs.lowering.+lower_divisors.Goals as goal

pub returns-in_ok-second-in-Binary-clause-stands : goal.returns-in_ok-second-in-Binary-clause-stands
returns-in_ok-second-in-Binary-clause-stands t c =
    let same : expression_of c.args.expr.now ≡ two c.in-Binary.op (expression_of c.deref-in-Binary-3.result.now) (expression_of c.deref-in-Binary-2.result.now) = cc in
    let here : expression_of c.deref-in-Binary.result.now ≡ expression_of c.deref-in-Binary-2.result.now = cc in
    two_stand c.args.places.now c.in-Binary.op (expression_of c.args.expr.now) (expression_of c.deref-in-Binary-3.result.now) (expression_of c.deref-in-Binary-2.result.now)
    (expression_of c.deref-in-Binary.result.now) c.args.nodes.now.items c.lower_operator.new.nodes.items c.lower_divisors-in-Binary.new.nodes.items
    c.lower_divisors-in-Binary-2.new.nodes.items c.args.rest c.args.fault c.in_ok-guard-in-Binary.guard c.in_ok-second-in-Binary.second c.lower_divisors-in-Binary-2.result
    same here c.in_ok-guard-in-Binary.ensures.grows c.in_ok-second-in-Binary.ensures.grows c.in_ok-guard-in-Binary.ensures.stands c.in_ok-second-in-Binary.ensures.stands
    c.lower_divisors-in-Binary-2.ensures.stands
