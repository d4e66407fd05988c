use Rattle.il_core.specs.Expression.{expression_of}
use Rattle.line_machine.specs.Static.{bounds_in}
use Rattle.test_graph.proofs.StandingLines.{whole_stands}
use Rattle.test_graph.proofs.assigning.lower_whole.Goals as goal

pub returns-clause-stands : goal.returns-clause-stands
returns-clause-stands c =
    whole_stands c.args.places.now c.args.pc c.args.index c.args.place.now (bounds_in c.static_bounds-bounds.result) (expression_of c.args.expr.now)
    c.lower_ranged.new.nodes.items c.put_stop.new.nodes.items c.lower_divisors.new.nodes.items c.in_ok-rest.rest c.in_ok-fault.fault c.lower_divisors.result
    c.static_bounds-bounds.ensures.bounds c.in_ok-fault.ensures.grows c.in_ok-rest.ensures.stands c.in_ok-fault.ensures.stands c.lower_divisors.ensures.stands
