use Rattle.il_core.specs.Expression.{expression_of}
use Rattle.test_graph.proofs.StandingLines.{bit_stands}
use Rattle.test_graph.proofs.assigning.lower_bit.Goals as goal

pub returns-clause-stands : goal.returns-clause-stands
returns-clause-stands c =
    bit_stands c.args.places.now c.args.pc c.args.index (expression_of c.args.expr.now) c.put_set.new.nodes.items c.put_set-2.new.nodes.items
    c.put_stop.new.nodes.items c.lower_condition.new.nodes.items c.in_ok-on.on c.in_ok-off.off c.in_ok-fault.fault c.lower_condition.result c.in_ok-off.ensures.grows
    c.in_ok-fault.ensures.grows c.in_ok-on.ensures.stands c.in_ok-off.ensures.stands c.in_ok-fault.ensures.stands c.lower_condition.ensures.stands
