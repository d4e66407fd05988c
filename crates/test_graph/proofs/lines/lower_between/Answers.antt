use Rattle.il_core.specs.Expression.{expression_of}
use Rattle.test_graph.proofs.StandingLines.{ends_stand}
use Rattle.test_graph.proofs.lines.lower_between.Goals as goal

pub returns-clause-stands : goal.returns-clause-stands
returns-clause-stands c =
    ends_stand c.args.places.now c.args.count c.args.pc (expression_of c.args.expr.now) c.args.on c.args.off c.put_next.new.nodes.items
    c.put_next-2.new.nodes.items c.put_stop.new.nodes.items c.lower_condition.new.nodes.items c.in_ok-met.met c.in_ok-unmet.unmet c.in_ok-fault.fault
    c.lower_condition.result c.in_ok-unmet.ensures.grows c.in_ok-fault.ensures.grows c.in_ok-met.ensures.stands c.in_ok-unmet.ensures.stands
    c.in_ok-fault.ensures.stands c.lower_condition.ensures.stands
