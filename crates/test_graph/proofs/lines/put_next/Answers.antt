use Rattle.test_graph.proofs.StandingLines.{halt_stands}
use Rattle.test_graph.proofs.lines.put_next.Goals as goal

pub returns-in-Halted-clause-stands : goal.returns-in-Halted-clause-stands
returns-in-Halted-clause-stands c =
    halt_stands c.put_stop.new.nodes.items c.args.count c.args.next c.in-Halted.halt c.put_stop.result c.in-Halted.is c.put_stop.ensures.stands
