use Rattle.std.proofs.Common.{arith}
use Rattle.il_core.specs.Checked.{procedure_of}
use Rattle.test_graph.specs.Decision.{decision_at}
use Rattle.region_paths.proofs.Counts.{node_inside}
use Rattle.region_paths.proofs.counting.line_ways.Goals as goal

pub ways_of-requires-clause-id : goal.ways_of-requires-clause-id
ways_of-requires-clause-id c =
    omega (arith, c.requires.size, node_inside (procedure_of c.args.proc.now) c.args.graph.now c.first_node.result (decision_at (procedure_of c.args.proc.now) c.args.line) c.requires.lowered c.first_node.ensures.unfolds)

pub returns-clause-exact : goal.returns-clause-exact
returns-clause-exact c = c.requires.ways.each c.first_node.result _ _ c.first_node.ensures.unfolds c.ways_of.ensures.there
