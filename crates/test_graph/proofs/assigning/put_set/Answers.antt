use Rattle.sym_terms.specs.Tree.{tree_of}
use Rattle.test_graph.proofs.StandingLines.{set_stands}
use Rattle.test_graph.proofs.assigning.put_set.Goals as goal

pub returns-clause-stands : goal.returns-clause-stands
returns-clause-stands c =
    set_stands c.args.nodes.now.items c.put_assign.new.nodes.items c.args.pc c.args.place (tree_of c.args.term) c.put_assign.result c.put_assign.ensures.stands
