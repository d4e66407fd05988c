use Rattle.il_core.specs.Expression.{expression_of}
use Rattle.sym_terms.specs.Tree.{tree_of}
use Rattle.test_graph.proofs.StandingParts.{comparison_stands}
use Rattle.test_graph.proofs.lowering.lower_comparison.Goals as goal

pub returns-clause-stands : goal.returns-clause-stands
returns-clause-stands c =
    comparison_stands c.args.places.now c.args.relation (expression_of c.args.left.now) (expression_of c.args.right.now) (tree_of c.in_ok-first.first)
    (tree_of c.in_ok-second.second) c.args.nodes.now.items c.put_test.new.nodes.items c.lower_divisors.new.nodes.items c.lower_divisors-2.new.nodes.items c.args.on
    c.args.off c.args.fault c.in_ok-test.test c.in_ok-behind.behind c.lower_divisors-2.result c.in_ok-first.ensures c.in_ok-second.ensures c.in_ok-test.ensures.grows
    c.in_ok-behind.ensures.grows c.in_ok-test.ensures.stands c.in_ok-behind.ensures.stands c.lower_divisors-2.ensures.stands
