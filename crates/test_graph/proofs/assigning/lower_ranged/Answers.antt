use Rattle.il_core.specs.Expression.{expression_of}
use Rattle.line_machine.specs.Static.{bounds_in}
use Rattle.sym_terms.specs.Tree.{tree_of}
use Rattle.test_graph.specs.Term.{term_of}
use Rattle.test_graph.proofs.StandingLines.{ranged_stands}
use Rattle.test_graph.proofs.assigning.lower_ranged.Goals as goal

pub returns-clause-stands : goal.returns-clause-stands
returns-clause-stands c =
    ranged_stands c.args.pc c.args.index c.args.place.now (bounds_in c.args.bounds) (tree_of c.in_ok-term.term) (term_of (expression_of c.args.expr.now))
    c.put_stop.new.nodes.items c.put_set-2.new.nodes.items c.lower_greatest.new.nodes.items c.lower_least.new.nodes.items c.in_ok-fault.fault c.in_ok-set.set
    c.in_ok-greatest.greatest c.lower_least.result c.if-place.false c.in_ok-term.ensures c.in_ok-set.ensures.grows c.in_ok-greatest.ensures.grows
    c.in_ok-fault.ensures.stands c.in_ok-set.ensures.stands c.in_ok-greatest.ensures.stands c.lower_least.ensures.stands
