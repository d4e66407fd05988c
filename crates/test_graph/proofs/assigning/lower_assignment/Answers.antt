use Rattle.std.proofs.Common.{◌∙◌, sym, ap, slice_get}
use Rattle.std.specs.Option.{option_copied}
use Rattle.il_core.specs.Expression.{expression_of}
use Rattle.test_graph.proofs.StandingLines.{missing_stands}
use Rattle.test_graph.proofs.assigning.lower_assignment.Goals as goal

pub returns-in-None-clause-stands : goal.returns-in-None-clause-stands
returns-in-None-clause-stands c =
    missing_stands c.put_stop.new.nodes.items c.args.places.now c.args.pc c.args.index (expression_of c.args.expr.now)
    (slice_get c.args.places.now c.args.index) c.put_stop.result (sym c.place_at.ensures.value ∙ ap option_copied c.in-None.is) c.put_stop.ensures.stands
