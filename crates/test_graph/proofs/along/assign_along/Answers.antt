use Rattle.std.proofs.Common.{◌∙◌, sym, ap, slice_get}
use Rattle.std.specs.Option.{option_copied}
use Rattle.il_core.specs.Expression.{expression_of}
use Rattle.test_graph.proofs.FollowedSteps.{given_missing, given_flag_along, given_number_along}
use Rattle.test_graph.proofs.along.assign_along.Goals as goal

pub returns-in-None : goal.returns-in-None
returns-in-None c =
    given_missing c.args.places.now (expression_of c.args.expr.now) (slice_get c.args.places.now c.args.index) c.args.pc c.args.index c.args.vals.now
    c.args.path.now c.taken.result (sym c.place_at.ensures.value ∙ ap option_copied c.in-None.is) (c.taken.ensures c.args.vals.now)

pub returns-then-place : goal.returns-then-place
returns-then-place c =
    given_flag_along c.args.places.now (expression_of c.args.expr.now) (slice_get c.args.places.now c.args.index) c.in-Some.place.now c.args.pc c.args.index
    c.args.vals.now c.args.path.now c.flag_along.result c.flag_along.new.vals (sym c.place_at.ensures.value ∙ ap option_copied c.in-Some.is) c.if-place.true
    c.flag_along.ensures

pub returns-else-place : goal.returns-else-place
returns-else-place c =
    given_number_along c.args.places.now (expression_of c.args.expr.now) (slice_get c.args.places.now c.args.index) c.in-Some.place.now c.args.pc c.args.index
    c.args.vals.now c.args.path.now c.number_along.result c.number_along.new.vals (sym c.place_at.ensures.value ∙ ap option_copied c.in-Some.is) c.if-place.false
    c.number_along.ensures
