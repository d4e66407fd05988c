use Rattle.std.proofs.Common.{◌∙◌}
use Rattle.data_use.proofs.Fitting.{routes-fit}
use Rattle.data_use.proofs.routes.plan_of.Goals as goal

pub plan-requires : goal.plan-requires
plan-requires c =
    routes-fit c.args.graph.now c.requires.formed c.args.routes.now c.requires.routes c.args.order.now c.requires.order _
    (c.as_slice.ensures.value ∙ c.in_ok-ends.ensures) c.len-count.result c.len-count.ensures
