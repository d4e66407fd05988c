use Rattle.std.proofs.Common.{◌∙◌, ap, Bool, Option}
use Rattle.il_core.specs.Machine.{decided}
use Rattle.test_graph.proofs.FollowedSteps.{along_same}
use Rattle.test_graph.proofs.along.between_along.Goals as goal

pub returns : goal.returns
returns c =
    along_same c.truth_along-found.result.at _ (record { next = c.decide-next.result; state = c.args.vals.now }) _ c.args.vals.now c.taken.result c.args.vals.now
    c.truth_along-found.ensures.at
    (c.decide-next.ensures c.args.vals.now
    ∙ ap (λ (o : Option Bool). decided o (record { next = c.args.fault; state = c.args.vals.now }) (record { next = c.args.met; state = c.args.vals.now }) (record { next = c.args.unmet; state = c.args.vals.now }))
    c.truth_along-found.ensures.truth)
    (c.taken.ensures c.args.vals.now)
