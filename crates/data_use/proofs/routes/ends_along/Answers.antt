use Rattle.std.proofs.Common.{refl}
use Rattle.data_use.proofs.Collected.{along-more}
use Rattle.data_use.proofs.routes.ends_along.Goals as goal

pub loop-arc-preserved : goal.loop-arc-preserved
loop-arc-preserved c =
    along-more c.loop-arc.ends.items c.push.new.self.items _ c.args.arcs.now c.loop-arc.arc-index _ c.loop-arc-test.true c.loop-arc.invariant refl refl c.in_ok-push.ensures.items
