use Rattle.std.proofs.Common.{length}
use Rattle.threat_certs.proofs.Steps.{copied-begin, copied-pushed}
use Rattle.threat_certs.proofs.counting.copy_items.Goals as goal

pub loop-copy-init : goal.loop-copy-init
loop-copy-init c = copied-begin c.args.places.now c.new-items.result.items c.variables_among-copy.result c.new-items.ensures.items c.variables_among-copy.ensures

pub loop-copy-preserved : goal.loop-copy-preserved
loop-copy-preserved c =
    copied-pushed (length c.args.places.now) c.loop-copy.copy c.loop-copy.items.items c.push.new.self.items c.push-in-loop-copy.new.self.items _ c.loop-copy-test.true c.in_ok-push.ensures.items
    c.in_ok-push-2.ensures.items c.loop-copy.invariant
