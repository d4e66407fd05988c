use Rattle.std.proofs.Common.{get_or}
use Rattle.std.proofs.lemmas.Option.{slice_get-get_or}
use Rattle.region_paths.proofs.Walking.{head_here}
use Rattle.region_paths.proofs.walk.loop_of.Goals as goal

pub returns-then-loops-at : goal.returns-then-loops-at
returns-then-loops-at c =
    head_here c.args.loops.now c.loop-at.at c.args.line (get_or c.args.loops.now c.loop-at.at c.index-loops-at.result)
    (slice_get-get_or c.args.loops.now c.loop-at.at c.index-loops-at.result c.loop-at-test.true) c.if-loops-at.true c.loop-at.invariant.head c.loop-at.invariant.leading
