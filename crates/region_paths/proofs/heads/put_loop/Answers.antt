use Rattle.region_paths.proofs.LoopHeads.{put_there, put_past}
use Rattle.region_paths.proofs.heads.put_loop.Goals as goal

pub returns-then-head-heads-clause-each : goal.returns-then-head-heads-clause-each
returns-then-head-heads-clause-each c = λ line o e. put_there c.args.heads.now c.args.head c.args.at line o e

pub returns-else-head-heads-clause-each : goal.returns-else-head-heads-clause-each
returns-else-head-heads-clause-each c = λ line o e. put_past c.args.heads.now c.args.head c.args.at line o c.if-head-heads.false e
