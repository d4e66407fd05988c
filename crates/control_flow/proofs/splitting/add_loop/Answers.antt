use Rattle.std.proofs.Common.{◌≡◌, ◌<◌, length, arith}
use Rattle.std.proofs.lemmas.Grind.{common_steps}
use Rattle.control_flow.proofs.Splits.{head_reached, no_head, loops_push, loops_skip}
use Rattle.control_flow.proofs.splitting.add_loop.Goals as goal

pub loop_of-requires-clause-head : goal.loop_of-requires-clause-head
loop_of-requires-clause-head c =
    let some : 0 < length c.args.back.now = grind (arith, common_steps) in
    (c.requires.line, (head_reached c.args.graph.now.arcs c.args.back.now c.args.line some c.requires.back).1)

pub returns-in_ok-push : goal.returns-in_ok-push
returns-in_ok-push c =
    let some : 0 < length c.args.back.now = grind (arith, common_steps) in
    rw c.in_ok-push.ensures.ok
    (loops_push c.args.graph.now c.args.line c.args.loops.now c.in_ok-info.info c.requires.loops
    (head_reached c.args.graph.now.arcs c.args.back.now c.args.line some c.requires.back).0 c.in_ok-info.ensures.head c.in_ok-info.ensures.exact)

pub returns-else-not-is_empty : goal.returns-else-not-is_empty
returns-else-not-is_empty c =
    let none : length c.args.back.now ≡ 0 = grind (arith, common_steps) in
    loops_skip c.args.graph.now c.args.line c.args.loops.now c.requires.loops (no_head c.args.graph.now.arcs c.args.back.now c.args.line none c.requires.back)
