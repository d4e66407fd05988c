use Rattle.flow_graph.proofs.Members.{IsIn-get_or}
use Rattle.interval_reduce.proofs.Growing.{free_push, free_skip}
use Rattle.interval_reduce.proofs.growth.add_free.Goals as goal
use Rattle.interval_reduce.proofs.growth.add_free.Goals.{then-not-taken-node+in_ok-push, else-not-taken-node}

pub bounds-taken-node : goal.bounds-taken-node
bounds-taken-node c = c.requires _ (IsIn-get_or c.args.row.now c.loop-node.node-index 0 c.loop-node-test.true)

pub loop-node-preserved : goal.loop-node-preserved
loop-node-preserved c = elim c.if-not-taken-node.branch [
  | then-not-taken-node+in_ok-push w ↦
      rw (w.nodes-is, w.in_ok-push.ensures.items)
      (free_push c.args.taken.now c.args.row.now c.loop-node.node-index c.args.nodes.now.items c.loop-node.nodes.items c.loop-node-test.true (cc) c.loop-node.invariant)
  | else-not-taken-node w ↦
      rw w.nodes-is
      (free_skip c.args.taken.now c.args.row.now c.loop-node.node-index c.args.nodes.now.items c.loop-node.nodes.items c.loop-node-test.true (cc) c.loop-node.invariant)
]
