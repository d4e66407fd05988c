use Rattle.std.proofs.Common.{get_or}
use Rattle.flow_graph.specs.Search.{IsMarked}
use Rattle.flow_graph.proofs.Members.{IsIn-get_or}
use Rattle.interval_reduce.proofs.Choosing.{front_more, front_all}
use Rattle.interval_reduce.proofs.choice.are_marked.Goals as goal

pub bounds-marks-node : goal.bounds-marks-node
bounds-marks-node c = c.requires _ (IsIn-get_or c.args.row.now c.loop-node.node-index 0 c.loop-node-test.true)

pub returns-then-not-marks-node : goal.returns-then-not-marks-node
returns-then-not-marks-node c =
    (λ e. cc, λ f. let m = f (get_or c.args.row.now c.loop-node.node-index 0) (IsIn-get_or c.args.row.now c.loop-node.node-index 0 c.loop-node-test.true) in cc)

pub loop-node-preserved : goal.loop-node-preserved
loop-node-preserved c =
    front_more (IsMarked c.args.marks.now) c.args.row.now c.loop-node.node-index 0 c.loop-node-test.true c.loop-node.invariant (cc)

pub returns : goal.returns
returns c = (λ e. front_all (IsMarked c.args.marks.now) c.args.row.now c.loop-node.node-index c.loop-node-test.false c.loop-node.invariant, λ f. cc)
