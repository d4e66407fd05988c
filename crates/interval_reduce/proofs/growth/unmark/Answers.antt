use Rattle.std.proofs.Common.{◌∙◌, ◌<◌, length, get_or, arith}
use Rattle.std.proofs.lemmas.List.{length-set}
use Rattle.flow_graph.proofs.Members.{IsIn-get_or}
use Rattle.interval_reduce.proofs.Growing.{unmarked_more}
use Rattle.interval_reduce.proofs.growth.unmark.Goals as goal

pub index_mut-requires : goal.index_mut-requires
index_mut-requires c =
    let b = c.requires _ (IsIn-get_or c.args.nodes.now c.loop-node.node-index 0 c.loop-node-test.true) in
    let s = c.loop-node.invariant.size in omega arith

pub loop-node-preserved : goal.loop-node-preserved
loop-node-preserved c =
    let b = c.requires _ (IsIn-get_or c.args.nodes.now c.loop-node.node-index 0 c.loop-node-test.true) in
    let s = c.loop-node.invariant.size in
    let l : get_or c.args.nodes.now c.loop-node.node-index 0 < length c.loop-node.marks.items = omega arith in
    record {
      size = length-set _ _ _ ∙ s;
      unmarked = unmarked_more c.args.marks.now.items c.loop-node.marks.items c.args.nodes.now c.loop-node.node-index c.loop-node-test.true l c.loop-node.invariant.unmarked;
    }
