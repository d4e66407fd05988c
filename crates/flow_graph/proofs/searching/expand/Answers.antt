use Rattle.std.proofs.Common.{◌<◌, length, get_or, arith}
use Rattle.flow_graph.proofs.Members.{IsIn-get_or}
use Rattle.flow_graph.proofs.Spreading.{expansion_skip, expansion_mark, closed_marked}
use Rattle.flow_graph.proofs.searching.expand.Goals as goal
use Rattle.flow_graph.proofs.searching.expand.Goals.{then-is_open+in_ok-push, else-is_open}

pub is_open-requires-clause-within : goal.is_open-requires-clause-within
is_open-requires-clause-within c = c.requires.below _ (IsIn-get_or c.args.row.now c.loop-at.at-index 0 c.loop-at-test.true)

pub index_mut-requires : goal.index_mut-requires
index_mut-requires c =
    let b = c.requires.below (get_or c.args.row.now c.loop-at.at-index 0) (IsIn-get_or c.args.row.now c.loop-at.at-index 0 c.loop-at-test.true) in
    let s = c.loop-at.invariant.size in omega arith

pub loop-at-preserved : goal.loop-at-preserved
loop-at-preserved c = elim c.if-is_open.branch [
  | then-is_open+in_ok-push w ↦
      let o = c.is_open.ensures.0 w.if-is_open.true in
      let b = c.requires.below (get_or c.args.row.now c.loop-at.at-index 0) (IsIn-get_or c.args.row.now c.loop-at.at-index 0 c.loop-at-test.true) in
      let s = c.loop-at.invariant.size in
      let l : get_or c.args.row.now c.loop-at.at-index 0 < length c.loop-at.marked.items = omega (arith, b, s, c.requires.size) in
      rw (w.marked-is, w.work-is, w.in_ok-push.ensures.items)
      (expansion_mark c.args.row.now c.loop-at.at-index 0 c.args.blocked.now _ _ c.loop-at.marked.items c.loop-at.work.items c.loop-at-test.true c.loop-at.invariant o.0 o.1 l)
  | else-is_open w ↦
      rw (w.marked-is, w.work-is)
      (expansion_skip c.args.row.now c.loop-at.at-index 0 c.args.blocked.now _ _ _ _ c.loop-at-test.true c.loop-at.invariant
      (closed_marked c.args.blocked.now c.loop-at.marked.items (get_or c.args.row.now c.loop-at.at-index 0) c.is_open.result c.is_open.ensures.1 w.if-is_open.false))
]
