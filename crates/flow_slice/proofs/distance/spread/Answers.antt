use Rattle.std.proofs.Common.{◌<◌, ◌∙◌, sym, length, get_or, arith}
use Rattle.flow_graph.proofs.Members.{IsIn-get_or}
use Rattle.flow_slice.proofs.Layers.{spread_start, spread_skip, spread_more}
use Rattle.flow_slice.proofs.distance.spread.Goals as goal
use Rattle.flow_slice.proofs.distance.spread.Goals.{then-lacks_distance+in_ok-push, else-lacks_distance}

pub lacks_distance-requires : goal.lacks_distance-requires
lacks_distance-requires c =
    let b = c.requires (get_or c.args.row.now c.loop-line.line-index 0) (IsIn-get_or c.args.row.now c.loop-line.line-index 0 c.loop-line-test.true) in
    let s = c.loop-line.invariant.size in omega (arith, b, s)

pub index_mut-requires : goal.index_mut-requires
index_mut-requires c =
    let b = c.requires (get_or c.args.row.now c.loop-line.line-index 0) (IsIn-get_or c.args.row.now c.loop-line.line-index 0 c.loop-line-test.true) in
    let s = c.loop-line.invariant.size in omega (arith, b, s)

pub loop-line-init : goal.loop-line-init
loop-line-init c = spread_start _ _ _

pub loop-line-preserved : goal.loop-line-preserved
loop-line-preserved c = elim c.if-lacks_distance.branch [
  | then-lacks_distance+in_ok-push w ↦
      let b = c.requires (get_or c.args.row.now c.loop-line.line-index 0) (IsIn-get_or c.args.row.now c.loop-line.line-index 0 c.loop-line-test.true) in
      let s = c.loop-line.invariant.size in
      let l : get_or c.args.row.now c.loop-line.line-index 0 < length c.loop-line.distances.items = omega (arith, b, s) in
      rw (w.distances-is, w.layer-is, w.in_ok-push.ensures.items)
      (spread_more c.args.row.now c.loop-line.line-index 0 c.args.distance _ c.loop-line.distances.items _ c.loop-line.layer.items c.loop-line-test.true l
      (sym c.lacks_distance.ensures ∙ w.if-lacks_distance.true) c.loop-line.invariant)
  | else-lacks_distance w ↦
      rw (w.distances-is, w.layer-is)
      (spread_skip c.args.row.now c.loop-line.line-index 0 c.args.distance _ _ _ _ c.loop-line-test.true (sym c.lacks_distance.ensures ∙ w.if-lacks_distance.false) c.loop-line.invariant)
]
