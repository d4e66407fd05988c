use Rattle.std.specs.Prelude.{ℕ, ◌<◌}
use Rattle.il_core.specs.LineGraph.{IsIn}
use Rattle.control_flow.specs.Forward.{IsReachedBelow}
use Rattle.control_flow.proofs.LowLines.{low_forward, low_no_head}
use Rattle.control_flow.proofs.Splits.{forward_more, front_forward, loops_skip}
use Rattle.control_flow.proofs.splitting.split_arcs.Goals as goal
use Rattle.control_flow.proofs.splitting.split_arcs.Goals.{then-all_low+in_ok-extend_rows, else-all_low+in_ok-around+in_ok-front+in_ok-extend_rows-2+in_ok-back+in_ok-add_loop}

pub loop-line-preserved : goal.loop-line-preserved
loop-line-preserved c = elim c.if-all_low.branch [
  | then-all_low+in_ok-extend_rows w ↦
      let low : (u : ℕ) → IsIn c.row_at-row.result.now u → (u < c.loop-line.line) × IsReachedBelow c.args.graph.now.arcs u = λ u i.
      let p = c.all_low.ensures w.if-all_low.true u i in
      (p.0, c.in_ok-low.ensures.low u (rw c.as_slice.ensures.value at p.1)) in
      record {
        loops =
            rw w.loops-is
            (loops_skip c.args.graph.now c.loop-line.line c.loop-line.loops c.loop-line.invariant.loops
            (low_no_head c.args.graph.now.arcs c.row_at-row.result.now c.loop-line.line (λ u. rw c.row_at-row.ensures (c.requires.tails.exact c.loop-line.line u)) low));
        forward =
            rw w.forward-is
            (forward_more _ c.args.graph.now.arcs c.loop-line.forward.items w.extend_rows.new.rows.items c.row_at-row.result.now c.loop-line.line
            c.loop-line.invariant.forward w.in_ok-extend_rows.ensures.size
            (low_forward c.args.graph.now.arcs c.row_at-row.result.now c.loop-line.line (λ u. rw c.row_at-row.ensures (c.requires.tails.exact c.loop-line.line u)) low)
            w.in_ok-extend_rows.ensures.exact);
      }
  | else-all_low+in_ok-around+in_ok-front+in_ok-extend_rows-2+in_ok-back+in_ok-add_loop w ↦ record {
    loops = rw w.loops-is w.in_ok-add_loop.ensures;
    forward =
        rw w.forward-is
        (forward_more _ c.args.graph.now.arcs c.loop-line.forward.items w.extend_rows-else-all_low.new.rows.items w.as_slice-else-all_low-2.result.now c.loop-line.line
        c.loop-line.invariant.forward w.in_ok-extend_rows-2.ensures.size
        (front_forward c.args.graph.now.arcs c.row_at-row.result.now _ w.as_slice-else-all_low-2.result.now _ w.as_slice-else-all_low.result.now c.loop-line.line
        (λ u. rw c.row_at-row.ensures (c.requires.tails.exact c.loop-line.line u)) w.in_ok-around.ensures.exact w.as_slice-else-all_low.ensures w.in_ok-front.ensures
        w.as_slice-else-all_low-2.ensures) w.in_ok-extend_rows-2.ensures.exact);
  }
]
