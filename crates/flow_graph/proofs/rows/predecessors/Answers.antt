use Rattle.std.proofs.Common.{◌∙◌, ap, length, arith}
use Rattle.std.proofs.lemmas.List.{length-set}
use Rattle.flow_graph.proofs.LineArcs.{arc_inside, tails_after}
use Rattle.flow_graph.proofs.rows.predecessors.Goals as goal

pub extend_row-requires : goal.extend_row-requires
extend_row-requires c =
    let a = arc_inside _ c.args.graph.now.arcs c.as_slice-arc-items.result.now c.loop-arc.arc-index (record { tail = 0; head = 0 }) c.as_slice-arc-items.ensures c.loop-arc-test.true c.requires.arcs in
    let s = c.loop-arc.invariant.size in
    omega (arith, a.head_inside, s)

pub loop-arc-preserved : goal.loop-arc-preserved
loop-arc-preserved c =
    let a = arc_inside _ c.args.graph.now.arcs c.as_slice-arc-items.result.now c.loop-arc.arc-index (record { tail = 0; head = 0 }) c.as_slice-arc-items.ensures c.loop-arc-test.true c.requires.arcs in
    let s = c.loop-arc.invariant.size in
    record {
      size = ap length c.in_ok-extend_row.ensures ∙ length-set c.loop-arc.rows.items _ _ ∙ s;
      rows = tails_after c.args.graph.now.arcs c.as_slice-arc-items.result.now c.loop-arc.arc-index (record { tail = 0; head = 0 }) c.loop-arc.rows.items
          c.extend_row.new.rows.items c.as_slice-arc-items.ensures c.loop-arc-test.true (omega (arith, a.head_inside, s)) c.in_ok-extend_row.ensures c.loop-arc.invariant.rows;
    }
