use Rattle.std.proofs.Common.{◌∙◌, refl, ap, length, arith}
use Rattle.std.proofs.lemmas.List.{length-set}
use Rattle.flow_graph.proofs.Members.{IsIn-get_or}
use Rattle.flow_graph.proofs.LineArcs.{tails_after}
use Rattle.interval_reduce.proofs.arcs.tail_rows.Goals as goal

pub extend_row-requires : goal.extend_row-requires
extend_row-requires c =
    let h = (c.requires _ _ (IsIn-get_or c.args.arcs.now c.loop-arc.arc-index (record { tail = 0; head = 0 }) c.loop-arc-test.true)).head in
    let s = c.loop-arc.invariant.size in
    omega (arith, h, s)

pub loop-arc-preserved : goal.loop-arc-preserved
loop-arc-preserved c =
    let h = (c.requires _ _ (IsIn-get_or c.args.arcs.now c.loop-arc.arc-index (record { tail = 0; head = 0 }) c.loop-arc-test.true)).head in
    let s = c.loop-arc.invariant.size in
    record {
      size = ap length c.in_ok-extend_row.ensures ∙ length-set c.loop-arc.rows.items _ _ ∙ s;
      rows = tails_after c.args.arcs.now c.args.arcs.now c.loop-arc.arc-index (record { tail = 0; head = 0 }) c.loop-arc.rows.items
          c.extend_row.new.rows.items refl c.loop-arc-test.true (omega (arith, h, s)) c.in_ok-extend_row.ensures c.loop-arc.invariant.rows;
    }
