use Rattle.std.proofs.Common.{◌∙◌, ap, length, get_or, arith}
use Rattle.std.proofs.lemmas.List.{length-set}
use Rattle.flow_graph.proofs.Members.{IsIn-get_or}
use Rattle.control_flow.proofs.Splits.{rows_extended}
use Rattle.control_flow.proofs.splitting.extend_rows.Goals as goal

pub extend_row-requires : goal.extend_row-requires
extend_row-requires c =
    let l = c.requires (get_or c.args.lines.now c.loop-line.line-index 0) (IsIn-get_or c.args.lines.now c.loop-line.line-index 0 c.loop-line-test.true) in
    let s = c.loop-line.invariant.size in
    omega (arith, l, s)

pub loop-line-preserved : goal.loop-line-preserved
loop-line-preserved c = record {
  size = ap length c.in_ok-extend_row.ensures ∙ length-set c.loop-line.rows.items _ _ ∙ c.loop-line.invariant.size;
  exact =
      rows_extended c.args.rows.now.items c.loop-line.rows.items c.extend_row.new.rows.items c.args.lines.now c.loop-line.line-index c.args.item c.loop-line-test.true
      (let l = c.requires (get_or c.args.lines.now c.loop-line.line-index 0) (IsIn-get_or c.args.lines.now c.loop-line.line-index 0 c.loop-line-test.true) in
      let s = c.loop-line.invariant.size in omega (arith, l, s))
      c.in_ok-extend_row.ensures c.loop-line.invariant.exact;
}
