use Rattle.std.proofs.Common.{◌∙◌, get_or, arith}
use Rattle.std.proofs.lemmas.List.{length-set}
use Rattle.flow_graph.proofs.Members.{IsIn-get_or}
use Rattle.control_flow.proofs.Showing.{listed_more}
use Rattle.control_flow.proofs.evidence.marks_of.Goals as goal

pub index_mut-requires : goal.index_mut-requires
index_mut-requires c =
    let l = c.requires (get_or c.args.lines.now c.loop-line.line-index 0) (IsIn-get_or c.args.lines.now c.loop-line.line-index 0 c.loop-line-test.true) in
    let s = c.loop-line.invariant.size in
    omega (arith, l, s)

pub loop-line-preserved : goal.loop-line-preserved
loop-line-preserved c =
    let l = c.requires (get_or c.args.lines.now c.loop-line.line-index 0) (IsIn-get_or c.args.lines.now c.loop-line.line-index 0 c.loop-line-test.true) in
    let s = c.loop-line.invariant.size in
    record {
      size = length-set c.loop-line.marks.items _ _ ∙ s;
      exact = listed_more c.args.lines.now c.loop-line.line-index c.loop-line.marks.items c.loop-line-test.true (omega (arith, l, s)) c.loop-line.invariant.exact;
    }
