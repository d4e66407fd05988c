use Rattle.std.proofs.Common.{◌∙◌, inl, inr, arith}
use Rattle.std.proofs.lemmas.Grind.{common_steps}
use Rattle.control_flow.proofs.LowLines.{low_on, marked_push}
use Rattle.control_flow.proofs.ascending.low_lines.Goals as goal

pub loop-line-preserved : goal.loop-line-preserved
loop-line-preserved c = record {
  size = let s = c.loop-line.invariant.size in let n = c.in_ok-push-2.ensures.len in grind (arith, common_steps);
  low = λ k h. elim (marked_push c.loop-line.marks.items c.has_low-low.result k (rw c.in_ok-push-2.ensures.items at h)) [
    | inl old ↦ c.loop-line.invariant.low k old
    | inr new ↦
        let p = c.has_low-low.ensures new.1 in
        rw (new.0 ∙ c.loop-line.invariant.size)
        (low_on c.args.graph.now.arcs p.0 c.loop-line.line (c.loop-line.invariant.low p.0 (rw c.as_slice.ensures.value at p.3))
        ((c.requires.tails.exact c.loop-line.line p.0).0 (rw c.row_at.ensures at p.1)) p.2)
  ];
}
