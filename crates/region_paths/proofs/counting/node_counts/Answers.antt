use Rattle.std.proofs.Common.{◌≡◌, sym, ap, ◌∙◌, ℕ, subst, List, ◌++◌, take, drop, length}
use Rattle.std.proofs.Math.Seq.{take-append_seam}
use Rattle.il_core.specs.Checked.{procedure_of}
use Rattle.region_paths.specs.Count.{CountAtMost}
use Rattle.region_paths.proofs.counting.node_counts.Goals as goal

-- a list that is written back over one of its own length
whole_front : (n : ℕ) (new old : List ℕ) → n ≡ length new → take n (new ++ drop (length new) old) ≡ new
whole_front n new old e = ap (λ (k : ℕ). take k (new ++ drop (length new) old)) e ∙ take-append_seam new (drop (length new) old)

pub returns-clause-most : goal.returns-clause-most
returns-clause-most c = λ loops h.
    let m = c.settle.ensures.most loops h in
    let e : c.in_ok-counts.counts.len ≡ length c.settle.new.counts = sym (c.settle.ensures.size ∙ c.deref_mut.ensures.len) in
    (m.0, subst (CountAtMost (procedure_of c.args.proc.now) loops c.args.graph.now m.0) (sym (whole_front c.in_ok-counts.counts.len c.settle.new.counts c.in_ok-counts.counts.items e)) m.1)
