use Rattle.std.proofs.Common.{◌≡◌, ℕ, List, All, length}
use Rattle.std.specs.Bool.{OnFalse}
use Rattle.il_core.specs.Checked.{procedure_of}
use Rattle.control_flow.specs.declared.control.LoopInfo.{LoopInfo}
use Rattle.region_paths.specs.Count.{IsFew, AreHeadCounts, CountAtLeast, CountAtMost}
use Rattle.region_paths.proofs.counting.recount.Given as goal

abbrev pub invariant-loop-id : goal.invariant-loop-id
invariant-loop-id l = record {
  size : length l.counts ≡ length l.graph.nodes;
  few : All IsFew l.counts;
  same : OnFalse l.changed (l.counts ≡ l.initial.counts);
  least : (loops : List LoopInfo) (n : ℕ) → AreHeadCounts (procedure_of l.proc) loops l.heads → CountAtLeast (procedure_of l.proc) loops l.graph n 0 l.initial.counts
      → CountAtLeast (procedure_of l.proc) loops l.graph n l.id l.counts;
  most : (loops : List LoopInfo) (n : ℕ) → AreHeadCounts (procedure_of l.proc) loops l.heads → CountAtMost (procedure_of l.proc) loops l.graph n l.initial.counts
      → (m : ℕ) × CountAtMost (procedure_of l.proc) loops l.graph m l.counts;
}
