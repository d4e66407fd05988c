use Rattle.std.proofs.Common.{◌≡◌, ℕ, List, All, length}
use Rattle.il_core.specs.Checked.{procedure_of}
use Rattle.control_flow.specs.declared.control.LoopInfo.{LoopInfo}
use Rattle.region_paths.specs.Count.{IsFew, AreHeadCounts, CountAtLeast, CountAtMost}
use Rattle.region_paths.proofs.counting.settle.Given as goal

abbrev pub invariant-loop-round : goal.invariant-loop-round
invariant-loop-round l = record {
  size : length l.counts ≡ length l.graph.nodes;
  few : All IsFew l.counts;
  least : (loops : List LoopInfo) → AreHeadCounts (procedure_of l.proc) loops l.heads → CountAtLeast (procedure_of l.proc) loops l.graph l._round 0 l.counts;
  most : (loops : List LoopInfo) → AreHeadCounts (procedure_of l.proc) loops l.heads → (m : ℕ) × CountAtMost (procedure_of l.proc) loops l.graph m l.counts;
}
