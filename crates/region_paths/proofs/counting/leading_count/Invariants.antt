use Rattle.std.proofs.Common.{◌≡◌, ℕ, drop}
use Rattle.il_core.specs.Checked.{procedure_of}
use Rattle.region_paths.specs.PathTree.{leading_tree}
use Rattle.region_paths.specs.Count.{leaves, capped, IsFew}
use Rattle.region_paths.proofs.counting.leading_count.Given as goal

abbrev pub invariant-loop-k : goal.invariant-loop-k
invariant-loop-k l = record {
  few : IsFew l.count;
  exact : (head : ℕ) → l.count ≡ capped (leaves (leading_tree (procedure_of l.proc) head (drop l.k l.leading)));
}
