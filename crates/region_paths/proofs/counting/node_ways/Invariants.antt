use Rattle.std.proofs.Common.{◌≡◌, length, All}
use Rattle.region_paths.specs.Count.{IsFewWays, AreNodeWays}
use Rattle.region_paths.proofs.counting.node_ways.Given as goal

abbrev pub invariant-loop-id : goal.invariant-loop-id
invariant-loop-id l = record {
  size : length l.ways.items ≡ l.id;
  ways : AreNodeWays l.graph l.ways.items;
  few : All IsFewWays l.ways.items;
}
