use Rattle.std.proofs.Common.{◌≡◌, [], length}
use Rattle.std.specs.Prelude.{not}
use Rattle.std.specs.List.{count_by}
use Rattle.interval_reduce.specs.Growth.{AreMarked, AreFree}
use Rattle.interval_reduce.proofs.Growing.{Leveling}
use Rattle.interval_reduce.proofs.growth.level.Given as goal

abbrev pub invariant-loop-head : goal.invariant-loop-head
invariant-loop-head l = record {
  size : length l.taken.items ≡ length l.preds;
  inside_size : length l.inside.items ≡ length l.preds;
  none_inside : AreMarked l.inside.items [];
  free : AreFree l.taken.items l.border.items;
  going : Leveling l.preds l.level l.taken.items l.border.items;
}

abbrev pub decreases-loop-head : goal.decreases-loop-head
decreases-loop-head l = count_by not l.taken.items
