use Rattle.std.proofs.Common.{◌≡◌, ℕ, ◌<◌, List, ◌∷◌, [], ◌++◌, length}
use Rattle.std.specs.Prelude.{not}
use Rattle.std.specs.List.{count_by}
use Rattle.il_core.specs.LineGraph.{IsIn}
use Rattle.flow_graph.specs.Search.{Reaches}
use Rattle.interval_reduce.specs.Choice.{Precedes}
use Rattle.interval_reduce.specs.Growth.{AreMarked, AreFree, IsBorder}
use Rattle.interval_reduce.proofs.Growing.{Growing}
use Rattle.interval_reduce.proofs.growth.interval.Given as goal

abbrev pub invariant-loop-node : goal.invariant-loop-node
invariant-loop-node l = record {
  taken_size : length l.taken.items ≡ length l.preds;
  inside_size : length l.inside.items ≡ length l.preds;
  within : AreMarked l.inside.items l.members;
  free : AreFree l.taken.items l.border.items;
  fewer : count_by not l.taken.items < count_by not l.fn.taken.items;
  grown : (earlier : List ℕ) → AreMarked l.fn.taken.items earlier → IsBorder (Reaches (Precedes l.preds) 0) (Precedes l.preds) earlier l.fn.border.items
      → IsIn (earlier ++ l.head ∷ []) 0 → Growing l.preds earlier l.head l.taken.items l.border.items l.members;
}

abbrev pub decreases-loop-node : goal.decreases-loop-node
decreases-loop-node l = count_by not l.taken.items
