use Rattle.std.proofs.Common.{◌≡◌, ◌+◌, length, drop, List}
use Rattle.std.specs.Prelude.{find}
use Rattle.il_called.specs.Called.{WrittenProcedure}
use Rattle.call_names.specs.Search.{is_among}
use Rattle.call_names.specs.Outlines.{AreOutlined}
use Rattle.call_names.proofs.Brought.{called_names}
use Rattle.call_names.proofs.search.+first_new.Given as goal

abbrev pub decreases-first_new : goal.decreases-first_new
decreases-first_new l = length l.outlines.now

abbrev pub invariant-loop-k : goal.invariant-loop-k
invariant-loop-k l = (before : List WrittenProcedure) → AreOutlined before l.before → find (is_among l.those) (called_names before l.stem.items (l.k + 1) (drop l.k l.callee-items))
    ≡ find (is_among l.those) (called_names before l.stem.items 1 l.callee-items)
