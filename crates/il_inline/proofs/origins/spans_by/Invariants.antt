use Rattle.std.proofs.Common.{◌≡◌, ◌++◌, drop, map}
use Rattle.il_called.specs.Called.{written_of}
use Rattle.il_called.specs.Expansion.{each_from}
use Rattle.il_inline.specs.Slots.{spans_by}
use Rattle.il_inline.proofs.origins.spans_by.Given as goal

-- the spans so far before those of the rest are all
abbrev pub invariant-loop-at : goal.invariant-loop-at
invariant-loop-at l =
    l.made ++ each_from (spans_by l.layout) l.at (map written_of (drop l.at l.lines)) ≡ each_from (spans_by l.layout) 0 (map written_of l.lines)
