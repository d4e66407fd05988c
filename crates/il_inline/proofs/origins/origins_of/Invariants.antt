use Rattle.std.proofs.Common.{◌≡◌, ◌≤◌, ◌++◌, drop, map, length}
use Rattle.std.specs.Prelude.{sum_by}
use Rattle.il_called.specs.Called.{written_of}
use Rattle.il_called.specs.Expansion.{each_from, origins_of, width_of}
use Rattle.il_inline.specs.Held.{callees_held, AllCallBelow}
use Rattle.il_inline.proofs.origins.origins_of.Given as goal

-- the origins so far before those of the rest are all
abbrev pub invariant-loop-at : goal.invariant-loop-at
invariant-loop-at l =
    let by = origins_of (callees_held l.written l.inlined) (length l.inlined) in
    let rest = map written_of (drop l.at l.lines) in
    record {
      made : l.made.items ++ each_from by l.at rest ≡ each_from by 0 (map written_of l.lines);
      below : AllCallBelow (length l.inlined) rest;
      few : sum_by (width_of (callees_held l.written l.inlined)) rest ≤ 1000;
    }
