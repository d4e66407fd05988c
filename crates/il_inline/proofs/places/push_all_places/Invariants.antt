use Rattle.std.proofs.Common.{◌≡◌, ◌++◌, drop, map, length}
use Rattle.il_called.specs.Called.{written_of}
use Rattle.il_called.specs.Expansion.{each_from}
use Rattle.il_inline.specs.Fits.{AreShort}
use Rattle.il_inline.specs.Held.{AllCallBelow}
use Rattle.il_inline.specs.Slots.{places_by}
use Rattle.il_inline.proofs.places.push_all_places.Given as goal

-- the places so far before those of the rest are all
abbrev pub invariant-loop-at : goal.invariant-loop-at
invariant-loop-at l =
    let by = places_by l.inlined l.layout in
    let rest = map written_of (drop l.at l.lines) in
    record {
      made : l.out.items ++ each_from by l.at rest ≡ l.initial.out.items ++ each_from by 0 (map written_of l.lines);
      below : AllCallBelow (length l.inlined) rest;
      short : AreShort (each_from by l.at rest);
    }
