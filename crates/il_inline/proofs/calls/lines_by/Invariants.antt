use Rattle.std.proofs.Common.{◌≡◌, ◌++◌, drop, map, length}
use Rattle.il_core.specs.Procedure.{instruction_of}
use Rattle.il_called.specs.Called.{written_of}
use Rattle.il_called.specs.Expansion.{each_from}
use Rattle.il_inline.specs.Fits.{AllFit}
use Rattle.il_inline.specs.Held.{callees_held}
use Rattle.il_inline.specs.Slots.{lines_by}
use Rattle.il_inline.specs.Within.{AreWithin}
use Rattle.il_inline.proofs.calls.lines_by.Given as goal

-- the lines so far before those of the rest are all
abbrev pub invariant-loop-at : goal.invariant-loop-at
invariant-loop-at l =
    let by = lines_by (callees_held l.written l.inlined) l.places l.under l.layout in
    let rest = map written_of (drop l.at l.lines) in
    record {
      made : map instruction_of l.made ++ each_from by l.at rest ≡ each_from by 0 (map written_of l.lines);
      fit : AllFit (callees_held l.written l.inlined) (length l.inlined) l.layout l.at rest;
      within : AreWithin (each_from by l.at rest);
    }
