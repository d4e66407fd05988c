use Rattle.std.proofs.Common.{◌≡◌, ◌+◌, ◌≤◌, ◌++◌, drop, length, map}
use Rattle.std.specs.Prelude.{sum_by}
use Rattle.il_called.specs.Called.{written_of}
use Rattle.il_called.specs.Expansion.{width_of, brings}
use Rattle.il_inline.specs.Held.{callees_held, AllCallBelow}
use Rattle.il_inline.specs.Slots.{slots_from, end_from}
use Rattle.il_inline.proofs.layout.layout_of.Given as goal

-- the slots so far before those of the rest are all, and the rest fits
abbrev pub invariant-loop-line : goal.invariant-loop-line
invariant-loop-line l =
    let callees = callees_held l.written l.inlined in
    let rest = map written_of (drop l.line-index l.lines) in
    record {
      made : l.slots ++ slots_from callees l.end rest ≡ slots_from callees (record { start = 0; base = l.variables; calls = 0 }) (map written_of l.lines);
      last : end_from callees l.end rest ≡ end_from callees (record { start = 0; base = l.variables; calls = 0 }) (map written_of l.lines);
      below : AllCallBelow (length l.inlined) rest;
      lines : l.end.start + sum_by (width_of callees) rest ≤ 1000;
      places : l.end.base + sum_by (brings callees) rest ≤ 64;
      calls : l.end.calls ≤ l.line-index;
    }
