use Rattle.std.proofs.Common.{◌≡◌, map, take}
use Rattle.regular_algebra.specs.Relations.{ends_of}
use Rattle.data_use.specs.Sums.{ends_along, EachCarries}
use Rattle.data_use.proofs.lines.entries_of.Given as goal

-- the first arcs have their entries
abbrev pub invariant-loop-arc : goal.invariant-loop-arc
invariant-loop-arc l =
    record {
      ends : ends_of l.entries.items ≡ map ends_along (take l.arc-index l.arcs);
      values : EachCarries l.nodes l.group l.entries.items;
    }
