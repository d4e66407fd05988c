use Rattle.std.proofs.Common.{◌≡◌, map, ◌++◌, drop}
use Rattle.il_core.specs.Procedure.{instruction_of}
use Rattle.flow_slice.specs.Sides.{sliced_from}
use Rattle.flow_slice.proofs.lines.sliced_lines.Given as goal

abbrev pub invariant-loop-at : goal.invariant-loop-at
invariant-loop-at l =
    map instruction_of l.made ++ sliced_from l.marks l.distances l.at (map instruction_of (drop l.at l.lines)) ≡ sliced_from l.marks l.distances 0 (map instruction_of l.lines)
