use Rattle.std.proofs.Common.{◌≡◌, ◌++◌, map, take}
use Rattle.std.specs.List.{flat_map}
use Rattle.path_inputs.specs.Bounding.{range_of, copies, constraints_of_literal, splits_of_literal}
use Rattle.path_inputs.proofs.system.system_of.Given as goal

abbrev pub invariant-loop-literal : goal.invariant-loop-literal
invariant-loop-literal l =
    (l.system.ranges.items ≡ map range_of l.fn.places)
    × (l.system.constraints.items ≡ copies l.fn.places l.fn.pc ++ flat_map constraints_of_literal (take l.literal-index l.literals))
    × (l.system.splits.items ≡ flat_map splits_of_literal (take l.literal-index l.literals))
