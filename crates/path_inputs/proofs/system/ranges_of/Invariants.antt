use Rattle.std.proofs.Common.{◌≡◌, map, take}
use Rattle.path_inputs.specs.Bounding.{range_of}
use Rattle.path_inputs.proofs.system.ranges_of.Given as goal

abbrev pub invariant-loop-place : goal.invariant-loop-place
invariant-loop-place l = l.ranges.items ≡ map range_of (take l.place-index l.places)
