use Rattle.std.proofs.Common.{◌≡◌, ◌++◌, map, take}
use Rattle.std.specs.Prelude.{filter}
use Rattle.il_core.specs.Checked.{is_copied, old_copy}
use Rattle.input_cases.proofs.least_inputs.with_copies.Given as goal

abbrev pub invariant-loop-place : goal.invariant-loop-place
invariant-loop-place l = l.places.items ≡ l.variables ++ map old_copy (filter is_copied (take l.place-index l.variables))
