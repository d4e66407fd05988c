use Rattle.std.proofs.Common.{◌≡◌, ◌≤◌, length, filter, take}
use Rattle.il_core.specs.Run.{is_variable}
use Rattle.threat_certs.proofs.quantity.variables_in.Given as goal

-- the variables so far are no more than the places so far
abbrev pub invariant-loop-place : goal.invariant-loop-place
invariant-loop-place l = (l.count ≡ length (filter is_variable (take l.place-index l.places))) × (l.count ≤ l.place-index)
