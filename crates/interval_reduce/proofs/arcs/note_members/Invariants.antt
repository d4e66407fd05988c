use Rattle.std.proofs.Common.{◌≡◌, ℕ, length, take}
use Rattle.std.specs.Prelude.{slice_index, nat_eq, if◌then◌else◌}
use Rattle.std.specs.List.{list_any}
use Rattle.interval_reduce.proofs.arcs.note_members.Given as goal

abbrev pub invariant-loop-member : goal.invariant-loop-member
invariant-loop-member l = record {
  size : length l.owners.items ≡ length l.initial.owners.items;
  owners : (v : ℕ) → slice_index l.owners.items v ≡ (if list_any (nat_eq v) (take l.member-index l.members) then l.head else slice_index l.initial.owners.items v);
}
