use Rattle.std.proofs.Common.{◌≡◌, ◌+◌, ◌*◌, ◌≤◌}
use Rattle.sym_simplify.specs.Table.{form_at}
use Rattle.sym_simplify.specs.Held.{parts_before}
use Rattle.sym_simplify.proofs.Cells.{reach}
use Rattle.sym_simplify.proofs.reading.+reading.Given as goal

abbrev pub decreases-normal_at : goal.decreases-normal_at
decreases-normal_at l = 2 * l.id.index + 1

abbrev pub decreases-atom_at : goal.decreases-atom_at
decreases-atom_at l = 2 * reach l.atom

-- the parts so far before the rest are the normal term
abbrev pub invariant-normal_at-tail : goal.invariant-normal_at-tail
invariant-normal_at-tail l = record {
  in_table : l.at.index ≤ l.fn.id.index;
  form : parts_before l.parts (form_at l.table l.at) ≡ form_at l.table l.fn.id;
}

abbrev pub decreases-normal_at-tail : goal.decreases-normal_at-tail
decreases-normal_at-tail l = l.at.index
