use Rattle.std.proofs.Common.{◌≡◌, ◌≤◌}
use Rattle.std.specs.Option.{option_map}
use Rattle.sym_simplify.specs.Table.{form_at}
use Rattle.sym_simplify.specs.Linear.{with_places, linear_of}
use Rattle.sym_simplify.proofs.table.FormTable.linear.Given as goal

-- the places so far before those of the rest are all
abbrev pub invariant-tail : goal.invariant-tail
invariant-tail l = record {
  in_table : l.at.index ≤ l.fn.id.index;
  form : option_map (with_places l.parts) (linear_of (form_at l.self l.at)) ≡ linear_of (form_at l.self l.fn.id);
}

abbrev pub decreases-tail : goal.decreases-tail
decreases-tail l = l.at.index
