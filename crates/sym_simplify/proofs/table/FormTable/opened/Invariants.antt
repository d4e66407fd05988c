use Rattle.std.proofs.Common.{◌≡◌, ◌≤◌}
use Rattle.sym_simplify.specs.Table.{ArePartsWithin, on_top, form_at}
use Rattle.sym_simplify.proofs.table.FormTable.opened.Given as goal

-- the parts so far before the rest are the normal term
abbrev pub invariant-loop-constant : goal.invariant-loop-constant
invariant-loop-constant l = record {
  in_table : l.at.index ≤ l.fn.id.index;
  within : ArePartsWithin l.self l.parts.items;
  form : on_top l.self l.parts.items (form_at l.self l.at) ≡ form_at l.self l.fn.id;
}

abbrev pub decreases-loop-constant : goal.decreases-loop-constant
decreases-loop-constant l = l.at.index
