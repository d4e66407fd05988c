use Rattle.std.proofs.Common.{◌≡◌, ◌+◌, ◌*◌, ◌≤◌, max}
use Rattle.sym_simplify.specs.Order.{form_cmp}
use Rattle.sym_simplify.specs.Table.{form_at}
use Rattle.sym_simplify.proofs.Cells.{reach}
use Rattle.sym_simplify.proofs.table.FormTable.+comparing.Given as goal

abbrev pub decreases-compare : goal.decreases-compare
decreases-compare l = 2 * (l.a.index + l.b.index) + 1

abbrev pub decreases-compare_atoms : goal.decreases-compare_atoms
decreases-compare_atoms l = 2 * (reach l.a + reach l.b)

abbrev pub decreases-compare_sides : goal.decreases-compare_sides
decreases-compare_sides l = 2 * (max l.a.index l.b.index + max l.c.index l.d.index) + 2

-- what is left to compare decides
abbrev pub invariant-compare-parts : goal.invariant-compare-parts
invariant-compare-parts l = record {
  left_in : l.left.index ≤ l.fn.a.index;
  right_in : l.right.index ≤ l.fn.b.index;
  same : form_cmp (form_at l.self l.left) (form_at l.self l.right) ≡ form_cmp (form_at l.self l.fn.a) (form_at l.self l.fn.b);
}

abbrev pub decreases-compare-parts : goal.decreases-compare-parts
decreases-compare-parts l = l.left.index
