use Rattle.std.proofs.Common.{◌≤◌, length}
use Rattle.sym_simplify.specs.Form.{constant}
use Rattle.sym_simplify.proofs.OpenParts.{Closing}
use Rattle.sym_simplify.proofs.table.FormTable.closed.Given as goal

abbrev pub invariant-loop-left : goal.invariant-loop-left
invariant-loop-left l = record {
  in_parts : l.left ≤ length l.form.parts.items;
  closing : Closing l.fn.self l.self l.form.parts.items (constant l.form.constant) l.left l.id;
}

abbrev pub decreases-loop-left : goal.decreases-loop-left
decreases-loop-left l = l.left
