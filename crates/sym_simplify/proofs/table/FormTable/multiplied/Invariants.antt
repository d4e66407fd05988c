use Rattle.std.proofs.Common.{◌≡◌, ◌++◌, map, drop}
use Rattle.sym_simplify.proofs.OpenParts.{times_coefficient}
use Rattle.sym_simplify.proofs.table.FormTable.multiplied.Given as goal

abbrev pub invariant-loop-part : goal.invariant-loop-part
invariant-loop-part l = l.parts.items ++ map (times_coefficient l.factor) (drop l.part-index l.form.parts.items) ≡ map (times_coefficient l.factor) l.form.parts.items
