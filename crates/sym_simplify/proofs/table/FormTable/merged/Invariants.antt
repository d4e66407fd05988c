use Rattle.std.proofs.Common.{◌-◌, ◌+◌, length}
use Rattle.sym_simplify.proofs.OpenParts.{Merging}
use Rattle.sym_simplify.proofs.table.FormTable.merged.Given as goal

abbrev pub invariant-loop-i : goal.invariant-loop-i
invariant-loop-i l = Merging l.self l.parts.items l.left.parts.items l.right.parts.items l.i l.j l.left.constant l.right.constant

abbrev pub decreases-loop-i : goal.decreases-loop-i
decreases-loop-i l = (length l.left.parts.items - l.i) + (length l.right.parts.items - l.j)
