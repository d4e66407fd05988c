use Rattle.std.proofs.Common.{◌≡◌, pos, drop}
use Rattle.sym_simplify.specs.Form.{constant}
use Rattle.sym_simplify.specs.Table.{on_top}
use Rattle.sym_simplify.specs.Held.{parts_before}
use Rattle.sym_simplify.proofs.reading.normal_from.Given as goal

-- the parts so far before the rest are all
abbrev pub invariant-loop-part : goal.invariant-loop-part
invariant-loop-part l = parts_before l.read (on_top l.table (drop l.part-index l.parts) (constant (pos 0))) ≡ on_top l.table l.parts (constant (pos 0))
