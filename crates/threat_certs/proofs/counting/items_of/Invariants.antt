use Rattle.std.proofs.Common.{◌≡◌, ◌++◌, drop, map}
use Rattle.sym_simplify.specs.Literal.{literal_form_of}
use Rattle.threat_certs.specs.Counting.{copy_items, items_from}
use Rattle.threat_certs.proofs.counting.items_of.Given as goal

-- those so far before those of the rest are all
abbrev pub invariant-loop-literal : goal.invariant-loop-literal
invariant-loop-literal l =
    l.items.items ++ items_from l.literal (map literal_form_of (drop l.literal l.literals)) ≡ copy_items l.fn.places l.fn.pc ++ items_from 0 (map literal_form_of l.fn.literals)
