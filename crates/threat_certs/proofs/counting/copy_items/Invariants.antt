use Rattle.std.proofs.Common.{◌≡◌, ◌++◌, ◌-◌, length}
use Rattle.il_core.specs.Run.{variable_count}
use Rattle.threat_certs.specs.Counting.{copied_items}
use Rattle.threat_certs.proofs.counting.copy_items.Given as goal

-- those so far before those of the rest are all
abbrev pub invariant-loop-copy : goal.invariant-loop-copy
invariant-loop-copy l = l.items.items ++ copied_items l.copy (length l.fn.places - l.copy) ≡ copied_items (variable_count l.fn.places) (length l.fn.places - variable_count l.fn.places)
