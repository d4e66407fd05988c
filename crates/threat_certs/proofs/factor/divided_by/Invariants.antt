use Rattle.std.proofs.Common.{◌≡◌, drop}
use Rattle.sym_simplify.specs.declared.normal.Normal.{out-Normal}
use Rattle.sym_simplify.specs.Form.{constant}
use Rattle.sym_simplify.specs.Held.{form_of, parts_before}
use Rattle.threat_certs.specs.Adding.{counted_before, divided}
use Rattle.threat_certs.proofs.factor.divided_by.Given as goal

abbrev pub invariant-loop-part : goal.invariant-loop-part
invariant-loop-part l =
    counted_before l.parts.items (divided l.factor l.constant (parts_before (drop l.part-index l.part-items) (constant (out-Normal l.sum).constant))) ≡ divided l.factor l.constant (form_of l.sum)
