use Rattle.std.proofs.Common.{drop}
use Rattle.sym_simplify.specs.declared.normal.Normal.{out-Normal}
use Rattle.sym_simplify.specs.Form.{constant}
use Rattle.sym_simplify.specs.Held.{form_of, parts_before}
use Rattle.threat_certs.proofs.Factors.{Factoring}
use Rattle.threat_certs.proofs.factor.divisor_of.Given as goal

abbrev pub invariant-loop-part : goal.invariant-loop-part
invariant-loop-part l = Factoring l.divisor (parts_before (drop l.part-index l.part-items) (constant (out-Normal l.sum).constant)) (form_of l.sum)
