use Rattle.std.proofs.Common.{◌∙◌, ap, map, length}
use Rattle.il_core.specs.Certificate.{certificate_of}
use Rattle.sym_simplify.specs.Literal.{literal_form_of}
use Rattle.threat_certs.specs.Measuring.{on_sides}
use Rattle.threat_certs.proofs.Splits.{accepted, unsplit}
use Rattle.threat_certs.proofs.holding.holds.Goals as goal

pub returns : goal.returns
returns c =
    accepted c.args.places.now c.args.threat.now.region (on_sides c.as_slice-literals.result.now c.deref_mut.result.now) (map literal_form_of c.args.threat.now.literals)
    (certificate_of c.args.cert.now) c.refutes.result
    (unsplit c.as_slice-literals.result.now c.deref_mut.result.now (length c.as_slice-literals.result.now) (c.deref_mut.ensures.value ∙ c.in_ok-sides.ensures)
    ∙ ap (map literal_form_of) c.as_slice-literals.ensures)
    c.refutes.ensures.refuted
