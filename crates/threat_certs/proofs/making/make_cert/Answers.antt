use Rattle.std.proofs.Common.{sym, subst, map}
use Rattle.sym_simplify.specs.Literal.{literal_form_of}
use Rattle.path_inputs.specs.Least.{IsPlainlyRefuted}
use Rattle.threat_certs.proofs.making.make_cert.Goals as goal

pub refutation-requires-clause-refuted : goal.refutation-requires-clause-refuted
refutation-requires-clause-refuted c =
    subst (λ x. IsPlainlyRefuted c.args.places.now c.args.threat.now.region (map literal_form_of x)) (sym c.as_slice.ensures) (c.requires.verdict.0 c.in-Refuted.is)
