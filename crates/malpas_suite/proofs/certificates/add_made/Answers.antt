use Rattle.std.proofs.Common.{refl, sym, subst, ◌∙◌, append-nil, []}
use Rattle.il_core.proofs.Inputs.{checked-places}
use Rattle.il_core.specs.Checked.{procedure_of}
use Rattle.il_core.specs.Places.{AreCheckedPlaces}
use Rattle.malpas_suite.proofs.Rows.{not_refuted}
use Rattle.malpas_suite.proofs.certificates.add_made.Goals as goal

pub make_cert-requires-clause-places : goal.make_cert-requires-clause-places
make_cert-requires-clause-places c =
    subst AreCheckedPlaces (sym (c.as_slice.ensures ∙ c.places.ensures.value)) (checked-places (procedure_of c.args.proc.now) c.places.ensures.checked)

pub make_cert-requires-clause-verdict : goal.make_cert-requires-clause-verdict
make_cert-requires-clause-verdict c = rw (c.as_slice.ensures, c.places.ensures.value) c.requires.judged

pub returns-in-None : goal.returns-in-None
returns-in-None c =
    let other = rw c.in-None.is at c.in_ok-body.ensures.none in
    ([], sym (append-nil c.args.made.now), rw (not_refuted c.args.threat.now.verdict other) refl, λ cert i. absurd i)
