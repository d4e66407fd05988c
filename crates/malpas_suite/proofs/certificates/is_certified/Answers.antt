use Rattle.std.proofs.Common.{◌≡◌, suc, sym, ap, subst, ◌∙◌, Some, slice_get, arith}
use Rattle.std.proofs.lemmas.Option.{slice_get-get_or}
use Rattle.il_core.proofs.Inputs.{checked-places}
use Rattle.il_core.specs.Checked.{procedure_of}
use Rattle.il_core.specs.Places.{AreCheckedPlaces}
use Rattle.malpas_suite.proofs.Rows.{then_ok, certified_at, not_certified}
use Rattle.malpas_suite.proofs.Tried.{there}
use Rattle.malpas_suite.proofs.certificates.is_certified.Goals as goal

pub holds-requires-clause-places : goal.holds-requires-clause-places
holds-requires-clause-places c =
    subst AreCheckedPlaces (sym (c.as_slice.ensures ∙ c.places.ensures.value)) (checked-places (procedure_of c.args.proc.now) c.places.ensures.checked)

pub holds-requires-clause-below : goal.holds-requires-clause-below
holds-requires-clause-below c =
    let v = c.in-Some-get.ensures.lookup in
    let sound = c.requires c.in-Some-get.threat.now (there c.args.threats.now c.in-Some.at c.in-Some-get.threat.now v.3.0 v.1) in
    rw (c.as_slice.ensures, c.places.ensures.value) sound.below

pub holds-requires-clause-kept : goal.holds-requires-clause-kept
holds-requires-clause-kept c =
    let v = c.in-Some-get.ensures.lookup in
    (c.requires c.in-Some-get.threat.now (there c.args.threats.now c.in-Some.at c.in-Some-get.threat.now v.3.0 v.1)).kept

pub returns-in-Some-get : goal.returns-in-Some-get
returns-in-Some-get c =
    let v = c.in-Some-get.ensures.lookup in
    let stands : slice_get c.args.threats.now c.in-Some.at ≡ Some c.in-Some-get.threat.now =
    slice_get-get_or c.args.threats.now c.in-Some.at c.in-Some-get.threat.now v.3.0 ∙ ap Some (sym v.1) in
    let number : c.args.cert.now.threat ≡ suc c.in-Some.at = omega (arith, c.in-Some.ensures) in
    then_ok _ _ c.holds.result (certified_at c.args.proc.now.places c.args.threats.now c.args.cert.now c.in-Some.at c.in-Some-get.threat.now number stands)
    (rw (c.as_slice.ensures, c.places.ensures.value) at c.holds.ensures)

pub returns-in-None : goal.returns-in-None
returns-in-None c =
    let number : c.args.cert.now.threat ≡ suc c.in-Some.at = omega (arith, c.in-Some.ensures) in
    not_certified c.args.proc.now.places c.args.threats.now c.args.cert.now c.in-Some.at number c.in-None.ensures.lookup.3
