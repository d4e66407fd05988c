-- The bounds and the forks are those of the literals, so what is made is accepted for them.
use Rattle.std.proofs.Common.{◌≡◌, ◌∙◌, refl, length, map, ◌++◌, arith}
use Rattle.std.specs.List.{flat_map}
use Rattle.std.proofs.lemmas.Grind.{common_steps}
use Rattle.il_core.specs.Certificate.{certificate_of}
use Rattle.path_inputs.specs.Bounding.{range_of, splits_of_literal}
use Rattle.path_inputs.proofs.Asked.{asked-ranges, asked-given, asked-splits}
use Rattle.threat_certs.specs.Making.{HaveSolutions, IsAcceptedForks}
use Rattle.threat_certs.proofs.Forks.{literals-length, core-splits, other-splits, literals-accepted, literals-solved}
use Rattle.threat_certs.proofs.refuting.refutation.Goals as goal

pub search_all-requires-clause-ranges : goal.search_all-requires-clause-ranges
search_all-requires-clause-ranges c =
    let r : c.deref-2.result.now ≡ map range_of c.args.places.now = grind (arith, common_steps) in
    asked-ranges c.args.places.now c.requires.places c.deref-2.result.now r

pub search_all-requires-clause-given : goal.search_all-requires-clause-given
search_all-requires-clause-given c =
    let r : c.deref-2.result.now ≡ map range_of c.args.places.now = grind (arith, common_steps) in
    asked-given c.args.places.now c.requires.places c.deref-2.result.now r c.args.literals.now c.requires.below c.requires.kept c.args.pc c.in_ok-ranges.field-0.constraints.items c.in_ok-ranges.ensures.constraints

pub search_all-requires-clause-counted : goal.search_all-requires-clause-counted
search_all-requires-clause-counted c =
    literals-length c.args.places.now c.args.pc c.args.literals.now c.requires.places c.requires.kept c.in_ok-ranges.field-0.constraints.items c.in_ok-items.items.items c.in_ok-ranges.ensures.constraints c.in_ok-items.ensures

pub search_all-requires-clause-core : goal.search_all-requires-clause-core
search_all-requires-clause-core c =
    let r : c.deref-2.result.now ≡ map range_of c.args.places.now = grind (arith, common_steps) in
    core-splits c.args.literals.now c.deref.result.now c.core_and_others.result.0.now c.core_and_others.result.1.now (c.deref.ensures.value ∙ c.in_ok-forks.ensures) c.core_and_others.ensures.core
    c.core_and_others.ensures.others (length c.deref-2.result.now)
    (asked-splits c.args.places.now c.requires.places c.deref-2.result.now r c.args.literals.now c.requires.below c.requires.kept (flat_map splits_of_literal c.args.literals.now) refl)

pub search_all-requires-clause-others : goal.search_all-requires-clause-others
search_all-requires-clause-others c =
    let r : c.deref-2.result.now ≡ map range_of c.args.places.now = grind (arith, common_steps) in
    other-splits c.args.literals.now c.deref.result.now c.core_and_others.result.0.now c.core_and_others.result.1.now (c.deref.ensures.value ∙ c.in_ok-forks.ensures) c.core_and_others.ensures.core
    c.core_and_others.ensures.others (length c.deref-2.result.now)
    (asked-splits c.args.places.now c.requires.places c.deref-2.result.now r c.args.literals.now c.requires.below c.requires.kept (flat_map splits_of_literal c.args.literals.now) refl)

pub unreachable-requires : goal.unreachable-requires
unreachable-requires c =
    let r : c.deref-2.result.now ≡ map range_of c.args.places.now = grind (arith, common_steps) in
    let h : HaveSolutions c.deref-2.result.now c.in_ok-ranges.field-0.constraints.items c.core_and_others.result.0.now c.core_and_others.result.1.now = rw c.in-None.is at c.in_ok-cert.ensures in
    literals-solved c.args.literals.now c.deref.result.now c.core_and_others.result.0.now c.core_and_others.result.1.now (c.deref.ensures.value ∙ c.in_ok-forks.ensures) c.core_and_others.ensures.core
    c.core_and_others.ensures.others c.args.places.now c.args.pc c.requires.places c.requires.kept c.deref-2.result.now r c.in_ok-ranges.field-0.constraints.items c.in_ok-ranges.ensures.constraints h c.requires.refuted

pub returns : goal.returns
returns c =
    let r : c.deref-2.result.now ≡ map range_of c.args.places.now = grind (arith, common_steps) in
    let h : IsAcceptedForks c.deref-2.result.now c.in_ok-ranges.field-0.constraints.items c.in_ok-items.items.items (c.core_and_others.result.0.now ++ c.core_and_others.result.1.now) (certificate_of c.in-Some.cert)
    = rw c.in-Some.is at c.in_ok-cert.ensures in
    literals-accepted c.args.literals.now c.deref.result.now c.core_and_others.result.0.now c.core_and_others.result.1.now (c.deref.ensures.value ∙ c.in_ok-forks.ensures) c.core_and_others.ensures.core
    c.core_and_others.ensures.others c.args.places.now c.args.pc c.requires.places c.requires.kept c.deref-2.result.now r c.in_ok-ranges.field-0.constraints.items c.in_ok-ranges.ensures.constraints c.in_ok-items.items.items
    (certificate_of c.in-Some.cert) c.in_ok-items.ensures h
