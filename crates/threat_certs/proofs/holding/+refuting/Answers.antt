use Rattle.std.proofs.Common.{◌≡◌, ◌∙◌, ◌≤◌, ◌-◌, rules, refl, sym, ap, subst, List, Option, Some, IfOk, length, arith}
use Rattle.std.specs.Prelude.{slice_set, IsTrue, ◌↔◌}
use Rattle.std.proofs.lemmas.Bool.{false≢true}
use Rattle.il_core.specs.declared.operator.Relation.{Relation}
use Rattle.il_core.specs.declared.operator.Relation.TheVariants.{Gt}
use Rattle.il_core.specs.Certificate.{certificate_of, sum, split, nesting}
use Rattle.cert_rules.specs.Acceptance.{Refutes}
use Rattle.threat_certs.specs.Measuring.{on_sides}
use Rattle.threat_certs.proofs.Splits.{low_fails, high_decides, sum_decides, unequal_within, restored}
use Rattle.threat_certs.proofs.holding.+refuting.Goals as goal

pub refutes-refutes_on-requires : goal.refutes-refutes_on-requires
refutes-refutes_on-requires t c =
    let u = c.if-not-is_unequal.ensures.0 refl in
    let within = unequal_within c.args.subject.now.literals.now c.args.sides.now c.in-Split.at u in
    let same = c.requires.sides in
    (search rules, (c.requires.kept, (same, omega arith)))

pub refutes-returns-in-Sum-clause-refuted : goal.refutes-returns-in-Sum-clause-refuted
refutes-returns-in-Sum-clause-refuted t c =
    sum_decides c.args.subject.now.places.now c.args.subject.now.pc (on_sides c.args.subject.now.literals.now c.args.sides.now) c.as_slice.result.now c.args.depth (certificate_of c.args.cert.now)
    c.is_negative_sum.result (ap certificate_of c.in-Sum.is ∙ ap sum (sym c.as_slice.ensures)) c.is_negative_sum.ensures

pub refutes-returns-then-not-below-clause-refuted : goal.refutes-returns-then-not-below-clause-refuted
refutes-returns-then-not-below-clause-refuted t c =
    let low = certificate_of c.deref.result.now in
    let high = certificate_of c.in-Split.high.value in
    let cut : certificate_of c.args.cert.now ≡ split c.in-Split.at (certificate_of c.deref.result.now) (certificate_of c.in-Split.high.value)
    = ap certificate_of c.in-Split.is ∙ ap (λ x. split c.in-Split.at (certificate_of x) (certificate_of c.in-Split.high.value)) (sym c.deref.ensures) in (
      λ f. absurd (false≢true f),
      λ x.
          absurd
          (low_fails c.args.subject.now.places.now c.args.subject.now.pc c.args.subject.now.literals.now c.args.sides.now c.requires.sides c.in-Split.at c.args.depth low high
          (certificate_of c.args.cert.now) cut (λ y. false≢true (sym c.if-not-below.true ∙ c.in_ok-below-in-Split.ensures.refuted.1 y)) x),
    )

pub refutes-refutes_on-requires-in-Split : goal.refutes-refutes_on-requires-in-Split
refutes-refutes_on-requires-in-Split t c =
    let u = c.if-not-is_unequal.ensures.0 refl in
    let within = unequal_within c.args.subject.now.literals.now c.args.sides.now c.in-Split.at u in
    let same = ap length c.in_ok-below-in-Split.ensures.unchanged ∙ c.requires.sides in
    (search rules, (c.requires.kept, (same, omega arith)))

pub refutes-returns-else-not-below-clause-refuted : goal.refutes-returns-else-not-below-clause-refuted
refutes-returns-else-not-below-clause-refuted t c =
    let low = certificate_of c.deref.result.now in
    let high = certificate_of c.deref-in-Split.result.now in
    let cut : certificate_of c.args.cert.now ≡ split c.in-Split.at (certificate_of c.deref.result.now) (certificate_of c.deref-in-Split.result.now)
    = ap certificate_of c.in-Split.is
    ∙ (ap (λ x. split c.in-Split.at (certificate_of x) (certificate_of c.in-Split.high.value)) (sym c.deref.ensures)
    ∙ ap (λ x. split c.in-Split.at (certificate_of c.deref.result.now) (certificate_of x)) (sym c.deref-in-Split.ensures)) in
    let second = subst
    (λ (os : List (Option Relation)). IfOk c.refutes_on-in-Split.result (λ b. IsTrue b ↔ ((nesting (certificate_of c.deref-in-Split.result.now) ≤ c.args.depth - 1)
    × Refutes c.args.subject.now.places.now c.args.subject.now.pc (on_sides c.args.subject.now.literals.now (slice_set os c.in-Split.at (Some Gt))) (certificate_of c.deref-in-Split.result.now))))
    c.in_ok-below-in-Split.ensures.unchanged c.refutes_on-in-Split.ensures.refuted in
    high_decides c.args.subject.now.places.now c.args.subject.now.pc c.args.subject.now.literals.now c.args.sides.now c.requires.sides c.in-Split.at c.args.depth low high
    (certificate_of c.args.cert.now) cut c.refutes_on-in-Split.result (omega arith) (c.if-not-is_unequal.ensures.0 refl)
    (c.in_ok-below-in-Split.ensures.refuted.0 c.if-not-below.false) second

pub refutes_on-returns-clause-unchanged : goal.refutes_on-returns-clause-unchanged
refutes_on-returns-clause-unchanged t c =
    restored c.args.sides.now _ c.args.at c.side_at-before.result _ c.side_at-before.ensures c.in_ok-refuted.ensures.unchanged
