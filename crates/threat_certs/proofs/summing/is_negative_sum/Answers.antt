use Rattle.std.proofs.Common.{◌^◌, subst, arith}
use Rattle.cert_rules.specs.Acceptance.{IsSumOf}
use Rattle.threat_certs.specs.Measuring.{on_sides, IsMeasured}
use Rattle.threat_certs.proofs.Summed.{negative, not_negative}
use Rattle.threat_certs.proofs.summing.is_negative_sum.Goals as goal

pub returns-in-Some : goal.returns-in-Some
returns-in-Some c =
    let h = subst (IsMeasured (2 ^ 125) (IsSumOf c.args.subject.now.places.now c.args.subject.now.pc (on_sides c.args.subject.now.literals.now c.args.sides.now) c.args.shares.now)) c.in-Some.is c.in_ok-sum.ensures in (
      λ t.
          let x = c.is_negative.ensures.0 t in
          negative c.args.subject.now.places.now c.args.subject.now.pc (on_sides c.args.subject.now.literals.now c.args.sides.now) c.args.shares.now c.in-Some.sum.parts.items c.in-Some.sum.constant
          (omega arith) h x.0 x.1,
      λ n.
          c.is_negative.ensures.1
          (not_negative c.args.subject.now.places.now c.args.subject.now.pc (on_sides c.args.subject.now.literals.now c.args.sides.now) c.args.shares.now c.in-Some.sum.parts.items c.in-Some.sum.constant h n),
    )
