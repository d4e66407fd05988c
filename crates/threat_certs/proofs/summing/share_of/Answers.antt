use Rattle.std.proofs.Common.{◌≡◌, ◌^◌, rules, subst, pos, SFits, arith}
use Rattle.std.specs.Int.{w128}
use Rattle.std.proofs.lemmas.Int.{to_z-of_z}
use Rattle.sym_simplify.specs.Merge.{scale_parts}
use Rattle.threat_certs.specs.Adding.{total_in}
use Rattle.threat_certs.specs.Measuring.{on_sides, IsMeasured}
use Rattle.cert_rules.specs.Quantity.{IsQuantity}
use Rattle.threat_certs.proofs.Numbers.{within_more}
use Rattle.threat_certs.proofs.Summed.{share_measured}
use Rattle.threat_certs.proofs.summing.share_of.Goals as goal

pub times-requires-clause-small : goal.times-requires-clause-small
times-requires-clause-small c =
    let h = subst (IsMeasured (2 ^ 101) (IsQuantity c.args.subject.now.places.now c.args.subject.now.pc (on_sides c.args.subject.now.literals.now c.args.sides.now) c.args.share.item)) c.in-Some.is c.in_ok-quantity.ensures in
    within_more (2 ^ 101) (2 ^ 102) (total_in c.in-Some.quantity) (omega arith) h.small

pub returns-in_ok-times-in-Some : goal.returns-in_ok-times-in-Some
returns-in_ok-times-in-Some c =
    let h = subst (IsMeasured (2 ^ 101) (IsQuantity c.args.subject.now.places.now c.args.subject.now.pc (on_sides c.args.subject.now.literals.now c.args.sides.now) c.args.share.item)) c.in-Some.is c.in_ok-quantity.ensures in
    let fits : SFits w128 c.from.result = search rules in
    let same = to_z-of_z w128 c.from.result fits in
    let many : c.from.result ≡ pos c.args.share.times = search rules in
    let form : total_in c.in_ok-times-in-Some.field-0 ≡ scale_parts (pos c.args.share.times) (total_in c.in-Some.quantity) = cc (c.in_ok-times-in-Some.ensures) in
    share_measured c.args.subject.now.places.now c.args.subject.now.pc (on_sides c.args.subject.now.literals.now c.args.sides.now) c.args.share (total_in c.in-Some.quantity)
    (total_in c.in_ok-times-in-Some.field-0) (omega arith) (omega arith) form h
