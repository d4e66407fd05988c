use Rattle.std.proofs.Common.{◌≡◌, ◌^◌, rules, sym, subst, negsuc, neg_ℤ, SFits, arith}
use Rattle.std.specs.Int.{w128, int_div_euclid}
use Rattle.std.proofs.lemmas.Int.{to_z-of_z}
use Rattle.sym_simplify.specs.Held.{form_of}
use Rattle.sym_simplify.specs.Merge.{scale_parts}
use Rattle.threat_certs.specs.Adding.{divided, total_in, AreNumbersWithin}
use Rattle.threat_certs.proofs.Divided.{up_measured, up_small, most_small}
use Rattle.threat_certs.proofs.Numbers.{within_more}
use Rattle.threat_certs.proofs.quantity.up.Goals as goal

pub negated_floor-floor-requires-clause-small : goal.negated_floor-floor-requires-clause-small
negated_floor-floor-requires-clause-small c =
    let fits : SFits w128 c.in-Some.most = search rules in
    rw (to_z-of_z w128 c.in-Some.most fits)
    (most_small c.args.literal.now.relation c.args.literal.now.kept.now.bound c.in-Some.most (sym c.in-Some.ensures) c.requires.4)

pub times-requires-clause-small : goal.times-requires-clause-small
times-requires-clause-small c =
    let k = c.args.literal.now.kept.now in
    let g = c.common_factor-factor.result in
    let fits_factor : SFits w128 c.common_factor-factor.result = search rules in
    let fits_most : SFits w128 c.in-Some.most = search rules in
    let fits_floor : SFits w128 c.negated_floor-floor.result = search rules in
    let same_factor = to_z-of_z w128 c.common_factor-factor.result fits_factor in
    let same_most = to_z-of_z w128 c.in-Some.most fits_most in
    let same_floor = to_z-of_z w128 c.negated_floor-floor.result fits_floor in
    let quotient : c.negated_floor-floor.result ≡ neg_ℤ (int_div_euclid c.in-Some.most c.common_factor-factor.result) = cc (c.negated_floor-floor.ensures) in
    let form : total_in c.in_ok-negated.negated ≡ divided c.common_factor-factor.result (neg_ℤ (int_div_euclid c.in-Some.most c.common_factor-factor.result)) (form_of c.args.literal.now.kept.now.sum)
    = cc (c.in_ok-negated.ensures) in
    within_more (2 ^ 101) (2 ^ 102) (total_in c.in_ok-negated.negated) (omega arith)
    (subst (λ x. AreNumbersWithin (2 ^ 101) x) (sym form)
    (up_small (form_of k.sum) c.args.literal.now.relation k.bound g c.requires c.common_factor-factor.ensures.above c.common_factor-factor.ensures.reduced c.in-Some.most (sym c.in-Some.ensures)))

pub returns : goal.returns
returns c =
    let k = c.args.literal.now.kept.now in
    let g = c.common_factor-factor.result in
    let fits_factor : SFits w128 c.common_factor-factor.result = search rules in
    let fits_most : SFits w128 c.in-Some.most = search rules in
    let fits_floor : SFits w128 c.negated_floor-floor.result = search rules in
    let same_factor = to_z-of_z w128 c.common_factor-factor.result fits_factor in
    let same_most = to_z-of_z w128 c.in-Some.most fits_most in
    let same_floor = to_z-of_z w128 c.negated_floor-floor.result fits_floor in
    let quotient : c.negated_floor-floor.result ≡ neg_ℤ (int_div_euclid c.in-Some.most c.common_factor-factor.result) = cc (c.negated_floor-floor.ensures) in
    let negated : total_in c.in_ok-negated.negated ≡ divided c.common_factor-factor.result (neg_ℤ (int_div_euclid c.in-Some.most c.common_factor-factor.result)) (form_of c.args.literal.now.kept.now.sum)
    = cc (c.in_ok-negated.ensures) in
    let form : total_in c.in_ok-times.field-0 ≡ scale_parts (negsuc 0) (divided c.common_factor-factor.result (neg_ℤ (int_div_euclid c.in-Some.most c.common_factor-factor.result)) (form_of c.args.literal.now.kept.now.sum))
    = cc (c.in_ok-times.ensures) in
    up_measured (form_of k.sum) c.args.literal.now.relation k.bound g c.requires c.common_factor-factor.ensures.above c.common_factor-factor.ensures.reduced
    c.in-Some.most (total_in c.in_ok-times.field-0) (sym c.in-Some.ensures) form
