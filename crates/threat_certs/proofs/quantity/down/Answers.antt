use Rattle.std.proofs.Common.{◌≡◌, rules, sym, neg_ℤ, SFits}
use Rattle.std.specs.Int.{w128, int_div_euclid}
use Rattle.std.proofs.lemmas.Int.{to_z-of_z}
use Rattle.sym_simplify.specs.Held.{form_of}
use Rattle.threat_certs.specs.Adding.{divided, total_in}
use Rattle.threat_certs.proofs.Divided.{down_measured, fewest_small}
use Rattle.threat_certs.proofs.quantity.down.Goals as goal

pub negated_ceiling-ceiling-requires-clause-small : goal.negated_ceiling-ceiling-requires-clause-small
negated_ceiling-ceiling-requires-clause-small c =
    let fits : SFits w128 c.in-Some.fewest = search rules in
    rw (to_z-of_z w128 c.in-Some.fewest fits)
    (fewest_small c.args.literal.now.relation c.args.literal.now.kept.now.bound c.in-Some.fewest (sym c.in-Some.ensures) c.requires.4)

pub returns : goal.returns
returns c =
    let k = c.args.literal.now.kept.now in
    let g = c.common_factor-factor.result in
    let fits_factor : SFits w128 c.common_factor-factor.result = search rules in
    let fits_fewest : SFits w128 c.in-Some.fewest = search rules in
    let fits_ceiling : SFits w128 c.negated_ceiling-ceiling.result = search rules in
    let same_factor = to_z-of_z w128 c.common_factor-factor.result fits_factor in
    let same_fewest = to_z-of_z w128 c.in-Some.fewest fits_fewest in
    let same_ceiling = to_z-of_z w128 c.negated_ceiling-ceiling.result fits_ceiling in
    let quotient : c.negated_ceiling-ceiling.result ≡ int_div_euclid (neg_ℤ c.in-Some.fewest) c.common_factor-factor.result = cc (c.negated_ceiling-ceiling.ensures) in
    let form : total_in c.in_ok-divided_by.field-0 ≡ divided c.common_factor-factor.result (int_div_euclid (neg_ℤ c.in-Some.fewest) c.common_factor-factor.result) (form_of c.args.literal.now.kept.now.sum)
    = cc (c.in_ok-divided_by.ensures) in
    down_measured (form_of k.sum) c.args.literal.now.relation k.bound g c.requires c.common_factor-factor.ensures.above c.common_factor-factor.ensures.reduced
    c.in-Some.fewest (total_in c.in_ok-divided_by.field-0) (sym c.in-Some.ensures) form
