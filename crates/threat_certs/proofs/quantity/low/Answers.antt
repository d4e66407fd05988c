use Rattle.std.proofs.Common.{◌≡◌, ◌∙◌, rules, sym, ap, [], Some, pos, SFits}
use Rattle.std.specs.Int.{w128}
use Rattle.std.proofs.lemmas.Int.{to_z-of_z}
use Rattle.std.proofs.lemmas.Option.{slice_get-get_or, slice_get_past}
use Rattle.sym_simplify.specs.Form.{constant, part, place}
use Rattle.threat_certs.specs.Adding.{total_in}
use Rattle.threat_certs.proofs.Measured.{low_measured, no_low}
use Rattle.threat_certs.proofs.quantity.low.Goals as goal

pub returns-in_ok-single-in-Some : goal.returns-in_ok-single-in-Some
returns-in_ok-single-in-Some c =
    let v = c.in-Some.ensures.lookup in
    let there = slice_get-get_or c.args.subject.now.places.now c.args.at c.in-Some.place.now v.3.0 ∙ ap Some (sym v.1) in
    let fits : SFits w128 c.negated_least.result = search rules in
    let same = to_z-of_z w128 c.negated_least.result fits in
    let form : total_in c.in_ok-single-in-Some.field-0 ≡ part (pos 1) (place c.args.at) (constant c.negated_least.result) = cc (c.in_ok-single-in-Some.ensures) in
    low_measured c.args.subject.now.places.now c.args.subject.now.pc [] c.args.at c.in-Some.place.now c.negated_least.result (total_in c.in_ok-single-in-Some.field-0) there
    c.negated_least.ensures.value c.negated_least.ensures.small form

pub returns-in-None : goal.returns-in-None
returns-in-None c = no_low c.args.subject.now.places.now c.args.subject.now.pc [] c.args.at (slice_get_past c.args.subject.now.places.now c.args.at c.in-None.ensures.lookup.3)
