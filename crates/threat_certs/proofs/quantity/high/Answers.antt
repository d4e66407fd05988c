use Rattle.std.proofs.Common.{◌≡◌, ◌∙◌, rules, sym, ap, [], Some, negsuc, SFits}
use Rattle.std.specs.Int.{w128}
use Rattle.std.proofs.lemmas.Int.{to_z-of_z}
use Rattle.std.proofs.lemmas.Option.{slice_get-get_or, slice_get_past}
use Rattle.sym_simplify.specs.Form.{constant, part, place}
use Rattle.threat_certs.specs.Adding.{total_in}
use Rattle.threat_certs.proofs.Measured.{high_measured, no_high}
use Rattle.threat_certs.proofs.quantity.high.Goals as goal

pub returns-in_ok-single-in-Some : goal.returns-in_ok-single-in-Some
returns-in_ok-single-in-Some c =
    let v = c.in-Some.ensures.lookup in
    let there = slice_get-get_or c.args.subject.now.places.now c.args.at c.in-Some.place.now v.3.0 ∙ ap Some (sym v.1) in
    let fits : SFits w128 c.greatest_of.result = search rules in
    let same = to_z-of_z w128 c.greatest_of.result fits in
    let form : total_in c.in_ok-single-in-Some.field-0 ≡ part (negsuc 0) (place c.args.at) (constant c.greatest_of.result) = cc (c.in_ok-single-in-Some.ensures) in
    high_measured c.args.subject.now.places.now c.args.subject.now.pc [] c.args.at c.in-Some.place.now c.greatest_of.result (total_in c.in_ok-single-in-Some.field-0) there
    c.greatest_of.ensures.value c.greatest_of.ensures.small form

pub returns-in-None : goal.returns-in-None
returns-in-None c = no_high c.args.subject.now.places.now c.args.subject.now.pc [] c.args.at (slice_get_past c.args.subject.now.places.now c.args.at c.in-None.ensures.lookup.3)
