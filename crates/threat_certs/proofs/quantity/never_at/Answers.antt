use Rattle.std.proofs.Common.{◌∙◌, sym, ap, Some}
use Rattle.std.proofs.lemmas.Option.{slice_get-get_or, slice_get_past}
use Rattle.threat_certs.proofs.Measured.{never_at, no_never_at}
use Rattle.threat_certs.proofs.quantity.never_at.Goals as goal

pub returns-in-Some : goal.returns-in-Some
returns-in-Some c = λ sides same.
    let v = c.in-Some.ensures.lookup in
    let there = slice_get-get_or c.args.subject.now.literals.now c.args.at c.in-Some.literal.now v.3.0 ∙ ap Some (sym v.1) in
    never_at c.args.subject.now.places.now c.args.subject.now.pc c.args.subject.now.literals.now sides same c.args.at c.in-Some.literal.now c.never_total.result there c.never_total.ensures

pub returns-in-None : goal.returns-in-None
returns-in-None c = λ sides same.
    no_never_at c.args.subject.now.places.now c.args.subject.now.pc c.args.subject.now.literals.now sides same c.args.at
    (slice_get_past c.args.subject.now.literals.now c.args.at c.in-None.ensures.lookup.3)
