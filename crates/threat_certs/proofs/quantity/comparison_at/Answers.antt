use Rattle.std.proofs.Common.{◌∙◌, sym, ap, subst, Some, arith}
use Rattle.std.proofs.lemmas.Option.{slice_get-get_or, slice_get_past}
use Rattle.threat_certs.specs.Measuring.{IsComparison}
use Rattle.threat_certs.proofs.Measured.{get_side, kept_at, no_comparison}
use Rattle.threat_certs.proofs.quantity.comparison_at.Goals as goal

pub side_at-requires : goal.side_at-requires
side_at-requires c = let l = c.in-Some.ensures.lookup.3.0 in let e = c.requires.sides in omega arith

pub comparison_on-requires : goal.comparison_on-requires
comparison_on-requires c =
    let v = c.in-Some.ensures.lookup in
    let there = slice_get-get_or c.args.subject.now.literals.now c.args.at c.in-Some.literal.now v.3.0 ∙ ap Some (sym v.1) in
    kept_at c.args.subject.now.literals.now c.args.at c.in-Some.literal.now c.requires.kept there

pub returns-in-Some : goal.returns-in-Some
returns-in-Some c =
    let v = c.in-Some.ensures.lookup in
    let there = slice_get-get_or c.args.subject.now.literals.now c.args.at c.in-Some.literal.now v.3.0 ∙ ap Some (sym v.1) in
    subst (λ o. IsComparison o c.comparison_on.result) (sym (get_side c.args.subject.now.literals.now c.args.sides.now c.args.at c.in-Some.literal.now c.side_at.result there c.side_at.ensures)) c.comparison_on.ensures

pub returns-in-None : goal.returns-in-None
returns-in-None c = no_comparison c.args.subject.now.literals.now c.args.sides.now c.args.at (slice_get_past c.args.subject.now.literals.now c.args.at c.in-None.ensures.lookup.3)
