use Rattle.std.proofs.Common.{sym, ap, ◌∙◌}
use Rattle.il_core.specs.Checked.{procedure_of}
use Rattle.compliance.specs.Behind.{ends_within}
use Rattle.compliance.proofs.Told.{none_told}
use Rattle.compliance.proofs.listing.add_threat.Goals as goal

pub judged-requires-clause-threat : goal.judged-requires-clause-threat
judged-requires-clause-threat c =
    c.requires.hazard.threat (ap (ends_within (procedure_of c.args.proc.now) c.args.leading.now) (sym c.as_slice.ensures) ∙ sym c.ends_within.ensures ∙ c.if-ends_within.false)

pub returns-then-ends_within : goal.returns-then-ends_within
returns-then-ends_within c = λ r e.
    none_told (procedure_of c.args.proc.now) c.args.pc c.args.leading.now c.args.hazard r c.args.found.now e c.requires.hazard.bad
    (ap (ends_within (procedure_of c.args.proc.now) c.args.leading.now) (sym c.as_slice.ensures) ∙ sym c.ends_within.ensures ∙ c.if-ends_within.true)
