use Rattle.std.proofs.Common.{◌∙◌, sym, subst}
use Rattle.il_core.specs.Checked.{procedure_of}
use Rattle.il_core.specs.Places.{AreCheckedPlaces}
use Rattle.il_core.proofs.Inputs.{checked-places}
use Rattle.semantic_tables.proofs.refuting.solved.Goals as goal

pub least_input-requires-clause-places : goal.least_input-requires-clause-places
least_input-requires-clause-places c =
    subst AreCheckedPlaces (sym (c.as_slice.ensures ∙ c.places.ensures.value)) (checked-places (procedure_of c.args.exploration.proc.now) c.places.ensures.checked)
