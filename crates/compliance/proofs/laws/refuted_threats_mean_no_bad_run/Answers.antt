use Rattle.semantic_tables.specs.Row.{forms_of}
use Rattle.compliance.proofs.NoBadRun.{refuted_unmet}
use Rattle.compliance.proofs.laws.refuted_threats_mean_no_bad_run.Goals as goal

pub returns : goal.returns
returns c = λ p loops k regions refuted.
    c.unmet_threats_mean_no_bad_run.ensures p loops k regions (λ pc r i t. refuted_unmet p.places pc (forms_of r) (refuted pc r i t))
