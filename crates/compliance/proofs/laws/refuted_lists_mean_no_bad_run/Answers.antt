use Rattle.region_paths.specs.Region.{first_lines}
use Rattle.compliance.proofs.SafeLists.{listed_refuted}
use Rattle.compliance.proofs.laws.refuted_lists_mean_no_bad_run.Goals as goal

pub returns : goal.returns
returns c = λ p loops ts k regions a size all.
    c.unmet_lists_mean_no_bad_run.ensures p loops ts k regions a size (λ t i. listed_refuted p loops (first_lines loops) ts a t i (all t i))
