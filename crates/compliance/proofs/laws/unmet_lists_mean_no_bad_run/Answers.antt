use Rattle.compliance.proofs.SafeLists.{all_unmet}
use Rattle.compliance.proofs.laws.unmet_lists_mean_no_bad_run.Goals as goal

pub returns : goal.returns
returns c = λ p loops ts k regions a size all. c.unmet_threats_mean_no_bad_run.ensures p loops k regions (all_unmet p loops ts c.one_listing.ensures a size all)
