use Rattle.il_runs.proofs.Alike.{runs_alike}
use Rattle.il_runs.proofs.laws.expanded_runs_alike.Goals as goal

pub returns : goal.returns
returns c t number p e s wide starts = runs_alike t number p e s wide starts
