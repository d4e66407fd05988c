use Rattle.il_runs.proofs.Values.{same_value}
use Rattle.il_runs.proofs.laws.renumbered_have_same_value.Goals as goal

pub returns : goal.returns
returns c number count s t e names each = same_value number count s t each e names
