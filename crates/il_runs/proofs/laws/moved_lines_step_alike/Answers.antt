use Rattle.il_runs.proofs.Steps.{moved_alike}
use Rattle.il_runs.proofs.laws.moved_lines_step_alike.Goals as goal

pub returns : goal.returns
returns c number line places wide pc s t i is = moved_alike number line places wide pc s t i is
