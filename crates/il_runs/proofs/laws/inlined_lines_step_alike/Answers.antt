use Rattle.il_runs.proofs.Steps.{inlined_alike}
use Rattle.il_runs.proofs.laws.inlined_lines_step_alike.Goals as goal

pub returns : goal.returns
returns c number line places wide pc s t i is = inlined_alike number line places wide pc s t i is
