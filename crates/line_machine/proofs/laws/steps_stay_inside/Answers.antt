use Rattle.il_core.proofs.StepKeeps.{step-kept}
use Rattle.line_machine.proofs.laws.steps_stay_inside.Goals as goal

pub returns : goal.returns
returns c = λ p pc s k r. let t = step-kept p pc s k r in record { in_range = t.in_range; along = t.along; inside = t.inside }
