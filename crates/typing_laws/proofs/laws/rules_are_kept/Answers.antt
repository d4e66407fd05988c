use Rattle.typing_laws.proofs.Keeping.{rules_are_kept}
use Rattle.typing_laws.proofs.laws.rules_are_kept.Goals as goal

pub returns : goal.returns
returns c = rules_are_kept
