use Rattle.typing_laws.proofs.Meaning.{meaning_built}
use Rattle.typing_laws.proofs.laws.meaning_is_built.Goals as goal

pub returns : goal.returns
returns c = meaning_built
