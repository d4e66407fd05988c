use Rattle.call_sound.proofs.Fits.{calls_fit}
use Rattle.call_sound.proofs.laws.calls_fit.Goals as goal

pub returns : goal.returns
returns c = calls_fit
