use Rattle.std.proofs.Common.{ap, length, ◌+◌, ℕ, List}
use Rattle.call_fits.proofs.longest.front_length.Goals as goal

pub returns-clause-value : goal.returns-clause-value
returns-clause-value c = ap (λ (l : List ℕ). length l + 2) c.format.ensures.text
