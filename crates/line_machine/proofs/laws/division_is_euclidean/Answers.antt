use Rattle.il_core.proofs.Integers.{euclid, remainder-low, remainder-high}
use Rattle.line_machine.proofs.laws.division_is_euclidean.Goals as goal

pub returns : goal.returns
returns c = λ a b n. record { whole = euclid a b n; low = remainder-low a b n; high = remainder-high a b n }
