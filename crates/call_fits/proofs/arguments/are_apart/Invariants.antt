use Rattle.std.proofs.Common.{◌≡◌}
use Rattle.call_rules.specs.Fits.{are_apart}
use Rattle.call_fits.specs.Apart.{names_left}
use Rattle.call_fits.proofs.arguments.are_apart.Given as goal

abbrev pub invariant-loop-k : goal.invariant-loop-k
invariant-loop-k l = are_apart (names_left l.parameters l.arguments l.k) ≡ are_apart (names_left l.parameters l.arguments 0)
