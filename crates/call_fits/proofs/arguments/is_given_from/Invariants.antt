use Rattle.std.proofs.Common.{◌≡◌, nat_eq}
use Rattle.std.specs.Cmp.Lexicographic.{pointwise}
use Rattle.std.specs.List.{list_any}
use Rattle.call_fits.specs.Apart.{names_left}
use Rattle.call_fits.proofs.arguments.is_given_from.Given as goal

abbrev pub invariant-loop-k : goal.invariant-loop-k
invariant-loop-k l = list_any (pointwise nat_eq l.name) (names_left l.parameters l.arguments l.k) ≡ list_any (pointwise nat_eq l.name) (names_left l.parameters l.arguments l.from)
