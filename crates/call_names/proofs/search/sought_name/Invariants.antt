use Rattle.std.proofs.Common.{◌≡◌, ◌++◌, drop}
use Rattle.call_names.specs.Search.{is_among}
use Rattle.call_names.proofs.search.sought_name.Given as goal

abbrev pub invariant-loop-name : goal.invariant-loop-name
invariant-loop-name l = is_among (drop l.name-index l.sought) (l.stem ++ l.last) ≡ is_among l.sought (l.stem ++ l.last)
