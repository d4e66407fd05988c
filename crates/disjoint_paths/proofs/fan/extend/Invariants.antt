use Rattle.std.proofs.Common.{◌≡◌, ◌++◌, take}
use Rattle.disjoint_paths.proofs.fan.extend.Given as goal

abbrev pub invariant-loop-line : goal.invariant-loop-line
invariant-loop-line l = l.list ≡ l.initial.list ++ take l.line-index l.lines
