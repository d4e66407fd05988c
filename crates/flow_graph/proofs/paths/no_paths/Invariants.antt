use Rattle.std.proofs.Common.{◌≡◌, [], replicate}
use Rattle.flow_graph.proofs.paths.no_paths.Given as goal

abbrev pub invariant-loop-path : goal.invariant-loop-path
invariant-loop-path l = l.paths.items ≡ replicate l._path []
