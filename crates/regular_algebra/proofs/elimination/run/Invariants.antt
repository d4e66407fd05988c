use Rattle.regular_algebra.specs.Relations.{values_of}
use Rattle.regular_algebra.specs.Run.{AreMade}
use Rattle.regular_algebra.proofs.elimination.run.Given as goal

-- the first k steps are run
abbrev pub invariant-loop-k : goal.invariant-loop-k
invariant-loop-k g l = AreMade g.A.Algebra.is_point g.A.Algebra.joins (values_of l.arcs) l.steps l.last l.k l.made.items
