use Rattle.regular_algebra.specs.Relation.{Joins}
use Rattle.regular_algebra.proofs.Bits.{ClosedTo}
use Rattle.regular_algebra.proofs.relation.BitRelation.closed.Given as goal

-- closed through the points below k
abbrev pub invariant-loop-k : goal.invariant-loop-k
invariant-loop-k l = ClosedTo (Joins l.self) 66 l.k (Joins l.turned)
