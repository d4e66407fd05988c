use Rattle.std.proofs.Common.{length}
use Rattle.il_syntax.proofs.ReadSoFar.{IsReadSoFar}
use Rattle.il_syntax.proofs.statement.statements.Given as goal

abbrev pub invariant-loop-rest : goal.invariant-loop-rest
invariant-loop-rest l = IsReadSoFar l.tokens l.stmts l.rest

abbrev pub decreases-loop-rest : goal.decreases-loop-rest
decreases-loop-rest l = length l.rest
