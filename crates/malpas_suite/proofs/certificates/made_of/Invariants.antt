use Rattle.malpas_suite.proofs.Rows.{AreMadeTo}
use Rattle.malpas_suite.proofs.certificates.made_of.Given as goal

-- the certificates of the threats so far
abbrev pub invariant-loop-at : goal.invariant-loop-at
invariant-loop-at l = AreMadeTo l.fn.proc.name l.fn.proc.places l.threats l.at l.made
