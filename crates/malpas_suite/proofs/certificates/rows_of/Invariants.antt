use Rattle.std.proofs.Common.{take}
use Rattle.report.specs.Certified.{certs_for, AreCertRows}
use Rattle.malpas_suite.proofs.certificates.rows_of.Given as goal

-- the rows of the certificates so far
abbrev pub invariant-loop-cert : goal.invariant-loop-cert
invariant-loop-cert l = AreCertRows l.fn.proc.places l.fn.threats (certs_for l.fn.proc.name (take l.cert-index l.certs)) l.rows
