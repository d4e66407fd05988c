use Rattle.malpas_suite.proofs.Rows.{rows_next}
use Rattle.malpas_suite.proofs.certificates.rows_of.Goals as goal

pub loop-cert-preserved : goal.loop-cert-preserved
loop-cert-preserved c =
    let added = c.in_ok-add_row.ensures in
    rows_next c.args.proc.now.places c.args.threats.now c.args.proc.now.name c.args.certs.now c.loop-cert.cert-index c.cert-item.result c.loop-cert.rows c.add_row.new.rows added.0
    c.loop-cert-test.true c.cert-item.is c.loop-cert.invariant added.1 added.2
