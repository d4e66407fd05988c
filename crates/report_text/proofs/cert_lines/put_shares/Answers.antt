use Rattle.il_core.specs.declared.certificate.Item.TheVariants.{Up}
use Rattle.form_text.proofs.Putting.{puts_broken, puts_more}
use Rattle.report_text.proofs.CertLines.{share_line}
use Rattle.report_text.proofs.cert_lines.put_shares.Goals as goal

pub returns-in-Err : goal.returns-in-Err
returns-in-Err g c = puts_broken share_line c.args.shares.now c.loop-share.share-index (record { item = Up 0; times = 0 }) c.loop-share-test.true c.loop-share.invariant c.in-Err.ensures

pub loop-share-preserved : goal.loop-share-preserved
loop-share-preserved g c = puts_more share_line c.args.shares.now c.loop-share.share-index (record { item = Up 0; times = 0 }) c.loop-share-test.true c.loop-share.invariant c.in-Ok.ensures
