use Rattle.std.proofs.Common.{codes}
use Rattle.std.specs.List.{flat_map}
use Rattle.form_text.proofs.Putting.{puts_then, puts_failed, puts_short, puts_as}
use Rattle.report_text.proofs.CertLines.{share_line, sum_text}
use Rattle.report_text.proofs.cert_lines.put_sum.Goals as goal

pub returns-in_err-put : goal.returns-in_err-put
returns-in_err-put g c =
    puts_as (sum_text c.args.shares.now)
    (puts_failed (codes "END\n") c.from_residual.ensures.0 (puts_short (flat_map share_line c.args.shares.now) c.in_err-put.ensures))

pub returns-in_err-put_shares : goal.returns-in_err-put_shares
returns-in_err-put_shares g c =
    puts_as (sum_text c.args.shares.now)
    (puts_failed (codes "END\n") c.from_residual-in_err-put_shares.ensures.0 (puts_then c.in_ok-put.ensures c.in_err-put_shares.ensures))

pub returns : goal.returns
returns g c = puts_as (sum_text c.args.shares.now) (puts_then (puts_then c.in_ok-put.ensures c.in_ok-put_shares.ensures) c.put-2.ensures)
