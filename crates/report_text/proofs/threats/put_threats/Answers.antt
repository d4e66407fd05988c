use Rattle.form_text.proofs.Putting.{puts_then, puts_failed, puts_short}
use Rattle.report_text.specs.Threats.{counts_text, regions_text, threats_text}
use Rattle.report_text.proofs.threats.put_threats.Goals as goal

pub returns-in_err-put : goal.returns-in_err-put
unfolding threats_text
returns-in_err-put g c = puts_failed (counts_text c.args.tables.now c.args.threats.now) c.from_residual.ensures.0
    (puts_short (regions_text c.args.places.now 0 c.args.tables.now c.args.threats.now) c.in_err-put.ensures)

pub returns-in_err-put_regions : goal.returns-in_err-put_regions
unfolding threats_text
returns-in_err-put_regions g c = puts_failed _ c.from_residual-in_err-put_regions.ensures.0 (puts_then c.in_ok-put.ensures c.in_err-put_regions.ensures)

pub returns : goal.returns
unfolding threats_text
returns g c = puts_then (puts_then c.in_ok-put.ensures c.in_ok-put_regions.ensures) c.put_counts.ensures
