use Rattle.report_text.specs.Sections.{flow_text}
use Rattle.form_text.proofs.Written.{prefix_among}
use Rattle.report_text.proofs.flows.put_flow_rows.Goals as goal

pub returns-in-Err-clause-text : goal.returns-in-Err-clause-text
returns-in-Err-clause-text g c =
    prefix_among (flow_text c.args.places.now) c.args.rows.now c.loop-row.row-index c.row-item.result _ _ _ c.loop-row-test.true c.loop-row.invariant.wrote
    (rw (← c.row-item.is) c.in-Err.ensures.text)
