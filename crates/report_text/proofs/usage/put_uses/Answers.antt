use Rattle.report_text.specs.Sections.{use_text}
use Rattle.form_text.proofs.Written.{prefix_among}
use Rattle.report_text.proofs.usage.put_uses.Goals as goal

pub returns-in-Err-clause-text : goal.returns-in-Err-clause-text
returns-in-Err-clause-text g c =
    prefix_among (use_text c.args.places.now) c.args.rows.now c.loop-row.row-index _ _ _ _ c.loop-row-test.true c.loop-row.invariant.wrote
    c.in-Err.ensures.text
