use Rattle.std.proofs.Common.{append_assoc}
use Rattle.report_text.specs.Report.{title_text}
use Rattle.report_text.proofs.part.put_title.Goals as goal

pub returns : goal.returns
unfolding title_text
returns g c = simp append_assoc (rw (c.as_bytes.ensures.value, c.as_bytes-2.ensures.value, c.format.ensures.text) at c.put.ensures)
