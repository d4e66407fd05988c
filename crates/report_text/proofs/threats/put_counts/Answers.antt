use Rattle.std.proofs.Common.{append_assoc}
use Rattle.report_text.specs.Threats.{counts_text}
use Rattle.report_text.proofs.threats.put_counts.Goals as goal

pub returns : goal.returns
unfolding counts_text
returns g c =
    simp append_assoc
    (rw (
      c.as_bytes.ensures.value,
      c.format.ensures.text,
      c.as_bytes-2.ensures.value,
      c.format-2.ensures.text,
      c.as_bytes-3.ensures.value,
      c.format-3.ensures.text,
      c.as_bytes-4.ensures.value,
      c.format-4.ensures.text,
      c.as_bytes-5.ensures.value,
      c.format-5.ensures.text,
      c.refuted_count.ensures,
      c.shown_count.ensures,
      c.open_count.ensures,
      c.past_count.ensures,
    ) at c.put.ensures)
