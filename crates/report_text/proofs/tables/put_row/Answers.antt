use Rattle.form_text.proofs.Putting.{puts_then, puts_failed, puts_short}
use Rattle.report_text.specs.Tables.{row_text}
use Rattle.report_text.proofs.tables.put_row.Goals as goal

pub returns-in_err-put_numbered : goal.returns-in_err-put_numbered
unfolding row_text
returns-in_err-put_numbered g c = puts_failed _ c.from_residual.ensures.0 (puts_short _ (puts_short _ (puts_short _ (rw c.as_slice.ensures at c.in_err-put_numbered.ensures))))

pub returns-in_err-put : goal.returns-in_err-put
unfolding row_text
returns-in_err-put g c = puts_failed _ c.from_residual-in_err-put.ensures.0 (puts_short _ (puts_short _ (puts_then (rw c.as_slice.ensures at c.in_ok-put_numbered.ensures) c.in_err-put.ensures)))

pub returns-in_err-put_literal_lines : goal.returns-in_err-put_literal_lines
unfolding row_text
returns-in_err-put_literal_lines g c = puts_failed _ c.from_residual-in_err-put_literal_lines.ensures.0 (puts_short _ (puts_then (puts_then (rw c.as_slice.ensures at c.in_ok-put_numbered.ensures) c.in_ok-put.ensures) (rw c.as_slice-2.ensures at c.in_err-put_literal_lines.ensures)))

pub returns-in_err-put_stop : goal.returns-in_err-put_stop
unfolding row_text
returns-in_err-put_stop g c = puts_failed _ c.from_residual-in_err-put_stop.ensures.0 (puts_then (puts_then (puts_then (rw c.as_slice.ensures at c.in_ok-put_numbered.ensures) c.in_ok-put.ensures) (rw c.as_slice-2.ensures at c.in_ok-put_literal_lines.ensures)) c.in_err-put_stop.ensures)

pub returns : goal.returns
unfolding row_text
returns g c = puts_then (puts_then (puts_then (puts_then (rw c.as_slice.ensures at c.in_ok-put_numbered.ensures) c.in_ok-put.ensures) (rw c.as_slice-2.ensures at c.in_ok-put_literal_lines.ensures)) c.in_ok-put_stop.ensures) (rw c.as_slice-3.ensures at c.put_value_lines.ensures)
