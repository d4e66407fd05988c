use Rattle.form_text.proofs.Putting.{puts_then, puts_failed, puts_short}
use Rattle.report_text.specs.Slices.{slice_text}
use Rattle.report_text.proofs.slices.put_slice.Goals as goal

pub returns-in_err-put_variable : goal.returns-in_err-put_variable
unfolding slice_text
returns-in_err-put_variable g c = puts_failed _ c.from_residual.ensures.0 (puts_short _ (puts_short _ (puts_short _ c.in_err-put_variable.ensures)))

pub returns-in_err-put_kept : goal.returns-in_err-put_kept
unfolding slice_text
returns-in_err-put_kept g c =
    puts_failed _ c.from_residual-in_err-put_kept.ensures.0 (puts_short _ (puts_short _ (puts_then c.in_ok-put_variable.ensures (rw c.as_slice.ensures at c.in_err-put_kept.ensures))))

pub returns-in_err-put : goal.returns-in_err-put
unfolding slice_text
returns-in_err-put g c =
    puts_failed _ c.from_residual-in_err-put.ensures.0
    (puts_short _ (puts_then (puts_then c.in_ok-put_variable.ensures (rw c.as_slice.ensures at c.in_ok-put_kept.ensures)) c.in_err-put.ensures))

pub returns-in_err-put_fixes : goal.returns-in_err-put_fixes
unfolding slice_text
returns-in_err-put_fixes g c =
    puts_failed _ c.from_residual-in_err-put_fixes.ensures.0
    (puts_then (puts_then (puts_then c.in_ok-put_variable.ensures (rw c.as_slice.ensures at c.in_ok-put_kept.ensures)) c.in_ok-put.ensures) (rw c.as_slice-2.ensures at c.in_err-put_fixes.ensures))

pub returns : goal.returns
unfolding slice_text
returns g c =
    puts_then
    (puts_then (puts_then (puts_then c.in_ok-put_variable.ensures (rw c.as_slice.ensures at c.in_ok-put_kept.ensures)) c.in_ok-put.ensures) (rw c.as_slice-2.ensures at c.in_ok-put_fixes.ensures))
    c.put-2.ensures
