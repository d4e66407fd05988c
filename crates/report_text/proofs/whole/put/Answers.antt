use Rattle.form_text.proofs.Putting.{puts_then, puts_failed, puts_short}
use Rattle.report_text.proofs.whole.put.Goals as goal

pub returns-in_err-put_head : goal.returns-in_err-put_head
returns-in_err-put_head g c =
    puts_failed _ c.from_residual.ensures.0 (puts_short _ record {
      text = c.in_err-put_head.ensures.text;
      told = c.in_err-put_head.ensures.told;
      settled = c.in_err-put_head.ensures.settled;
      cause = c.in_err-put_head.ensures.cause;
    })

pub returns-in_err-put_parts : goal.returns-in_err-put_parts
returns-in_err-put_parts g c =
    puts_failed _ c.from_residual-in_err-put_parts.ensures.0 (puts_then {b = c.put_head.new.sink} {x = c.in_ok-put_head.field-0} record {
      text = c.in_ok-put_head.ensures.text;
      told = c.in_ok-put_head.ensures.told;
      settled = c.in_ok-put_head.ensures.settled;
      cause = c.in_ok-put_head.ensures.cause;
    } (rw c.as_slice.ensures at c.in_err-put_parts.ensures))

pub returns : goal.returns
returns g c =
    puts_then (puts_then {b = c.put_head.new.sink} {x = c.in_ok-put_head.field-0} record {
      text = c.in_ok-put_head.ensures.text;
      told = c.in_ok-put_head.ensures.told;
      settled = c.in_ok-put_head.ensures.settled;
      cause = c.in_ok-put_head.ensures.cause;
    } (rw c.as_slice.ensures at c.in_ok-put_parts.ensures))
    record { text = rw c.status_of.ensures at c.put_end.ensures.text; told = c.put_end.ensures.told; settled = c.put_end.ensures.settled; cause = c.put_end.ensures.cause }
