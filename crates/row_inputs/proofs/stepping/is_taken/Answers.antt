use Rattle.std.proofs.Common.{◌≡◌, ap, ◌∙◌, ◌+◌, ◌++◌, length}
use Rattle.row_inputs.proofs.stepping.is_taken.Goals as goal

pub returns : goal.returns
returns c = λ loops marks.
    let vals : c.deref_mut.result.now ≡ c.args.input.now =
    c.deref_mut.ensures.value ∙ c.in_ok-extend_from_slice.ensures.items ∙ ap (λ l. l ++ c.args.input.now) c.new-vals.ensures.items in
    let room : c.len-room.result + 1 ≡ length c.args.proc.now.lines + 1 = ap (λ n. n + 1) (c.len-room.ensures ∙ ap length c.lines.ensures.value) in
    rw (vals, room) at (c.takes.ensures loops marks)
