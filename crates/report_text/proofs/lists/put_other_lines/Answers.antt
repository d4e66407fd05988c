use Rattle.std.proofs.Common.{ℕ, codes, ◌++◌}
use Rattle.form_text.specs.Lists.{line_text}
use Rattle.form_text.proofs.Written.{prefix_among}
use Rattle.report_text.proofs.lists.put_other_lines.Goals as goal

pub returns-in-Err-clause-text : goal.returns-in-Err-clause-text
returns-in-Err-clause-text g c =
    prefix_among (λ (n : ℕ). codes " " ++ line_text n) c.args.lines.now c.loop-line.line-index 0 _ _ _ c.loop-line-test.true c.loop-line.invariant.wrote c.in-Err.ensures.text
