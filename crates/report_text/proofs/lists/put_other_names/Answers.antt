use Rattle.std.proofs.Common.{ℕ, codes, ◌++◌}
use Rattle.form_text.specs.Lists.{place_at}
use Rattle.form_text.proofs.Written.{prefix_among}
use Rattle.report_text.proofs.lists.put_other_names.Goals as goal

pub returns-in-Err-clause-text : goal.returns-in-Err-clause-text
returns-in-Err-clause-text g c =
    prefix_among (λ (n : ℕ). codes " " ++ place_at c.args.places.now n) c.args.numbers.now c.loop-at.at-index 0 _ _ _ c.loop-at-test.true c.loop-at.invariant.wrote
    c.in-Err.ensures.text
