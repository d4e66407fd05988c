use Rattle.std.proofs.Common.{◌≡◌, ◌∙◌, sym, length}
use Rattle.std.proofs.lemmas.List.{take_more}
use Rattle.interval_reduce.proofs.Shrinking.{single_push, single_at}
use Rattle.interval_reduce.proofs.levels.are_single.Goals as goal

pub returns-then-len-ne1 : goal.returns-then-len-ne1
returns-then-len-ne1 c = (
  λ e. cc,
  λ s. let l : length (c.interval-item.result).members ≡ 1 = rw (← c.interval-item.is) at (single_at c.args.level.now c.loop-interval.interval-index c.interval-item.result c.loop-interval-test.true s) in
      absurd (c.if-len-ne1.true (c.len.ensures ∙ l)),
)

pub loop-interval-preserved : goal.loop-interval-preserved
loop-interval-preserved c =
    let l : length (c.interval-item.result).members ≡ 1 = sym c.len.ensures ∙ c.if-len-ne1.false in
    rw (take_more c.args.level.now c.loop-interval.interval-index c.interval-item.result c.loop-interval-test.true)
    (single_push _ _ c.loop-interval.invariant (rw (← c.interval-item.is) l))
