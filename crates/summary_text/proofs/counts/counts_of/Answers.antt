use Rattle.std.proofs.Common.{ap, sym, ◌∙◌}
use Rattle.std.proofs.lemmas.List.{take_all}
use Rattle.summary_text.specs.Summary.{counts_of, more}
use Rattle.summary_text.proofs.Capped.{counted_more}
use Rattle.summary_text.proofs.counts.counts_of.Goals as goal

pub loop-part-preserved : goal.loop-part-preserved
loop-part-preserved c =
    c.more-counts.ensures ∙ ap (λ n. more n c.part-item.result) c.loop-part.invariant
    ∙ sym (counted_more c.args.procs.now c.loop-part.part-index c.part-item.result c.loop-part-test.true (sym c.part-item.is))

pub returns : goal.returns
returns c = c.loop-part.invariant ∙ ap counts_of (take_all c.loop-part.part-index c.args.procs.now c.loop-part-test.false)
