use Rattle.std.proofs.Common.{◌+◌, ap, sym, ◌∙◌}
use Rattle.std.specs.Prelude.{sum_by}
use Rattle.std.proofs.lemmas.List.{take_all}
use Rattle.report.specs.declared.report.RegionTable.{RegionTable}
use Rattle.summary_text.specs.Summary.{capped, past_in}
use Rattle.summary_text.proofs.Capped.{capped_more}
use Rattle.summary_text.proofs.counts.past_of.Goals as goal

pub loop-table-preserved : goal.loop-table-preserved
loop-table-preserved c =
    c.saturating_add-past.ensures ∙ ap (λ k. capped (c.loop-table.past + k)) c.past_in.ensures
    ∙ ap (λ k. capped (k + past_in c.table-item.result.body)) c.loop-table.invariant
    ∙ sym (capped_more (λ (t : RegionTable). past_in t.body) c.args.tables.now c.loop-table.table-index c.table-item.result c.loop-table-test.true (sym c.table-item.is))

pub returns : goal.returns
returns c = c.loop-table.invariant ∙ ap (λ ts. capped (sum_by (λ (t : RegionTable). past_in t.body) ts)) (take_all c.loop-table.table-index c.args.tables.now c.loop-table-test.false)
