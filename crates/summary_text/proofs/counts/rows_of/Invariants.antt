use Rattle.std.proofs.Common.{◌≡◌, take}
use Rattle.std.specs.Prelude.{sum_by}
use Rattle.summary_text.specs.Summary.{capped, rows_in}
use Rattle.summary_text.proofs.counts.rows_of.Given as goal

abbrev pub invariant-loop-table : goal.invariant-loop-table
invariant-loop-table l = l.rows ≡ capped (sum_by (λ t. rows_in t.body) (take l.table-index l.tables))
