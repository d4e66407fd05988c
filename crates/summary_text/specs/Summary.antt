-- The summary of a report on a made text is nine lines: the number of the text, and over all procedures of the report the numbers of lines,
-- regions, rows of tables, threats, refuted, shown and open threats, and regions past their size.
use Rattle.std.specs.Prelude.{ℕ, ◌+◌, ◌-◌, ◌^◌, min, Bool, true, false, List, [], ◌∷◌, ◌++◌, length, codes, count_by, decimal, sum_by, None, Some}
use Rattle.std.specs.List.{concat}
use Rattle.compliance.specs.declared.threat.Threat.{Threat}
use Rattle.compliance.specs.declared.threat.Verdict.{Verdict}
use Rattle.compliance.specs.declared.threat.Verdict.TheVariants.{Refuted, Shown, Open}
use Rattle.semantic_tables.specs.declared.row.TableOr.{TableOr}
use Rattle.semantic_tables.specs.declared.row.TableOr.TheVariants.{Table, Past}
use Rattle.report.specs.Status.{is_refuted}
use Rattle.report.specs.declared.report.RegionTable.{RegionTable}
use Rattle.report.specs.declared.report.ProcReport.{ProcReport}
use Rattle.report.specs.declared.report.Report.{Report}
use Rattle.summary_text.specs.declared.counts.Counts.{Counts}

-- the tables and the threats of a procedure; one that is not reducible has none
abbrev pub tables_of : ProcReport → List RegionTable
tables_of p = elim p.analyses [ None ↦ [] | Some a ↦ a.tables ]

abbrev pub threats_of : ProcReport → List Threat
threats_of p = elim p.analyses [ None ↦ [] | Some a ↦ a.threats ]

-- the rows of a table; a region past its size has none
abbrev pub rows_in : TableOr → ℕ
rows_in (Table rows) = length rows
rows_in (Past limit) = 0

-- one for a region past its size
abbrev pub past_in : TableOr → ℕ
past_in (Table rows) = 0
past_in (Past limit) = 1

abbrev pub is_shown : Verdict → Bool
is_shown Refuted = false
is_shown (Shown s) = true
is_shown (Open i) = false

abbrev pub is_open : Verdict → Bool
is_open Refuted = false
is_open (Shown s) = false
is_open (Open i) = true

-- a number, or the greatest of 64 bits where it is more
abbrev pub capped : ℕ → ℕ
capped n = min n (2 ^ 64 - 1)

-- the numbers, summed over procedures
abbrev pub counts_of : List ProcReport → Counts
counts_of procs = record {
  lines = capped (sum_by (λ p. p.lines) procs);
  regions = capped (sum_by (λ p. length (tables_of p)) procs);
  rows = capped (sum_by (λ p. sum_by (λ t. rows_in t.body) (tables_of p)) procs);
  threats = capped (sum_by (λ p. length (threats_of p)) procs);
  refuted = capped (sum_by (λ p. count_by (λ t. is_refuted t.verdict) (threats_of p)) procs);
  shown = capped (sum_by (λ p. count_by (λ t. is_shown t.verdict) (threats_of p)) procs);
  left_open = capped (sum_by (λ p. count_by (λ t. is_open t.verdict) (threats_of p)) procs);
  past = capped (sum_by (λ p. sum_by (λ t. past_in t.body) (tables_of p)) procs);
}

-- the numbers with those of one more procedure
abbrev pub more : Counts → ProcReport → Counts
more c p = record {
  lines = capped (c.lines + p.lines);
  regions = capped (c.regions + length (tables_of p));
  rows = capped (c.rows + capped (sum_by (λ t. rows_in t.body) (tables_of p)));
  threats = capped (c.threats + length (threats_of p));
  refuted = capped (c.refuted + count_by (λ t. is_refuted t.verdict) (threats_of p));
  shown = capped (c.shown + count_by (λ t. is_shown t.verdict) (threats_of p));
  left_open = capped (c.left_open + count_by (λ t. is_open t.verdict) (threats_of p));
  past = capped (c.past + capped (sum_by (λ t. past_in t.body) (tables_of p)));
}

-- the first four lines
unfoldable pub sizes_text : ℕ → Counts → List ℕ
sizes_text n c = concat (codes "GENERATED " ∷ decimal n ∷ codes "\nLINES " ∷ decimal c.lines ∷ codes "\nREGIONS " ∷ decimal c.regions ∷ codes "\nROWS " ∷ decimal c.rows ∷ codes "\n" ∷ [])

-- the last five lines
unfoldable pub verdicts_text : Counts → List ℕ
verdicts_text c = concat (codes "THREATS " ∷ decimal c.threats ∷ codes "\nFALSE " ∷ decimal c.refuted ∷ codes "\nSHOWN " ∷ decimal c.shown ∷ codes "\nOPEN " ∷ decimal c.left_open
    ∷ codes "\nPAST " ∷ decimal c.past ∷ codes "\n" ∷ [])

abbrev pub summary_text : ℕ → Report → List ℕ
summary_text n report = sizes_text n (counts_of report.procs) ++ verdicts_text (counts_of report.procs)
