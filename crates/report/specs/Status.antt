-- A report is clean, and its status is 0, exactly where every procedure is reducible, no table is past its size, every threat is refuted or a
-- certificate that was read holds for it, and every certificate that was read holds; else its status is 1.
use Rattle.std.specs.Prelude.{ℕ, suc, ◌==◌, Bool, true, false, ◌&&◌, ◌||◌, List, [], ◌∷◌, Option, None, Some, if◌then◌else◌}
use Rattle.std.specs.List.{list_all, list_any}
use Rattle.control_flow.specs.declared.control.Shape.{Shape}
use Rattle.control_flow.specs.declared.control.Shape.TheVariants.{Reducible, TwoEntries}
use Rattle.semantic_tables.specs.declared.row.TableOr.{TableOr}
use Rattle.semantic_tables.specs.declared.row.TableOr.TheVariants.{Table, Past}
use Rattle.compliance.specs.declared.threat.Threat.{Threat}
use Rattle.compliance.specs.declared.threat.Verdict.{Verdict}
use Rattle.compliance.specs.declared.threat.Verdict.TheVariants.{Refuted, Shown, Open}
use Rattle.report.specs.declared.report.RegionTable.{RegionTable}
use Rattle.report.specs.declared.report.Analyses.{Analyses}
use Rattle.report.specs.declared.report.CertRow.{CertRow}
use Rattle.report.specs.declared.report.ProcReport.{ProcReport}
use Rattle.report.specs.declared.report.Report.{Report}

abbrev pub is_reducible : Shape → Bool
is_reducible Reducible = true
is_reducible (TwoEntries e) = false

-- a table that is there, so that its region is within its size
abbrev pub is_within : TableOr → Bool
is_within (Table rows) = true
is_within (Past limit) = false

abbrev pub is_refuted : Verdict → Bool
is_refuted Refuted = true
is_refuted (Shown s) = false
is_refuted (Open i) = false

abbrev pub are_within : List RegionTable → Bool
are_within tables = list_all (λ t. is_within t.body) tables

-- a certificate holds for the threat with this number
abbrev pub is_certified : List CertRow → ℕ → Bool
is_certified rows n = list_any (λ row. row.holds && (row.threat == n)) rows

abbrev pub is_settled : List CertRow → ℕ → Threat → Bool
is_settled rows n t = is_refuted t.verdict || is_certified rows n

-- each of the threats, which are numbered from n on, is refuted or certified
abbrev pub are_settled_from : List CertRow → ℕ → List Threat → Bool
are_settled_from rows n [] = true
are_settled_from rows n (t ∷ ts) = is_settled rows n t && are_settled_from rows (suc n) ts

-- what is told of a procedure has no table past its size and no threat that is neither refuted nor certified
abbrev pub are_clean : List CertRow → Option Analyses → Bool
are_clean rows None = true
are_clean rows (Some a) = are_within a.tables && are_settled_from rows 1 a.threats

abbrev pub all_hold : List CertRow → Bool
all_hold rows = list_all (λ row. row.holds) rows

abbrev pub is_clean : ProcReport → Bool
is_clean r = is_reducible r.control.shape && all_hold r.certs && are_clean r.certs r.analyses

abbrev pub status_of : Report → ℕ
status_of report = if list_all is_clean report.procs then 0 else 1
