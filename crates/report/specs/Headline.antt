-- What a report says of the runs of its text's procedures: each region table within its size has exactly one row for each input of its
-- region, and stepping the lines from the input gives the row's stop and values; where a reducible procedure has every table within its size
-- and every threat refuted, no run from the precondition faults, fails an assertion or ends outside the postcondition, and neither where a row
-- tells of each other threat that a certificate for it holds; and ending runs that agree on a variable's reported sources give it equal values.
use Rattle.std.specs.Prelude.{◌≡◌, ◌⊎◌, ℕ, suc, true, List, slice_get, Some, IfSome}
use Rattle.compliance.specs.declared.threat.Threat.{Threat}
use Rattle.compliance.specs.declared.threat.Verdict.TheVariants.{Refuted}
use Rattle.control_flow.specs.declared.control.LoopInfo.{LoopInfo}
use Rattle.il_core.specs.Evaluation.{State, value_at}
use Rattle.il_core.specs.LineGraph.{IsIn}
use Rattle.il_core.specs.Procedure.{Procedure}
use Rattle.il_core.specs.Run.{Ends, HasNoBadRun}
use Rattle.il_core.specs.Text.{TextProcedure, Text}
use Rattle.il_core.specs.declared.certificate.NamedCert.{NamedCert}
use Rattle.il_inline.specs.Expanded.{WholeExpansion}
use Rattle.info_flow.specs.Agreement.{Agree}
use Rattle.info_flow.specs.declared.row.FlowRow.{FlowRow}
use Rattle.semantic_tables.specs.OneRow.{OneRowEach}
use Rattle.report.specs.Reported.{IsReportOfFront}
use Rattle.report.specs.Status.{is_within}
use Rattle.report.specs.declared.report.RegionTable.{RegionTable}
use Rattle.report.specs.declared.report.Analyses.{Analyses}
use Rattle.report.specs.declared.report.CertRow.{CertRow}
use Rattle.report.specs.declared.report.ProcReport.{ProcReport}
use Rattle.report.specs.declared.report.Report.{Report}

-- each table that is within its size has exactly one row for each input of its region, and stepping the lines from the input gives the row's
-- stop and values
abbrev pub HaveOneRow : Procedure → List LoopInfo → List RegionTable → Type 0
HaveOneRow p loops tables = (t : RegionTable) → IsIn tables t → is_within t.body ≡ true → OneRowEach p loops t.pc t.body

abbrev pub InputsHaveOneRow : Procedure → List LoopInfo → Analyses → Type 0
InputsHaveOneRow p loops a = HaveOneRow p loops a.tables

-- no table is past its size
abbrev pub EveryTableIsWithin : Analyses → Type 0
EveryTableIsWithin a = (t : RegionTable) → IsIn a.tables t → is_within t.body ≡ true

abbrev pub EveryThreatIsRefuted : Analyses → Type 0
EveryThreatIsRefuted a = (t : Threat) → IsIn a.threats t → t.verdict ≡ Refuted

-- with every table within its size and every threat refuted, the procedure has no bad run
abbrev pub IsSafeWhereClean : Procedure → List LoopInfo → Analyses → Type 0
IsSafeWhereClean p loops a = EveryTableIsWithin a → EveryThreatIsRefuted a → HasNoBadRun p

-- a row tells that a certificate for the threat with this number holds
pub record HasRow (rows : List CertRow) (number : ℕ) : Type 0 where
  pub row : CertRow
  pub among : IsIn rows row
  pub threat : row.threat ≡ number
  pub holds : row.holds ≡ true

-- each threat, numbered from 1 on, is refuted or has such a row
abbrev pub EveryThreatIsSettled : List CertRow → Analyses → Type 0
EveryThreatIsSettled rows a = (k : ℕ) (t : Threat) → slice_get a.threats k ≡ Some t → (t.verdict ≡ Refuted) ⊎ HasRow rows (suc k)

-- with every table within its size and every threat refuted or certified, the procedure has no bad run
abbrev pub IsSafeWhereSettled : Procedure → List LoopInfo → List CertRow → Analyses → Type 0
IsSafeWhereSettled p loops rows a = EveryTableIsWithin a → EveryThreatIsSettled rows a → HasNoBadRun p

-- two runs that end, and whose initial states agree on the sources of a row, end with equal values of its variable
abbrev pub HasEqualValues : Procedure → FlowRow → Type 0
HasEqualValues p row = (s t to_s to_t : State) → Ends p s to_s → Ends p t to_t → Agree (IsIn row.sources) s t → value_at to_s row.place ≡ value_at to_t row.place

abbrev pub SourcesGiveEqualValues : Procedure → List LoopInfo → Analyses → Type 0
SourcesGiveEqualValues p loops a = (row : FlowRow) → IsIn a.flows row → HasEqualValues p row

-- the sentences of one reducible procedure, with the rows of certificates
pub record TellsOfRuns (p : Procedure) (loops : List LoopInfo) (rows : List CertRow) (a : Analyses) : Type 0 where
  pub one_row : InputsHaveOneRow p loops a
  pub safe : IsSafeWhereClean p loops a
  pub certified : IsSafeWhereSettled p loops rows a
  pub equal_values : SourcesGiveEqualValues p loops a

-- this holds of the analyses of each procedure of a text that a report has, with its rows of certificates; only a reducible one has analyses
abbrev pub OfEach : (Procedure → List LoopInfo → List CertRow → Analyses → Type 0) → Text → Report → Type 0
OfEach Holds t report = (k : ℕ) (p : TextProcedure) (r : ProcReport) → slice_get t.procs k ≡ Some p → slice_get report.procs k ≡ Some r
    → IfSome r.analyses (Holds p.body r.control.loops r.certs)

-- the sentences of a text and its report
abbrev pub TablesHaveOneRowPerInput : Text → Report → Type 0
TablesHaveOneRowPerInput t report = OfEach (λ p loops rows. InputsHaveOneRow p loops) t report

abbrev pub CleanProceduresHaveNoBadRun : Text → Report → Type 0
CleanProceduresHaveNoBadRun t report = OfEach (λ p loops rows. IsSafeWhereClean p loops) t report

abbrev pub SettledProceduresHaveNoBadRun : Text → Report → Type 0
SettledProceduresHaveNoBadRun t report = OfEach IsSafeWhereSettled t report

abbrev pub EndingRunsHaveEqualValues : Text → Report → Type 0
EndingRunsHaveEqualValues t report = OfEach (λ p loops rows. SourcesGiveEqualValues p loops) t report

pub record Headline (t : Text) (report : Report) : Type 0 where
  pub one_row : TablesHaveOneRowPerInput t report
  pub safe : CleanProceduresHaveNoBadRun t report
  pub certified : SettledProceduresHaveNoBadRun t report
  pub equal_values : EndingRunsHaveEqualValues t report

-- no procedure of a text has a bad run: what status 0 means
abbrev pub NoProcedureHasABadRun : Text → Type 0
NoProcedureHasABadRun t = (k : ℕ) (p : TextProcedure) → slice_get t.procs k ≡ Some p → HasNoBadRun p.body

-- a report is that of the first procedures of an expanded text, with rows for these certificates, and says this of their runs
abbrev pub IsTold : List NamedCert → WholeExpansion → Report → Type 0
IsTold certs x report = IsReportOfFront certs x report × Headline x.text report
