-- The report of a procedure: its name, places, lines and arcs, its control structure and its reduction by intervals, and, exactly where it is
-- reducible, its paths, the use of its variables, the flow of information, the slice for each variable, the table of each region with the test inputs
-- of its rows, and the threats with their verdicts, with a certificate for each that is refuted. It has a row for each of the given certificates that
-- names it. The report of an expanded text, or of its first procedures, has the text's title and profile, and tells of each procedure the lines that
-- stand for each of its calls, with the name of the procedure called.
use Rattle.std.specs.Prelude.{◌≡◌, ◌≤◌, ℕ, List, [], ◌∷◌, length, map, take, Option, None, Some, IfSome, unwrap_or, slice_get}
use Rattle.std.specs.Option.{option_map}
use Rattle.compliance.specs.Safe.{AreThreatsOf}
use Rattle.control_flow.specs.Control.{IsControlOf}
use Rattle.control_flow.specs.declared.control.LoopInfo.{LoopInfo}
use Rattle.control_flow.specs.declared.control.Shape.{Shape}
use Rattle.control_flow.specs.declared.control.Shape.TheVariants.{Reducible, TwoEntries}
use Rattle.data_use.specs.Facts.{IsUseRow, variables_from, place_of}
use Rattle.data_use.specs.declared.row.UseRow.{UseRow}
use Rattle.flow_graph.specs.Graph.{graph_of}
use Rattle.il_core.specs.LineGraph.{IsIn}
use Rattle.il_core.specs.Procedure.{Procedure}
use Rattle.il_called.specs.declared.called.CallSpan.{CallSpan}
use Rattle.il_core.specs.Text.{TextProcedure}
use Rattle.il_core.specs.declared.certificate.NamedCert.{NamedCert}
use Rattle.il_inline.specs.Expanded.{WholeExpansion}
use Rattle.info_flow.specs.Sources.{AreFlows}
use Rattle.interval_reduce.specs.Derivation.{IsDerivationOf, Reduces}
use Rattle.path_expr.specs.Report.{IsPathReportOf, WordsArePaths}
use Rattle.region_paths.specs.Region.{first_lines}
use Rattle.semantic_tables.specs.Table.{IsTable}
use Rattle.report.specs.Inputs.{AreInputs}
use Rattle.report.specs.Certified.{certs_for, threats_in, AreCertRows, AreMade}
use Rattle.report.specs.Sliced.{AreSlices}
use Rattle.report.specs.declared.report.RegionTable.{RegionTable}
use Rattle.report.specs.declared.report.Analyses.{Analyses}
use Rattle.report.specs.declared.report.CallLine.{CallLine}
use Rattle.report.specs.declared.report.ProcReport.{ProcReport}
use Rattle.report.specs.declared.report.Report.{Report}

-- one table for each region, by their first lines
pub record AreTables (p : Procedure) (loops : List LoopInfo) (tables : List RegionTable) : Type 0 where
  pub regions : map (λ t. t.pc) tables ≡ first_lines loops
  pub each : (t : RegionTable) → IsIn tables t → IsTable p loops t.pc t.body

-- the analyses of a reducible procedure with these loops, whose lines are taken into intervals in this order
pub record AreAnalyses (p : Procedure) (loops : List LoopInfo) (order : List ℕ) (a : Analyses) : Type 0 where
  pub paths : IsPathReportOf (graph_of p) order a.paths
  pub words : WordsArePaths (graph_of p) a.paths
  pub used_variables : map place_of a.usage ≡ variables_from 0 p.places
  pub usage : (row : UseRow) → IsIn a.usage row → IsUseRow (graph_of p) row
  pub flows : AreFlows (graph_of p) p.places a.flows
  pub slices : AreSlices (graph_of p) p.places a.slices
  pub tables : AreTables p loops a.tables
  pub inputs : AreInputs p loops a.tables a.inputs
  pub threats : AreThreatsOf p loops (first_lines loops) a.threats

-- they are there exactly where the shape is reducible
abbrev pub AreAnalysesBy : Procedure → List LoopInfo → Shape → List ℕ → Option Analyses → Type 0
AreAnalysesBy p loops Reducible order None = ⊥
AreAnalysesBy p loops Reducible order (Some a) = AreAnalyses p loops order a
AreAnalysesBy p loops (TwoEntries e) order None = Unit {0}
AreAnalysesBy p loops (TwoEntries e) order (Some a) = ⊥

-- the report of a procedure, with rows for those of these certificates that name it
pub record IsProcReportOf (certs : List NamedCert) (p : TextProcedure) (r : ProcReport) : Type 0 where
  pub name : r.name ≡ p.name
  pub places : r.places ≡ p.body.places
  pub lines : r.lines ≡ length p.body.lines
  pub arcs : r.arcs ≡ (graph_of p.body).arcs
  pub control : IsControlOf (graph_of p.body) r.control
  pub derivation : IsDerivationOf (graph_of p.body) r.control.shape r.derivation
  pub reduces : Reduces (graph_of p.body) r.control.shape r.derivation
  pub analyses : AreAnalysesBy p.body r.control.loops r.control.shape r.derivation.order r.analyses
  pub made : IfSome r.analyses (λ a. AreMade p.name p.body.places a.threats a.made)
  pub rows : AreCertRows p.body.places (threats_in r.analyses) (certs_for p.name certs) r.certs

-- one report for each procedure
abbrev pub AreProcReportsOf : List NamedCert → List TextProcedure → List ProcReport → Type 0
AreProcReportsOf certs [] [] = Unit {0}
AreProcReportsOf certs [] (r ∷ rs) = ⊥
AreProcReportsOf certs (p ∷ ps) [] = ⊥
AreProcReportsOf certs (p ∷ ps) (r ∷ rs) = IsProcReportOf certs p r × AreProcReportsOf certs ps rs

-- the name of the procedure of a number, counted from 0
abbrev pub name_at : List TextProcedure → ℕ → List ℕ
name_at procs k = unwrap_or (option_map (λ (p : TextProcedure). p.name) (slice_get procs k)) []

-- the lines of a call, with the name of the procedure called
abbrev pub call_line : List TextProcedure → CallSpan → CallLine
call_line procs span = record { first = span.first; last = span.last; callee = name_at procs span.callee }

-- the calls of each procedure of an expanded text
abbrev pub call_lines : WholeExpansion → List (List CallLine)
call_lines x = map (map (call_line x.text.procs)) x.spans

-- the report of the first procedures of an expanded text, as many as it holds
pub record IsReportOfFront (certs : List NamedCert) (x : WholeExpansion) (r : Report) : Type 0 where
  pub title : r.title ≡ x.text.title
  pub profile : r.profile ≡ x.text.profile
  pub few : length r.procs ≤ length x.text.procs
  pub procs : AreProcReportsOf certs (take (length r.procs) x.text.procs) r.procs
  pub calls : map (λ (p : ProcReport). p.calls) r.procs ≡ take (length r.procs) (call_lines x)

-- the report of all procedures of an expanded text
pub record IsReportOf (certs : List NamedCert) (x : WholeExpansion) (r : Report) : Type 0 where
  pub title : r.title ≡ x.text.title
  pub profile : r.profile ≡ x.text.profile
  pub procs : AreProcReportsOf certs x.text.procs r.procs
  pub calls : map (λ (p : ProcReport). p.calls) r.procs ≡ call_lines x
