-- The definitions of a path report can be read one after the other: each names earlier ones alone, and the whole one of them all.
use Rattle.std.specs.Prelude.{ℕ, ◌<◌, ◌≤◌, List, length}
use Rattle.flow_graph.specs.Graph.{IsWellFormed}
use Rattle.flow_graph.specs.Reached.{IsInnerOrder}
use Rattle.flow_graph.specs.declared.graph.FlowGraph.{FlowGraph}
use Rattle.path_expr.specs.declared.report.PathReport.{PathReport}
use Rattle.path_expr.specs.declared.report.Ref.{Ref}
use Rattle.path_expr.specs.declared.report.Ref.TheVariants as ref
use Rattle.path_expr.specs.declared.report.Def.{Def}
use Rattle.path_expr.specs.declared.report.Def.TheVariants.{Sum, Product, Star}
use Rattle.path_expr.specs.Word.{IsDef}
use Rattle.path_expr.specs.Report.{IsPathReportOf}

-- a reference to a definition is to one of the first n, which count from 1
abbrev pub IsAmongFirst : ℕ → Ref → Type 0
IsAmongFirst n (ref.Def k) = (0 < k) × (k ≤ n)
IsAmongFirst n _ = Unit {0}

abbrev pub NamesAmongFirst : ℕ → Def → Type 0
NamesAmongFirst n (Sum a b) = IsAmongFirst n a × IsAmongFirst n b
NamesAmongFirst n (Product a b) = IsAmongFirst n a × IsAmongFirst n b
NamesAmongFirst n (Star a) = IsAmongFirst n a

-- definition number k + 1 names the first k alone
pub record NamesEarlier (p : PathReport) : Type 0 where
  pub each : (k : ℕ) (d : Def) → IsDef p.defs k d → NamesAmongFirst k d
  pub whole : IsAmongFirst (length p.defs) p.whole

abbrev pub DefinitionsNameEarlierOnes : Type 0
DefinitionsNameEarlierOnes = (g : FlowGraph) (order : List ℕ) (p : PathReport) → IsWellFormed g → IsInnerOrder g order → IsPathReportOf g order p → NamesEarlier p
