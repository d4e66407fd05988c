-- Where each table is within its size no region is past it, so that refuted threats leave no bad run.
use Rattle.std.proofs.Common.{◌≡◌, ℕ, true, None, List, sym, subst}
use Rattle.std.proofs.lemmas.Bool.{false≢true}
use Rattle.compliance.specs.Safe.{IsSafeWhereRefuted}
use Rattle.compliance.specs.declared.threat.Threat.{Threat}
use Rattle.compliance.specs.declared.threat.Verdict.TheVariants.{Refuted}
use Rattle.control_flow.specs.declared.control.LoopInfo.{LoopInfo}
use Rattle.flow_graph.proofs.Members.{IsIn-from_map}
use Rattle.il_core.specs.LineGraph.{IsIn}
use Rattle.il_core.specs.Procedure.{Procedure}
use Rattle.il_core.specs.Run.{HasNoBadRun}
use Rattle.region_paths.specs.Region.{first_lines}
use Rattle.region_paths.specs.Size.{IsPast}
use Rattle.semantic_tables.specs.Table.{IsTable}
use Rattle.semantic_tables.specs.declared.row.TableOr.{TableOr}
use Rattle.semantic_tables.specs.declared.row.TableOr.TheVariants.{Table, Past}
use Rattle.report.specs.Reported.{AreTables}
use Rattle.report.specs.Status.{is_within}
use Rattle.report.specs.declared.report.RegionTable.{RegionTable}
use Rattle.malpas_suite.proofs.Regions.{first_of}

-- a region whose table is within its size is not past it
not_past : (p : Procedure) (loops : List LoopInfo) (pc : ℕ) (body : TableOr) → is_within body ≡ true → IsTable p loops pc body → IsPast p loops pc None
not_past p loops pc (Table rows) within table = table.0
not_past p loops pc (Past limit) within table = absurd (false≢true within)

-- where each table is within its size, none is
pub none_past : (p : Procedure) (loops : List LoopInfo) (tables : List RegionTable) → AreTables p loops tables → ((t : RegionTable) → IsIn tables t → is_within t.body ≡ true)
    → (pc : ℕ) → IsIn (first_lines loops) pc → IsPast p loops pc None
none_past p loops tables made within pc first =
    let found = IsIn-from_map first_of tables pc (subst (λ lines. IsIn lines pc) (sym made.regions) first) in
    subst (λ q. IsPast p loops q None) found.2 (not_past p loops found.0.pc found.0.body (within found.0 found.1) (made.each found.0 found.1))

pub safe_where_clean : (p : Procedure) (loops : List LoopInfo) (tables : List RegionTable) (threats : List Threat) → AreTables p loops tables → IsSafeWhereRefuted p loops threats
    → ((t : RegionTable) → IsIn tables t → is_within t.body ≡ true) → ((t : Threat) → IsIn threats t → t.verdict ≡ Refuted) → HasNoBadRun p
safe_where_clean p loops tables threats made safe within refuted = safe (none_past p loops tables made within) refuted
