-- What holds of the runs and the threats of each checked procedure in which no cycle is twice entered.
use Rattle.std.specs.Prelude.{◌≡◌, ◌↔◌, ◌+◌, ◌*◌, ◌<◌, ◌≤◌, ℕ, List, length}
use Rattle.il_core.specs.Evaluation.{State}
use Rattle.il_core.specs.Input.{IsInput}
use Rattle.il_core.specs.LineGraph.{IsIn}
use Rattle.il_core.specs.Procedure.{Procedure}
use Rattle.il_core.specs.Run.{HasNoBadRun}
use Rattle.il_core.specs.Checked.{IsChecked}
use Rattle.il_core.specs.declared.line.Halt.{Halt}
use Rattle.il_core.specs.declared.line.Stop.TheVariants.{Halted}
use Rattle.control_flow.specs.declared.control.LoopInfo.{LoopInfo}
use Rattle.region_paths.specs.Region.{AreRegions, first_lines}
use Rattle.test_graph.specs.Way.{Way}
use Rattle.region_paths.specs.Chain.{IsLongChain}
use Rattle.region_paths.specs.Listing.{RegionPath}
use Rattle.region_paths.specs.Laws.{BeginsRegion}
use Rattle.path_inputs.specs.Least.{Meets, HasNoInput, IsPlainlyRefuted, IsLeastInput}
use Rattle.path_inputs.specs.Laws.{AreInCore}
use Rattle.compliance.specs.Opening.{opening, StayWithin}
use Rattle.semantic_tables.specs.Row.{forms_of}
use Rattle.compliance.specs.Threat.{IsThreat, AreThreats}
use Rattle.compliance.specs.Verdict.{TakesDecisions, TakesPath, IsFirstLoose, HasVerdict}
use Rattle.compliance.specs.Safe.{AreThreatsOf, IsSafeWhereUnmet, IsSafeWhereRefuted}
use Rattle.compliance.specs.declared.threat.Threat.{Threat}
use Rattle.compliance.specs.declared.threat.Verdict.{Verdict}

-- a long path that halts stays within the opening of its region exactly where it passes no more lines than the opening has
abbrev pub ShortPathsStayWithin : Type 0
ShortPathsStayWithin = (p : Procedure) (loops : List LoopInfo) (pc : ℕ) (ws : List Way) (h : Halt) → AreRegions p loops → IsLongChain p loops pc ws (Halted h)
    → StayWithin p (opening loops pc) ws ↔ (length ws ≤ length (opening loops pc))

-- each region has one list of its threats
abbrev pub ThreatsAreListed : Type 0
ThreatsAreListed = (p : Procedure) (loops : List LoopInfo) (pc : ℕ) → BeginsRegion p loops pc
    → (rows : List RegionPath) × AreThreats p loops pc rows × ((others : List RegionPath) → AreThreats p loops pc others → others ≡ rows)

-- no input of its region meets all literals of a threat, each threat of each region
abbrev pub ThreatsHaveNoInput : Procedure → List LoopInfo → Type 0
ThreatsHaveNoInput p loops = (pc : ℕ) (r : RegionPath) → IsIn (first_lines loops) pc → IsThreat p loops pc r → HasNoInput p.places pc (forms_of r)

-- where no input meets a threat, no run from the precondition halts badly, however long it is
abbrev pub UnmetThreatsMeanNoBadRun : Type 0
UnmetThreatsMeanNoBadRun = (p : Procedure) (loops : List LoopInfo) → IsChecked p → AreRegions p loops → ThreatsHaveNoInput p loops → HasNoBadRun p

-- the same of a list of the threats of all regions within their size, where each region is
abbrev pub UnmetListsMeanNoBadRun : Type 0
UnmetListsMeanNoBadRun = (p : Procedure) (loops : List LoopInfo) (ts : List Threat) → IsChecked p → AreRegions p loops → AreThreatsOf p loops (first_lines loops) ts
    → IsSafeWhereUnmet p loops ts

-- each threat of each region is plainly refuted
abbrev pub ThreatsAreRefuted : Procedure → List LoopInfo → Type 0
ThreatsAreRefuted p loops = (pc : ℕ) (r : RegionPath) → IsIn (first_lines loops) pc → IsThreat p loops pc r → IsPlainlyRefuted p.places pc (forms_of r)

-- where each threat is plainly refuted, so that no input meets it, no run from the precondition halts badly
abbrev pub RefutedThreatsMeanNoBadRun : Type 0
RefutedThreatsMeanNoBadRun = (p : Procedure) (loops : List LoopInfo) → IsChecked p → AreRegions p loops → ThreatsAreRefuted p loops → HasNoBadRun p

-- the same of a list of the threats of all regions within their size, where each region is
abbrev pub RefutedListsMeanNoBadRun : Type 0
RefutedListsMeanNoBadRun = (p : Procedure) (loops : List LoopInfo) (ts : List Threat) → IsChecked p → AreRegions p loops → AreThreatsOf p loops (first_lines loops) ts
    → IsSafeWhereRefuted p loops ts

-- an input takes a threat exactly where it meets each literal of it
abbrev pub ThreatsAreTakenWhereMet : Type 0
ThreatsAreTakenWhereMet = (p : Procedure) (loops : List LoopInfo) (pc : ℕ) (r : RegionPath) (s : State) → BeginsRegion p loops pc → IsThreat p loops pc r
    → IsInput p.places pc s → Meets p.places pc (forms_of r) s ↔ TakesPath p pc s r

-- where each literal of a threat is easy and in the core, its least input takes it
abbrev pub LeastInputsTakeThreats : Type 0
LeastInputsTakeThreats = (p : Procedure) (loops : List LoopInfo) (pc : ℕ) (r : RegionPath) (s : State) → BeginsRegion p loops pc → IsThreat p loops pc r
    → AreInCore (forms_of r) → IsLeastInput p.places pc (forms_of r) s → TakesPath p pc s r

-- where the least input of a threat does not take it, there is a first literal that is hard, or an easy `/=` outside the core
abbrev pub OpenThreatsAreLoose : Type 0
OpenThreatsAreLoose = (p : Procedure) (loops : List LoopInfo) (pc : ℕ) (r : RegionPath) (s : State) → BeginsRegion p loops pc → IsThreat p loops pc r
    → IsLeastInput p.places pc (forms_of r) s → (TakesPath p pc s r → ⊥) → (i : ℕ) × IsFirstLoose (forms_of r) i

-- a run that takes a threat makes at most twice as many steps as there are lines, and two
abbrev pub ThreatsAreTakenSoon : Type 0
ThreatsAreTakenSoon = (p : Procedure) (loops : List LoopInfo) (pc : ℕ) (r : RegionPath) (s : State) (n : ℕ) (h : Halt) → BeginsRegion p loops pc → IsThreat p loops pc r
    → IsInput p.places pc s → r.stop ≡ Halted h → TakesDecisions p n pc s r.row.path h → n < 2 * length p.lines + 2

-- no path has two verdicts
abbrev pub OneVerdict : Type 0
OneVerdict = (p : Procedure) (pc : ℕ) (r : RegionPath) (v w : Verdict) → HasVerdict p pc r v → HasVerdict p pc r w → v ≡ w
