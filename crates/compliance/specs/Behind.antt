-- How the decisions of a path lead through lines that are passed one after the other, and what that tells of a path: whether it is a threat.
use Rattle.std.specs.Prelude.{◌≡◌, ℕ, Bool, true, false, not, ◌&&◌, Option, Some, None, is_some, List, [], ◌∷◌, ◌++◌, map, if◌then◌else◌}
use Rattle.il_core.specs.Procedure.{Procedure}
use Rattle.il_core.specs.Run.{is_bad}
use Rattle.il_core.specs.declared.line.Halt.{Halt}
use Rattle.il_core.specs.declared.line.Next.TheVariants as next
use Rattle.il_core.specs.declared.line.Stop.{Stop}
use Rattle.il_core.specs.declared.line.Stop.TheVariants as stop
use Rattle.control_flow.specs.declared.control.LoopInfo.{LoopInfo}
use Rattle.sym_simplify.specs.Literal.{literal_form_of}
use Rattle.sym_simplify.specs.declared.normal.LitForm.{LitForm}
use Rattle.test_graph.specs.Decision.{Decision, ask, done, decision_at}
use Rattle.region_paths.specs.Laws.{BeginsRegion}
use Rattle.region_paths.specs.Listing.{RegionPath}
use Rattle.region_paths.specs.Size.{IsPast}
use Rattle.region_paths.specs.declared.limit.Limit.{Limit}
use Rattle.semantic_tables.specs.Hazards.{NormalHazard, hazard_of, normal_hazard, HasLeast}
use Rattle.semantic_tables.specs.declared.hazard.Hazard.{Hazard}
use Rattle.compliance.specs.Threat.{IsThreat}
use Rattle.compliance.specs.Safe.{AreTold, AreListedWithin}
use Rattle.compliance.specs.declared.threat.Threat.{Threat}

-- what is left of a path behind the way that it takes through a line; none where that way halts, or the path ends on it
abbrev pub left_behind : Decision → List Bool → Option (List Bool)
left_behind (ask c met unmet) [] = None
left_behind (ask c met unmet) (true ∷ path) = left_behind met path
left_behind (ask c met unmet) (false ∷ path) = left_behind unmet path
left_behind (done change (next.Halted h)) path = None
left_behind (done change (next.At q)) path = Some path

-- nothing is left, or this holds of what is
abbrev pub none_or : Option (List Bool) → (List Bool → Bool) → Bool
none_or None holds = true
none_or (Some path) holds = holds path

-- a path comes to its end in these lines, passed one after the other
abbrev pub ends_within : Procedure → List ℕ → List Bool → Bool
ends_within p [] path = false
ends_within p (q ∷ lines) path = none_or (left_behind (decision_at p q) path) (λ left. ends_within p lines left)

-- the halt of a path that halts badly behind these lines
abbrev pub bad_halt : Procedure → List ℕ → Stop → List Bool → Option Halt
bad_halt p lines (stop.Head q) path = None
bad_halt p lines (stop.Halted h) path = if is_bad h && not (ends_within p lines path) then Some h else None

-- the normal hazard with these decisions and literals that halts like this
abbrev pub hazard_from : List Bool → List LitForm → Halt → NormalHazard
hazard_from path literals h = record { path = path; literals = map literal_form_of literals; stop = stop.Halted h }

-- the hazard of a threat of the region of line pc
pub record IsThreatOf (p : Procedure) (pc : ℕ) (n : NormalHazard) : Type 0 where
  pub loops : List LoopInfo
  pub begins : BeginsRegion p loops pc
  pub path : RegionPath
  pub threat : IsThreat p loops pc path
  pub told : n ≡ normal_hazard path

-- a hazard of the region of line pc, which is a threat unless it comes to its end in these lines
pub record IsHazardBehind (p : Procedure) (pc : ℕ) (lines : List ℕ) (h : Hazard) : Type 0 where
  pub bad : is_bad h.halt ≡ true
  pub threat : ends_within p lines h.path ≡ false → IsThreatOf p pc (hazard_of h)
  pub least : HasLeast p.places pc h

-- whether a path halts badly behind these lines
abbrev pub is_bad_behind : Procedure → List ℕ → RegionPath → Bool
is_bad_behind p lines r = is_some (bad_halt p lines r.stop r.row.path)

-- the threats of the region of line pc that are listed, each with its verdict
pub record IsRegionTold (p : Procedure) (loops : List LoopInfo) (pc : ℕ) (here : List Threat) : Type 0 where
  pub past : Option Limit
  pub size : IsPast p loops pc past
  pub listed : AreListedWithin p loops pc past here

-- these follow what was found before
abbrev pub AddsRegion : Procedure → List LoopInfo → ℕ → List Threat → List Threat → Type 0
AddsRegion p loops pc before after = (here : List Threat) × (after ≡ before ++ here) × IsRegionTold p loops pc here

abbrev pub AddsTold : Procedure → ℕ → List RegionPath → List Threat → List Threat → Type 0
AddsTold p pc paths before after = (here : List Threat) × (after ≡ before ++ here) × AreTold p pc paths here
