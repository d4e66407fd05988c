-- A threat is a long path of a region that stops at a failed assertion, a failed postcondition, a division by zero or a value out of range. A
-- long path that stops within the opening of its region is none, since whoever comes to the region's head has passed the opening.
use Rattle.std.specs.Prelude.{◌≡◌, ℕ, true, List}
use Rattle.il_core.specs.Procedure.{Procedure}
use Rattle.control_flow.specs.declared.control.LoopInfo.{LoopInfo}
use Rattle.region_paths.specs.Listing.{RegionPath, IsLongPath, ListsPaths}
use Rattle.semantic_tables.specs.Hazards.{stops_badly}
use Rattle.compliance.specs.Opening.{opening, StayWithin}

pub record IsThreat (p : Procedure) (loops : List LoopInfo) (pc : ℕ) (r : RegionPath) : Type 0 where
  pub path : IsLongPath p loops pc r
  pub bad : stops_badly r.stop ≡ true
  pub behind : StayWithin p (opening loops pc) path.ways → ⊥

-- the threats of a region, in the order of their decisions
abbrev pub AreThreats : Procedure → List LoopInfo → ℕ → List RegionPath → Type 0
AreThreats p loops pc rows = ListsPaths (IsThreat p loops pc) rows
