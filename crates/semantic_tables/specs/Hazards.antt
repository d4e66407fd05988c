-- The hazards of a region within its size: its long paths that stop at a failed assertion, a failed postcondition, a division by zero or a
-- value out of range, in order, each with its decisions, the forms of its literals, its stop and its least input. A region past its size has
-- none, and the first limit that it passes stands there.
use Rattle.std.specs.Prelude.{◌≡◌, ℕ, ℤ, Bool, true, false, Option, Some, None, MatchOption, List, All, length, map}
use Rattle.il_core.specs.Procedure.{Procedure}
use Rattle.il_core.specs.Run.{is_bad}
use Rattle.il_core.specs.declared.line.Place.{Place}
use Rattle.il_core.specs.declared.line.Stop.{Stop}
use Rattle.il_core.specs.declared.line.Stop.TheVariants as stop
use Rattle.control_flow.specs.declared.control.LoopInfo.{LoopInfo}
use Rattle.sym_simplify.specs.Literal.{LiteralForm, literal_form_of}
use Rattle.sym_simplify.specs.Easy.{IsKept}
use Rattle.sym_simplify.specs.Places.{HasLiteralPlacesBelow}
use Rattle.sym_simplify.specs.declared.normal.LitForm.{LitForm}
use Rattle.path_inputs.specs.Least.{IsPlainlyRefuted, IsLeastInput}
use Rattle.region_paths.specs.Listing.{RegionPath, IsLongPath, ListsPaths}
use Rattle.region_paths.specs.Size.{IsPast}
use Rattle.semantic_tables.specs.Row.{NormalRow, forms_of}
use Rattle.semantic_tables.specs.declared.hazard.Hazard.{Hazard}
use Rattle.semantic_tables.specs.declared.hazard.HazardsOr.{HazardsOr}
use Rattle.semantic_tables.specs.declared.hazard.HazardsOr.TheVariants.{Hazards, Past}

pub record NormalHazard : Type 0 where
  pub path : List Bool
  pub literals : List LiteralForm
  pub stop : Stop

-- the normal hazard that a `Hazard` holds
abbrev pub hazard_of : Hazard → NormalHazard
hazard_of h = record { path = h.path; literals = map literal_form_of h.literals; stop = stop.Halted h.halt }

-- that of a path
abbrev pub normal_hazard : RegionPath → NormalHazard
normal_hazard r = record { path = r.row.path; literals = forms_of r; stop = r.stop }

-- a row without its values
abbrev pub bare : NormalRow → NormalHazard
bare n = record { path = n.path; literals = n.literals; stop = n.stop }

abbrev pub stops_badly : Stop → Bool
stops_badly (stop.Halted h) = is_bad h
stops_badly (stop.Head q) = false

abbrev pub IsHazard : Procedure → List LoopInfo → ℕ → RegionPath → Type 0
IsHazard p loops pc r = IsLongPath p loops pc r × (stops_badly r.stop ≡ true)

-- the hazards are those of the paths with a property, in order
abbrev pub AreHazardsOf : (RegionPath → Type 0) → List Hazard → Type 0
AreHazardsOf P hazards = (paths : List RegionPath) × ListsPaths P paths × (map hazard_of hazards ≡ map normal_hazard paths)

abbrev pub AreHazards : Procedure → List LoopInfo → ℕ → HazardsOr → Type 0
AreHazards p loops pc (Hazards hazards) = IsPast p loops pc None × AreHazardsOf (IsHazard p loops pc) hazards
AreHazards p loops pc (Past limit) = IsPast p loops pc (Some limit)

-- the least input of these forms, or none exactly where they are plainly refuted
abbrev pub IsLeastOf : List Place → ℕ → List LiteralForm → Option (List ℤ) → Type 0
IsLeastOf places pc fs least = MatchOption least (IsPlainlyRefuted places pc fs) (IsLeastInput places pc fs)

-- a hazard has the least input of its literals, which are such as it is looked for
pub record HasLeast (places : List Place) (pc : ℕ) (h : Hazard) : Type 0 where
  pub below : All (λ (l : LitForm). HasLiteralPlacesBelow (length places) (literal_form_of l)) h.literals
  pub kept : All (λ (l : LitForm). IsKept (literal_form_of l)) h.literals
  pub least : IsLeastOf places pc (map literal_form_of h.literals) h.least

abbrev pub HaveLeast : List Place → ℕ → HazardsOr → Type 0
HaveLeast places pc (Hazards hazards) = All (HasLeast places pc) hazards
HaveLeast places pc (Past limit) = Unit {0}
