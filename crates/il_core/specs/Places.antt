-- The places of a checked procedure: few, each with a range, the variables first and then the OLD copies of the INOUT variables.
use Rattle.std.specs.Prelude.{◌≡◌, ◌≤◌, ℕ, List, length, slice_get, Some}
use Rattle.il_core.specs.Checked.{HasRange, AreInOrder}
use Rattle.il_core.specs.declared.line.Place.{Place}

pub record AreCheckedPlaces (places : List Place) : Type 0 where
  pub few : length places ≤ 64
  pub ranges : (k : ℕ) (place : Place) → slice_get places k ≡ Some place → HasRange place
  pub in_order : AreInOrder places
