-- The places of a checked procedure are checked places.
use Rattle.il_core.specs.Procedure.{Procedure}
use Rattle.il_core.specs.Checked.{IsChecked}
use Rattle.il_core.specs.Places.{AreCheckedPlaces}

pub checked-places : (p : Procedure) → IsChecked p → AreCheckedPlaces p.places
checked-places p h = record {
  few = h.few_places;
  ranges = h.ranges;
  in_order = h.in_order;
}
