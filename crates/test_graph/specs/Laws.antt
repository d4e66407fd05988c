-- What holds of the ways through each line, for all procedures and states.
use Rattle.std.specs.Prelude.{◌≡◌, ℕ, ◌<◌, true, Bool, List, [], ◌∷◌, ◌++◌, filter, length, slice_get, Some}
use Rattle.il_core.specs.Evaluation.{State}
use Rattle.il_core.specs.Machine.{step}
use Rattle.il_core.specs.Procedure.{Procedure}
use Rattle.il_core.specs.LineGraph.{HasArc, IsIn}
use Rattle.il_core.specs.Run.{IsInRange}
use Rattle.il_core.specs.Checked.{IsChecked}
use Rattle.il_core.specs.declared.line.Next.TheVariants.{At}
use Rattle.test_graph.specs.Decision.{Decision}
use Rattle.test_graph.specs.Way.{Way, ways_of, line_paths, all_hold, way_taken, led_by}
use Rattle.test_graph.specs.Places.{SpeaksOfPlacesBelow}

-- in each state exactly one way has only literals that hold: the way that the state takes
abbrev pub OneWayHolds : Type 0
OneWayHolds = (d : Decision) (s : State) → filter (λ (w : Way). all_hold w.literals s) (ways_of d) ≡ way_taken d s ∷ []

-- the decisions of no way begin with those of another way
abbrev pub WaysDiffer : Type 0
WaysDiffer = (d : Decision) (j k : ℕ) (v w : Way) (rest : List Bool) → slice_get (ways_of d) j ≡ Some v → slice_get (ways_of d) k ≡ Some w
    → w.path ≡ v.path ++ rest → j ≡ k

-- there is a way through each line
abbrev pub SomeWay : Type 0
SomeWay = (d : Decision) → 0 < length (ways_of d)

-- the way whose literals hold in a state in range is the step of the line machine
abbrev pub WaysAreSteps : Type 0
WaysAreSteps = (p : Procedure) (pc : ℕ) (s : State) (w : Way) → IsChecked p → IsInRange p.places s → IsIn (line_paths p pc) w → all_hold w.literals s ≡ true
    → step p pc s ≡ led_by w s

-- a way that leads to a line goes along an arc
abbrev pub WaysGoAlongArcs : Type 0
WaysGoAlongArcs = (p : Procedure) (pc q : ℕ) (w : Way) → IsIn (line_paths p pc) w → w.next ≡ At q → HasArc p pc q

-- a way through a line of a checked procedure speaks of the procedure's places alone
abbrev pub WaysSpeakOfPlaces : Type 0
WaysSpeakOfPlaces = (p : Procedure) (pc : ℕ) (w : Way) → IsChecked p → IsIn (line_paths p pc) w → SpeaksOfPlacesBelow (length p.places) w
