-- The opening of the region of a loop head: the head, where it is no assertion itself, and then its leading assertions. A head without
-- leading assertions has no opening, and neither has line 0.
use Rattle.std.specs.Prelude.{ℕ, List, [], ◌∷◌, nat_eq, if◌then◌else◌}
use Rattle.il_core.specs.Procedure.{Procedure}
use Rattle.il_core.specs.LineGraph.{IsIn}
use Rattle.control_flow.specs.declared.control.LoopInfo.{LoopInfo}
use Rattle.test_graph.specs.Way.{Way, line_paths}
use Rattle.region_paths.specs.Region.{leading_of}

abbrev pub opened_by : ℕ → List ℕ → List ℕ
opened_by pc [] = []
opened_by pc (a ∷ lines) = if nat_eq a pc then a ∷ lines else pc ∷ a ∷ lines

-- the lines of the opening of the region that begins at line pc
abbrev pub opening : List LoopInfo → ℕ → List ℕ
opening loops pc = opened_by pc (leading_of loops pc)

-- these are ways through the first of these lines, one after the other
abbrev pub StayWithin : Procedure → List ℕ → List Way → Type 0
StayWithin p lines [] = Unit {0}
StayWithin p [] (w ∷ ws) = ⊥
StayWithin p (q ∷ lines) (w ∷ ws) = IsIn (line_paths p q) w × StayWithin p lines ws
