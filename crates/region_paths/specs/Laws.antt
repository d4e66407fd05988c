-- What holds of the paths of each region of a reducible procedure.
use Rattle.std.specs.Prelude.{◌≡◌, ℕ, List, length}
use Rattle.il_core.specs.Evaluation.{State}
use Rattle.il_core.specs.Procedure.{Procedure}
use Rattle.il_core.specs.LineGraph.{IsIn}
use Rattle.il_core.specs.Run.{IsInRange}
use Rattle.il_core.specs.Checked.{IsChecked}
use Rattle.control_flow.specs.declared.control.LoopInfo.{LoopInfo}
use Rattle.line_machine.specs.Cut.{CyclesAreCut}
use Rattle.region_paths.specs.Region.{AreRegions, first_lines, head_marks}
use Rattle.region_paths.specs.Listing.{RegionPath, IsShortPath, IsLongPath, AreShortPaths, AreLongPaths}
use Rattle.region_paths.specs.Stepping.{StepsTo, LongStepsTo, TakesOne}
use Rattle.region_paths.specs.PathTree.{short_paths, long_paths}

-- line pc is the first line of a region of a reducible procedure
pub record BeginsRegion (p : Procedure) (loops : List LoopInfo) (pc : ℕ) : Type 0 where
  pub checked : IsChecked p
  pub regions : AreRegions p loops
  pub first : IsIn (first_lines loops) pc

-- each cycle that can be reached from the region's first line holds a head
abbrev pub HeadsCutCycles : Type 0
HeadsCutCycles = (p : Procedure) (loops : List LoopInfo) (pc : ℕ) → BeginsRegion p loops pc → CyclesAreCut p (head_marks (length p.lines) loops) pc

-- the paths down the region's trees are its paths, in order
pub record AreListed (p : Procedure) (loops : List LoopInfo) (pc : ℕ) : Type 0 where
  pub short : AreShortPaths p loops pc (short_paths p loops pc)
  pub long : AreLongPaths p loops pc (long_paths p loops pc)

abbrev pub PathsAreListed : Type 0
PathsAreListed = (p : Procedure) (loops : List LoopInfo) (pc : ℕ) → BeginsRegion p loops pc → AreListed p loops pc

-- no other list has the same paths in order
pub record IsOneListing (p : Procedure) (loops : List LoopInfo) (pc : ℕ) : Type 0 where
  pub short : (a b : List RegionPath) → AreShortPaths p loops pc a → AreShortPaths p loops pc b → a ≡ b
  pub long : (a b : List RegionPath) → AreLongPaths p loops pc a → AreLongPaths p loops pc b → a ≡ b

abbrev pub OneListing : Type 0
OneListing = (p : Procedure) (loops : List LoopInfo) (pc : ℕ) → IsOneListing p loops pc

-- each state in range takes exactly one path and one long path of the region, and stepping gives its stop and values
pub record TakesPaths (p : Procedure) (loops : List LoopInfo) (pc : ℕ) (s : State) : Type 0 where
  pub short : TakesOne (IsShortPath p loops pc) (StepsTo p loops pc s) s
  pub long : TakesOne (IsLongPath p loops pc) (LongStepsTo p loops pc s) s

abbrev pub InputsTakeOnePath : Type 0
InputsTakeOnePath = (p : Procedure) (loops : List LoopInfo) (pc : ℕ) (s : State) → BeginsRegion p loops pc → IsInRange p.places s → TakesPaths p loops pc s

-- paths with the same decisions are the same
pub record AreOneByDecisions (p : Procedure) (loops : List LoopInfo) (pc : ℕ) : Type 0 where
  pub short : (a b : RegionPath) → IsShortPath p loops pc a → IsShortPath p loops pc b → a.row.path ≡ b.row.path → a ≡ b
  pub long : (a b : RegionPath) → IsLongPath p loops pc a → IsLongPath p loops pc b → a.row.path ≡ b.row.path → a ≡ b

abbrev pub DecisionsTellPaths : Type 0
DecisionsTellPaths = (p : Procedure) (loops : List LoopInfo) (pc : ℕ) → BeginsRegion p loops pc → AreOneByDecisions p loops pc
