-- How many paths go down a tree, counted up to 16,385, which is one more than a region within its size has. Line by line the counts come up
-- to the paths, and never pass them.
use Rattle.std.specs.Prelude.{◌≡◌, ℕ, zero, suc, ◌+◌, ◌<◌, ◌≤◌, true, false, Option, Some, List, All, IfSome, MatchOption, length, min, slice_get}
use Rattle.il_core.specs.LineGraph.{IsIn}
use Rattle.il_core.specs.Procedure.{Procedure}
use Rattle.il_core.specs.declared.line.Next.TheVariants as next
use Rattle.control_flow.specs.declared.control.LoopInfo.{LoopInfo}
use Rattle.test_graph.specs.Decision.{Decision, ask, done, decision_at}
use Rattle.test_graph.specs.Lowered.{Unfolds}
use Rattle.test_graph.specs.declared.graph.TestGraph.{TestGraph}
use Rattle.region_paths.specs.Region.{is_head, leading_of, first_lines}
use Rattle.region_paths.specs.PathTree.{PathTree, fork, change, stops, leading_tree, long_tree}
use Rattle.region_paths.specs.Walk.{AreLoopsOf, region_tree_of}
use Rattle.region_paths.specs.declared.counting.LineWays.{LineWays}
use Rattle.region_paths.specs.declared.sizing.Sizes.{Sizes}

abbrev pub leaves : PathTree → ℕ
leaves (fork c met unmet) = leaves met + leaves unmet
leaves (change c rest) = leaves rest
leaves (stops end) = 1

abbrev pub capped : ℕ → ℕ
capped n = min n 16385

abbrev pub IsFew : ℕ → Type 0
IsFew n = n ≤ 16385

abbrev pub IsOne : ℕ → Type 0
IsOne n = n ≡ 1

abbrev pub IsFewHead : Option ℕ → Type 0
IsFewHead o = IfSome o IsFew

-- the ways through the rest of a line that halt, and those that go on to a line
abbrev pub halting : Decision → ℕ
halting (ask c met unmet) = halting met + halting unmet
halting (done c (next.Halted h)) = 1
halting (done c (next.At q)) = 0

abbrev pub passing : Decision → ℕ
passing (ask c met unmet) = passing met + passing unmet
passing (done c (next.Halted h)) = 0
passing (done c (next.At q)) = 1

pub record AreWaysOf (d : Decision) (w : LineWays) : Type 0 where
  pub halting : w.halting ≡ capped (halting d)
  pub passing : w.passing ≡ capped (passing d)

pub record IsFewWays (w : LineWays) : Type 0 where
  pub halting : w.halting ≤ 16385
  pub passing : w.passing ≤ 16385

-- the ways from each of the nodes so far
pub record AreNodeWays (g : TestGraph) (ways : List LineWays) : Type 0 where
  pub each : (id : ℕ) (d : Decision) (w : LineWays) → Unfolds g.nodes g.entries id d → slice_get ways id ≡ Some w → AreWaysOf d w

-- for each head, how many paths go through its leading assertions
abbrev pub IsHeadCount : Procedure → List LoopInfo → ℕ → Option ℕ → Type 0
IsHeadCount p loops line o = MatchOption o (is_head loops line ≡ false) (λ n. (is_head loops line ≡ true) × (n ≡ capped (leaves (leading_tree p line (leading_of loops line)))))

pub record AreHeadCounts (p : Procedure) (loops : List LoopInfo) (counts : List (Option ℕ)) : Type 0 where
  pub lines : length counts ≡ length p.lines
  pub each : (line : ℕ) (o : Option ℕ) → slice_get counts line ≡ Some o → IsHeadCount p loops line o

-- the paths from some decisions on, where those of so many lines are counted; before any line is counted there is one
abbrev pub counted : Procedure → List LoopInfo → ℕ → Decision → ℕ
counted p loops zero d = 1
counted p loops (suc n) d = capped (leaves (region_tree_of p loops n d))

-- each node counts at least the paths of n lines, and each below a node those of one line more
pub record CountAtLeast (p : Procedure) (loops : List LoopInfo) (g : TestGraph) (n below : ℕ) (counts : List ℕ) : Type 0 where
  pub each : (id : ℕ) (d : Decision) (c : ℕ) → Unfolds g.nodes g.entries id d → slice_get counts id ≡ Some c → counted p loops n d ≤ c
  pub more : (id : ℕ) (d : Decision) (c : ℕ) → id < below → Unfolds g.nodes g.entries id d → slice_get counts id ≡ Some c → counted p loops (suc n) d ≤ c

-- no node counts more than the paths of n lines
pub record CountAtMost (p : Procedure) (loops : List LoopInfo) (g : TestGraph) (n : ℕ) (counts : List ℕ) : Type 0 where
  pub each : (id : ℕ) (d : Decision) (c : ℕ) → Unfolds g.nodes g.entries id d → slice_get counts id ≡ Some c → c ≤ counted p loops n d

-- counts some of which were raised, and none above the paths
pub record IsRaised (p : Procedure) (g : TestGraph) (heads : List (Option ℕ)) (old new : List ℕ) : Type 0 where
  pub size : length new ≡ length old
  pub least : (loops : List LoopInfo) (n : ℕ) → CountAtLeast p loops g n 0 old → CountAtLeast p loops g n 0 new
  pub most : (loops : List LoopInfo) (n : ℕ) → AreHeadCounts p loops heads → CountAtMost p loops g n old → (m : ℕ) × CountAtMost p loops g m new

-- the first node of a region counts its long paths, and no node counts further than one more than a region within its size has
pub record ArePathCounts (p : Procedure) (loops : List LoopInfo) (g : TestGraph) (counts : List ℕ) : Type 0 where
  pub nodes : length counts ≡ length g.nodes
  pub few : All IsFew counts
  pub each : (pc id c : ℕ) → IsIn (first_lines loops) pc → Unfolds g.nodes g.entries id (decision_at p pc) → slice_get counts id ≡ Some c
      → c ≡ capped (leaves (long_tree p loops pc))

-- what the sizes of all regions share: for each line the loop of which it is the head, and the counts of the paths
pub record AreSizesOf (p : Procedure) (loops : List LoopInfo) (g : TestGraph) (s : Sizes) : Type 0 where
  pub heads : AreLoopsOf p loops s.heads.items
  pub counts : ArePathCounts p loops g s.counts.items
