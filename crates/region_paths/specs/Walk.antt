-- The tree below a node of the lowered graph: a node stands for some decisions of a line.
use Rattle.std.specs.Prelude.{◌≡◌, ◌⊎◌, ℕ, ◌<◌, true, false, Option, Some, None, List, MatchOption, length, slice_get}
use Rattle.il_core.specs.LineGraph.{IsIn}
use Rattle.il_core.specs.Procedure.{Procedure}
use Rattle.control_flow.specs.declared.control.LoopInfo.{LoopInfo}
use Rattle.test_graph.specs.Decision.{Decision}
use Rattle.test_graph.specs.Places.{DecidesPlacesBelow}
use Rattle.test_graph.specs.Lowered.{Unfolds}
use Rattle.test_graph.specs.declared.graph.TestGraph.{TestGraph}
use Rattle.region_paths.specs.Region.{is_head, leading_of}
use Rattle.region_paths.specs.PathTree.{PathTree, grafted, below, passed, tree_to, leading_tree}

-- decisions over the places of a procedure that stand from a node on
pub record StandsAt (p : Procedure) (g : TestGraph) (id : ℕ) : Type 0 where
  pub decision : Decision
  pub unfolds : Unfolds g.nodes g.entries id decision
  pub places : DecidesPlacesBelow (length p.places) decision

-- each of the lines is one of the procedure's
abbrev pub AreLines : Procedure → List ℕ → Type 0
AreLines p lines = (k : ℕ) → IsIn lines k → k < length p.lines

abbrev pub LeadInside : Procedure → List LoopInfo → Type 0
LeadInside p loops = (l : LoopInfo) → IsIn loops l → AreLines p l.leading

-- the index of the loop of which a line is the head
abbrev pub IsLoopOf : List LoopInfo → ℕ → Option ℕ → Type 0
IsLoopOf loops line o = MatchOption o (is_head loops line ≡ false)
    (λ k. (l : LoopInfo) × (slice_get loops k ≡ Some l) × (is_head loops line ≡ true) × (leading_of loops line ≡ l.leading))

-- that of each line
pub record AreLoopsOf (p : Procedure) (loops : List LoopInfo) (heads : List (Option ℕ)) : Type 0 where
  pub lines : length heads ≡ length p.lines
  pub each : (line : ℕ) (o : Option ℕ) → slice_get heads line ≡ Some o → IsLoopOf loops line o

abbrev pub IsNone : Option ℕ → Type 0
IsNone o = o ≡ None

-- what stands at a line where an index is put at the line of a head
abbrev pub IsPut : List (Option ℕ) → ℕ → ℕ → ℕ → Option ℕ → Type 0
IsPut heads head at line o = ((line ≡ head) × (o ≡ Some at)) ⊎ ((line ≡ head → ⊥) × (slice_get heads line ≡ Some o))

-- these decisions, with the leading assertions that are left below them
abbrev pub leading_tree_of : Procedure → ℕ → List ℕ → Decision → PathTree
leading_tree_of p head lines d = grafted (passed (leading_tree p head lines)) d

-- these decisions, with the lines of the region below them, as far as n lines down
abbrev pub region_tree_of : Procedure → List LoopInfo → ℕ → Decision → PathTree
region_tree_of p loops n d =
    grafted (below loops (λ q. leading_tree p q (leading_of loops q)) (λ q. tree_to p loops (λ h. leading_tree p h (leading_of loops h)) n q)) d
