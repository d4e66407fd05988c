-- How marks of relevant lines and masks of needed places grow towards the least closed sets.
use Rattle.std.specs.Prelude.{◌≡◌, ◌⊎◌, ◌↔◌, ℕ, ◌+◌, ◌-◌, ◌^◌, ◌<◌, ◌≤◌, Bool, true, false, not, List, length, slice_index_or, nat_eq}
use Rattle.std.specs.List.{count_by, sum_by}
use Rattle.std.specs.Int.{bit_at}
use Rattle.flow_graph.specs.declared.graph.FlowGraph.{FlowGraph}
use Rattle.flow_graph.specs.Graph.{Joins, heads_from}
use Rattle.flow_graph.specs.Search.{IsMarked, row_of}
use Rattle.disjoint_paths.specs.Pair.{HasPair}
use Rattle.info_flow.specs.Relevance.{Assigns, ReadsPlace, IsTest, IsClosed, IsLeastClosed}

-- a mask has place p
abbrev pub HasPlace : ℕ → ℕ → Type 0
HasPlace mask p = bit_at mask p ≡ 1

-- the mask of line k has place p
abbrev pub Needs : List ℕ → ℕ → ℕ → Type 0
Needs masks k p = HasPlace (slice_index_or masks k 0) p

-- some line behind line k needs place p
abbrev pub IsNeededBehind : FlowGraph → List ℕ → ℕ → ℕ → Type 0
IsNeededBehind g masks k p = (h : ℕ) × Joins g.arcs k h × Needs masks h p

-- what the rules ask of line k beside what it has: whether it is relevant, and the places that it needs
pub record IsWanted (g : FlowGraph) (lines : List Bool) (masks : List ℕ) (k : ℕ) (relevant : Bool) (places : ℕ) : Type 0 where
  pub line : (relevant ≡ true) ↔ (IsMarked lines k ⊎ ((p : ℕ) × Assigns g.nodes k p × IsNeededBehind g masks k p))
  pub place : (p : ℕ) → HasPlace places p
      ↔ (Needs masks k p ⊎ (IsNeededBehind g masks k p × (Assigns g.nodes k p → ⊥)) ⊎ ((relevant ≡ true) × ReadsPlace g.nodes k p))
  pub more : slice_index_or masks k 0 ≤ places

-- the rules on assignments, reads and places that are kept hold at line k
pub record IsSettled (g : FlowGraph) (lines : List Bool) (masks : List ℕ) (k : ℕ) : Type 0 where
  pub assigned : (p : ℕ) → Assigns g.nodes k p → IsNeededBehind g masks k p → IsMarked lines k
  pub read : (p : ℕ) → IsMarked lines k → ReadsPlace g.nodes k p → Needs masks k p
  pub kept : (p : ℕ) → IsNeededBehind g masks k p → (Assigns g.nodes k p → ⊥) → Needs masks k p

-- they hold at each line
abbrev pub AreSettled : FlowGraph → List Bool → List ℕ → Type 0
AreSettled g lines masks = (k : ℕ) → k < length g.nodes → IsSettled g lines masks k

-- line k is a test from which two paths to marked lines share it alone
abbrev pub IsDeciding : FlowGraph → List Bool → ℕ → Type 0
IsDeciding g lines k = IsTest g.nodes k × HasPair (Joins g.arcs) (IsMarked lines) k

-- such a line is marked
abbrev pub IsDecided : FlowGraph → List Bool → ℕ → Type 0
IsDecided g lines k = IsDeciding g lines k → IsMarked lines k

abbrev pub AreDecided : FlowGraph → List Bool → Type 0
AreDecided g lines = (k : ℕ) → k < length g.nodes → IsDecided g lines k

-- a row for each line, with the lines behind it
pub record AreRows (g : FlowGraph) (rows : List (List ℕ)) : Type 0 where
  pub size : length rows ≡ length g.nodes
  pub each : (k : ℕ) → row_of rows k ≡ heads_from g.arcs k

-- the marks and masks have what the last line has, and nothing beyond any closed sets
pub record IsGrown (g : FlowGraph) (v : ℕ) (lines : List Bool) (masks : List ℕ) : Type 0 where
  pub lines_size : length lines ≡ length g.nodes
  pub masks_size : length masks ≡ length g.nodes
  pub last : (k : ℕ) → k + 1 ≡ length g.nodes → IsMarked lines k × Needs masks k v
  pub low_lines : (relevant : ℕ → Bool) (needs : ℕ → ℕ → Bool) → IsClosed g v relevant needs → (k : ℕ) → IsMarked lines k → relevant k ≡ true
  pub low_places : (relevant : ℕ → Bool) (needs : ℕ → ℕ → Bool) → IsClosed g v relevant needs → (k p : ℕ) → Needs masks k p → needs k p ≡ true

-- how much a mask of 64 bits can grow
abbrev pub room : ℕ → ℕ
room mask = 2 ^ 64 - mask

-- how much marks and masks can grow
abbrev pub room_of : List Bool → List ℕ → ℕ
room_of lines masks = count_by not lines + sum_by room masks

-- the last of so many lines is marked and needs place v, and no other line is marked or needs a place
pub record AreOfLast (count v : ℕ) (lines : List Bool) (masks : List ℕ) : Type 0 where
  pub lines_size : length lines ≡ count
  pub masks_size : length masks ≡ count
  pub mark : (k : ℕ) → IsMarked lines k ↔ (k + 1 ≡ count)
  pub place : (k p : ℕ) → Needs masks k p ↔ ((k + 1 ≡ count) × (p ≡ v))

-- the sets that marks and masks hold
abbrev pub is_relevant : List Bool → ℕ → Bool
is_relevant lines k = slice_index_or lines k false

abbrev pub is_needed : List ℕ → ℕ → ℕ → Bool
is_needed masks k p = nat_eq (bit_at (slice_index_or masks k 0) p) 1

-- the marks and masks hold the least closed sets of place v
pub record AreLeast (g : FlowGraph) (v : ℕ) (lines : List Bool) (masks : List ℕ) : Type 0 where
  pub lines_size : length lines ≡ length g.nodes
  pub masks_size : length masks ≡ length g.nodes
  pub least : IsLeastClosed g v (is_relevant lines) (is_needed masks)

-- a reachable test that is relevant, by marks
abbrev pub IsChosen : FlowGraph → List Bool → List Bool → ℕ → Type 0
IsChosen g reached lines k = IsMarked reached k × IsTest g.nodes k × IsMarked lines k
