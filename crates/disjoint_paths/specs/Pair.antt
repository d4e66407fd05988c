-- Two paths of at least one arc from a line to a set of lines, which share the line from which they start alone.
use Rattle.std.specs.Prelude.{◌≡◌, ℕ, List, [], ◌∷◌}
use Rattle.il_core.specs.LineGraph.{IsIn}
use Rattle.flow_graph.specs.Search.{IsWalk}
use Rattle.disjoint_paths.specs.declared.pair.Pair.{Pair}

-- a path of at least one arc from line t along these lines to a line of the set P
abbrev pub LeadsTo : (ℕ → ℕ → Type 0) → (ℕ → Type 0) → ℕ → List ℕ → Type 0
LeadsTo E P t [] = ⊥
LeadsTo E P t (b ∷ lines) = (x : ℕ) × IsWalk E t (b ∷ lines) x × P x

-- two paths from line t into the set P whose lines behind the first share line t at most
pub record ArePaths (E : ℕ → ℕ → Type 0) (P : ℕ → Type 0) (t : ℕ) (left right : List ℕ) : Type 0 where
  pub left_leads : LeadsTo E P t left
  pub right_leads : LeadsTo E P t right
  pub apart : (v : ℕ) → IsIn left v → IsIn right v → v ≡ t

abbrev pub HasPair : (ℕ → ℕ → Type 0) → (ℕ → Type 0) → ℕ → Type 0
HasPair E P t = (left : List ℕ) × (right : List ℕ) × ArePaths E P t left right

-- a pair as the lists of all its lines
abbrev pub IsPair : (ℕ → ℕ → Type 0) → (ℕ → Type 0) → ℕ → Pair → Type 0
IsPair E P t pair = (left : List ℕ) × (right : List ℕ) × (pair.left ≡ t ∷ left) × (pair.right ≡ t ∷ right) × ArePaths E P t left right
