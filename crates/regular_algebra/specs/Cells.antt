-- The table that a board holds: entry (i, j) is the value that leads to j in the row of i, where neither node is gone.
use Rattle.std.specs.Prelude.{◌≡◌, ℕ, suc, ◌≤◌, if◌then◌else◌, ◌||◌, Bool, true, Option, Some, None, List, [], ◌∷◌, slice_index_or}
use Rattle.regular_algebra.specs.Answers.{IsAmong}
use Rattle.regular_algebra.specs.Rule.{Table}
use Rattle.regular_algebra.specs.Rows.{value_to}
use Rattle.regular_algebra.specs.declared.row.Item.{Item}
use Rattle.regular_algebra.specs.declared.board.Board.{Board}

-- whether a node is eliminated, or no node
abbrev pub is_gone : List Bool → ℕ → Bool
is_gone gone k = slice_index_or gone k true

unfoldable pub cell : List (List Item) → List Bool → ℕ → ℕ → Option ℕ
cell rows gone i j = if is_gone gone i || is_gone gone j then None else value_to (slice_index_or rows i []) j

unfoldable pub table_of : Board → Table
table_of b = record { entry = cell b.rows.items b.gone.items; steps = b.steps.items }

-- the nodes rise from a on
abbrev pub RiseFrom : ℕ → List ℕ → Type 0
RiseFrom a [] = Unit {0}
RiseFrom a (k ∷ nodes) = (a ≤ k) × RiseFrom (suc k) nodes

-- the nodes rise, and each that has a value is among them
pub record IsListed (value : ℕ → Option ℕ) (nodes : List ℕ) : Type 0 where
  pub rising : RiseFrom 0 nodes
  pub all : (k v : ℕ) → value k ≡ Some v → IsAmong nodes k

pub record SameSize (old new : Board) : Type 0 where
  pub count : new.count ≡ old.count
  pub first : new.first ≡ old.first
