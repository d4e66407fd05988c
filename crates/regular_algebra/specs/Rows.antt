-- A row as the list of its items.
use Rattle.std.specs.Prelude.{◌≡◌, ℕ, ◌<◌, ◌≤◌, ◌==◌, if◌then◌else◌, ◌||◌, Bool, true, false, Option, Some, None, List, [], ◌∷◌, length, slice_index_or}
use Rattle.regular_algebra.specs.declared.row.Item.{Item}

-- the value of the first item that leads to a node
abbrev pub value_to : List Item → ℕ → Option ℕ
value_to [] node = None
value_to (x ∷ rest) node = if x.node == node then Some x.value else value_to rest node

-- the node of the item at place k
abbrev pub node_at : List Item → ℕ → ℕ
node_at row k = let item = slice_index_or row k (record { node = 0; value = 0 }) in item.node

-- the nodes rise, so no node comes twice
abbrev pub IsRising : List Item → Type 0
IsRising row = (i j : ℕ) → i < j → j < length row → node_at row i < node_at row j

-- the item of the node stands at place k
pub record StandsAt (row : List Item) (node k : ℕ) : Type 0 where
  pub within : k < length row
  pub leads : node_at row k ≡ node

-- an item of the node would go at place k: lower nodes before it, and higher nodes from it on
pub record GoesAt (row : List Item) (node k : ℕ) : Type 0 where
  pub within : k ≤ length row
  pub lower : (i : ℕ) → i < k → node_at row i < node
  pub higher : (i : ℕ) → k ≤ i → i < length row → node < node_at row i

-- the value leads to the node, and to each other node what led there before
abbrev pub SetsValue : List Item → List Item → ℕ → ℕ → Type 0
SetsValue old new node value = (k : ℕ) → value_to new k ≡ (if node == k then Some value else value_to old k)

-- whether a node is among the nodes of a column
abbrev pub has_node : List ℕ → ℕ → Bool
has_node [] node = false
has_node (x ∷ rest) node = x == node || has_node rest node

-- each node that has a value to j is among the nodes of column j
abbrev pub IsNoted : List (List Item) → List (List ℕ) → Type 0
IsNoted rows columns = (i j v : ℕ) → value_to (slice_index_or rows i []) j ≡ Some v → has_node (slice_index_or columns j []) i ≡ true
