-- A chain of an unknown is a list of edges, each entering an unknown, whose quantities sum to the unknown's value less
-- a number: a proof that each solution gives the unknown at least this number.
use Rattle.std.specs.Prelude.{◌≡◌, ◌≤◌, ◌<◌, ◌+◌, ℕ, ℤ, pos, ◌+ℤ◌, ◌-ℤ◌, ◌≤ℤ◌, ◌<ℤ◌, List, [], ◌∷◌, Option, Some, None, length, take, map, slice_get}
use Rattle.std.specs.declared.vec.Vec.{Vec}
use Rattle.std.specs.declared.alloc.Global.{Global}
use Rattle.difference.specs.Constraints.{number, value_at, IsWithin}
use Rattle.difference.specs.declared.constraint.Range64.{Range64}
use Rattle.difference.specs.declared.constraint.Constraint.{Constraint}
use Rattle.difference.specs.declared.constraint.Edge.{Edge}
use Rattle.difference.specs.declared.constraint.Edge.TheVariants.{Low, High, Given}
use Rattle.difference.specs.declared.chain.Step.{Step}

-- the value less the least of its range
abbrev pub above_least : Option Range64 → ℤ → ℤ
above_least None v = pos 0
above_least (Some r) v = v -ℤ r.least

-- the greatest of its range less the value
abbrev pub below_greatest : Option Range64 → ℤ → ℤ
below_greatest None v = pos 0
below_greatest (Some r) v = r.greatest -ℤ v

-- the bound less left plus right
abbrev pub room : Option Constraint → List ℤ → ℤ
room None vals = pos 0
room (Some c) vals = (c.bound -ℤ value_at vals c.left) +ℤ value_at vals c.right

-- the quantity of an edge, which is at least 0 in each solution
abbrev pub quantity : List Range64 → List Constraint → List ℤ → Edge → ℤ
quantity ranges cs vals (Low k) = above_least (slice_get ranges k) (number vals k)
quantity ranges cs vals (High k) = below_greatest (slice_get ranges k) (number vals k)
quantity ranges cs vals (Given i) = room (slice_get cs i) vals

-- the sum of the quantities
abbrev pub total : List Range64 → List Constraint → List ℤ → List Edge → ℤ
total ranges cs vals [] = pos 0
total ranges cs vals (e ∷ es) = quantity ranges cs vals e +ℤ total ranges cs vals es

-- the edge names one of n unknowns or of m constraints
abbrev pub Names : ℕ → ℕ → Edge → Type 0
Names n m (Low k) = k < n
Names n m (High k) = k < n
Names n m (Given i) = i < m

-- no edge stands twice
abbrev pub IsSimple : List Edge → Type 0
IsSimple es = (i j : ℕ) (e : Edge) → slice_get es i ≡ Some e → slice_get es j ≡ Some e → i ≡ j

-- edges that refute: whatever the values, their quantities sum to one and the same negative number
pub record IsRefuted (ranges : List Range64) (cs : List Constraint) (edges : List Edge) : Type 0 where
  pub named : (j : ℕ) (e : Edge) → slice_get edges j ≡ Some e → Names (length ranges) (length cs) e
  pub once : IsSimple edges
  pub few : length edges ≤ length ranges + 1
  pub constant : ℤ
  pub negative : constant <ℤ pos 0
  pub sum : (vals : List ℤ) → total ranges cs vals edges ≡ constant

-- the indices of the constraints among the edges
abbrev pub givens : List Edge → List ℕ
givens [] = []
givens (Low k ∷ es) = givens es
givens (High k ∷ es) = givens es
givens (Given i ∷ es) = i ∷ givens es

abbrev pub right_of : Option Constraint → Option ℕ
right_of None = None
right_of (Some c) = c.right

-- the unknown that an edge bounds from below
abbrev pub enters : List Constraint → Edge → Option ℕ
enters cs (Low k) = Some k
enters cs (High k) = None
enters cs (Given i) = right_of (slice_get cs i)

abbrev pub edges_of : List Step → List Edge
edges_of steps = map (λ s. s.edge) steps

-- up to each step, the quantities sum to the value of the step's unknown less the step's value, and no unknown is
-- entered twice
pub record IsChain (ranges : List Range64) (cs : List Constraint) (values : List ℤ) (steps : List Step) : Type 0 where
  pub sums : (j : ℕ) (s : Step) → slice_get steps j ≡ Some s → (vals : List ℤ)
      → total ranges cs vals (edges_of (take (j + 1) steps)) ≡ number vals s.node -ℤ s.value
  pub names : (j : ℕ) (s : Step) → slice_get steps j ≡ Some s → Names (length ranges) (length cs) s.edge
  pub entered : (j : ℕ) (s : Step) → slice_get steps j ≡ Some s → enters cs s.edge ≡ Some s.node
  pub known : (j : ℕ) (s : Step) → slice_get steps j ≡ Some s → s.node < length ranges
  pub below : (j : ℕ) (s : Step) → slice_get steps j ≡ Some s → s.value ≤ℤ number values s.node
  pub apart : (i j : ℕ) (s t : Step) → slice_get steps i ≡ Some s → slice_get steps j ≡ Some t → s.node ≡ t.node → i ≡ j

-- the whole chain sums to the value of a side less a number
pub record Proves (ranges : List Range64) (cs : List Constraint) (steps : List Step) (side : Option ℕ) (value : ℤ) : Type 0 where
  pub whole : (vals : List ℤ) → total ranges cs vals (edges_of steps) ≡ value_at vals side -ℤ value

-- values within their ranges, each with a chain that proves it
pub record Kept (ranges : List Range64) (cs : List Constraint) (values : List ℤ) (chains : List (Vec Step Global)) : Type 0 where
  pub within : IsWithin ranges values
  pub counted : length chains ≡ length ranges
  pub chained : (k : ℕ) (c : Vec Step Global) → slice_get chains k ≡ Some c → IsChain ranges cs values c.items
  pub proves : (k : ℕ) (c : Vec Step Global) → slice_get chains k ≡ Some c → Proves ranges cs c.items (Some k) (number values k)
