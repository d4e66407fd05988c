-- A path is a list of arcs, by their numbers, each of which leaves the node that the one before it enters.
use Rattle.std.specs.Prelude.{◌≡◌, ℕ, Some, List, [], ◌∷◌, slice_get}
use Rattle.regular_algebra.specs.declared.steps.Ends.{Ends}

-- arc k goes from node i to node j
abbrev pub IsArc : List Ends → ℕ → ℕ → ℕ → Type 0
IsArc arcs k i j = slice_get arcs k ≡ Some (record { tail = i; head = j })

abbrev pub Path : List Ends → ℕ → List ℕ → ℕ → Type 0
Path arcs i [] j = i ≡ j
Path arcs i (k ∷ w) j = (m : ℕ) × IsArc arcs k i m × Path arcs m w j

-- no path of at least one arc comes back to where it began
abbrev pub HasNoCycle : List Ends → Type 0
HasNoCycle arcs = (i : ℕ) (w : List ℕ) → Path arcs i w i → w ≡ []
