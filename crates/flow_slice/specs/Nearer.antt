-- A line is nearer to a set of lines than another where some path from it into the set is shorter than each from the other; a line of the set has the path without an arc.
use Rattle.std.specs.Prelude.{ℕ, ◌<◌, List, length}
use Rattle.flow_graph.specs.Search.{IsWalk}

-- a path from line a along these lines ends in the set P; its length is their number
abbrev pub LeadsInto : (ℕ → ℕ → Type 0) → (ℕ → Type 0) → ℕ → List ℕ → Type 0
LeadsInto E P a lines = (x : ℕ) × IsWalk E a lines x × P x

-- line a is nearer to the set P than line b, from which there may be no path into it
abbrev pub IsNearer : (ℕ → ℕ → Type 0) → (ℕ → Type 0) → ℕ → ℕ → Type 0
IsNearer E P a b = (lines : List ℕ) × LeadsInto E P a lines × ((others : List ℕ) → LeadsInto E P b others → length lines < length others)
