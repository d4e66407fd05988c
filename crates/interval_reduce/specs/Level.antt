-- A level parts the nodes of a graph into intervals: the first has node 0 as its head, each next one the least node outside that an
-- interval before it leads to. The next level has a node for each interval, named by its head.
use Rattle.std.specs.Prelude.{◌≡◌, ◌≢◌, ◌⊎◌, ℕ, Bool, List, [], ◌∷◌, ◌++◌, map, length, nat_eq, if◌then◌else◌}
use Rattle.std.specs.List.{list_any}
use Rattle.il_core.specs.LineGraph.{IsIn}
use Rattle.interval_reduce.specs.declared.interval.Interval.{Interval}
use Rattle.interval_reduce.specs.Interval.{IsLeast, IsIntervalOf}

-- node v may be the next head: it is in no interval, and an arc from one leads to it
pub record MayBeHead (N : ℕ → Type 0) (E : ℕ → ℕ → Type 0) (earlier : List ℕ) (v : ℕ) : Type 0 where
  pub node : N v
  pub outside : IsIn earlier v → ⊥
  pub from : ℕ
  pub inside : IsIn earlier from
  pub arc : E from v

-- behind intervals of these nodes come the others, until no node may be a head
abbrev pub GoesOn : (ℕ → Type 0) → (ℕ → ℕ → Type 0) → List ℕ → List Interval → Type 0
GoesOn N E earlier [] = (v : ℕ) → MayBeHead N E earlier v → ⊥
GoesOn N E earlier (i ∷ rest) = IsLeast (MayBeHead N E earlier) i.head × IsIntervalOf N E earlier i.head i.members × GoesOn N E (earlier ++ i.members) rest

-- the intervals of a graph with these nodes and arcs, whose first node is 0
abbrev pub IsLevel : (ℕ → Type 0) → (ℕ → ℕ → Type 0) → List Interval → Type 0
IsLevel N E [] = ⊥
IsLevel N E (i ∷ rest) = (i.head ≡ 0) × IsIntervalOf N E [] 0 i.members × GoesOn N E i.members rest

abbrev pub heads_of : List Interval → List ℕ
heads_of level = map (λ i. i.head) level

abbrev pub holds : Interval → ℕ → Bool
holds i v = list_any (nat_eq v) i.members

-- the head of the interval that holds node v
abbrev pub owner : List Interval → ℕ → ℕ
owner [] v = v
owner (i ∷ rest) v = if holds i v then i.head else owner rest v

-- an arc of the next level: some arc leaves the interval of a for the interval of b
abbrev pub NextArc : (ℕ → ℕ → Type 0) → List Interval → ℕ → ℕ → Type 0
NextArc E level a b = (a ≢ b) × (u : ℕ) × (v : ℕ) × E u v × (owner level u ≡ a) × (owner level v ≡ b)

abbrev pub AreSingle : List Interval → Type 0
AreSingle level = (i : Interval) → IsAmong level i → length i.members ≡ 1
  where
    IsAmong : List Interval → Interval → Type 0
    IsAmong [] i = ⊥
    IsAmong (j ∷ rest) i = (j ≡ i) ⊎ IsAmong rest i

-- the reduction ends with a level that has one interval, or whose intervals are all single nodes
abbrev pub IsLastLevel : List Interval → Type 0
IsLastLevel level = (length level ≡ 1) ⊎ AreSingle level

-- the levels from this one on
abbrev pub AreLevels : (ℕ → Type 0) → (ℕ → ℕ → Type 0) → List Interval → List (List Interval) → Type 0
AreLevels N E level [] = IsLevel N E level × IsLastLevel level
AreLevels N E level (next ∷ rest) = IsLevel N E level × (IsLastLevel level → ⊥) × AreLevels (IsIn (heads_of level)) (NextArc E level) next rest

abbrev pub last_level : List Interval → List (List Interval) → List Interval
last_level level [] = level
last_level level (next ∷ rest) = last_level next rest
