-- Graphs with the same nodes and the same arcs have the same levels.
use Rattle.std.proofs.Common.{ℕ, List, [], ◌∷◌, ◌++◌}
use Rattle.std.specs.Prelude.{◌↔◌}
use Rattle.il_core.specs.LineGraph.{IsIn}
use Rattle.interval_reduce.specs.declared.interval.Interval.{Interval}
use Rattle.interval_reduce.specs.Interval.{IsLeast, Fits, Takes, IsIntervalOf}
use Rattle.interval_reduce.specs.Level.{MayBeHead, GoesOn, IsLevel, NextArc, heads_of, AreLevels}

-- the same numbers have both properties
abbrev pub AreAlike : (ℕ → Type 0) → (ℕ → Type 0) → Type 0
AreAlike N M = (v : ℕ) → N v ↔ M v

-- the same numbers are joined both ways
abbrev pub JoinAlike : (ℕ → ℕ → Type 0) → (ℕ → ℕ → Type 0) → Type 0
JoinAlike E F = (u v : ℕ) → E u v ↔ F u v

turned : (N M : ℕ → Type 0) → AreAlike N M → AreAlike M N
turned N M n = λ v. ((n v).1, (n v).0)

turned_arcs : (E F : ℕ → ℕ → Type 0) → JoinAlike E F → JoinAlike F E
turned_arcs E F e = λ u v. ((e u v).1, (e u v).0)

fits_alike : (N M : ℕ → Type 0) (E F : ℕ → ℕ → Type 0) → AreAlike N M → JoinAlike E F → (earlier members : List ℕ) (v : ℕ) → Fits N E earlier members v → Fits M F earlier members v
fits_alike N M E F n e earlier members v f = record {
  node = (n v).0 f.node;
  not_earlier = f.not_earlier;
  not_taken = f.not_taken;
  entered_inside = λ u a. f.entered_inside u ((e u v).1 a);
}

least_alike : (P Q : ℕ → Type 0) → ((v : ℕ) → P v → Q v) → ((v : ℕ) → Q v → P v) → (v : ℕ) → IsLeast P v → IsLeast Q v
least_alike P Q there back v h = (there v h.0, λ w q. h.1 w (back w q))

takes_alike : (N M : ℕ → Type 0) (E F : ℕ → ℕ → Type 0) → AreAlike N M → JoinAlike E F → (earlier members others : List ℕ) → Takes N E earlier members others → Takes M F earlier members others
takes_alike N M E F n e earlier members [] h = λ v f. h v (fits_alike M N F E (turned N M n) (turned_arcs E F e) earlier members v f)
takes_alike N M E F n e earlier members (v ∷ others) h = (
  least_alike (Fits N E earlier members) (Fits M F earlier members) (fits_alike N M E F n e earlier members)
      (fits_alike M N F E (turned N M n) (turned_arcs E F e) earlier members) v h.0,
  takes_alike N M E F n e earlier (members ++ v ∷ []) others h.1,
)

interval_alike : (N M : ℕ → Type 0) (E F : ℕ → ℕ → Type 0) → AreAlike N M → JoinAlike E F → (earlier : List ℕ) (head : ℕ) (members : List ℕ) → IsIntervalOf N E earlier head members
    → IsIntervalOf M F earlier head members
interval_alike N M E F n e earlier head members h = (h.0, h.1, takes_alike N M E F n e earlier (head ∷ []) h.0 h.2)

head_alike : (N M : ℕ → Type 0) (E F : ℕ → ℕ → Type 0) → AreAlike N M → JoinAlike E F → (earlier : List ℕ) (v : ℕ) → MayBeHead N E earlier v → MayBeHead M F earlier v
head_alike N M E F n e earlier v h = record { node = (n v).0 h.node; outside = h.outside; from = h.from; inside = h.inside; arc = (e h.from v).0 h.arc }

goes_alike : (N M : ℕ → Type 0) (E F : ℕ → ℕ → Type 0) → AreAlike N M → JoinAlike E F → (earlier : List ℕ) (level : List Interval) → GoesOn N E earlier level → GoesOn M F earlier level
goes_alike N M E F n e earlier [] h = λ v p. h v (head_alike M N F E (turned N M n) (turned_arcs E F e) earlier v p)
goes_alike N M E F n e earlier (i ∷ rest) h = (
  least_alike (MayBeHead N E earlier) (MayBeHead M F earlier) (head_alike N M E F n e earlier) (head_alike M N F E (turned N M n) (turned_arcs E F e) earlier) i.head h.0,
  interval_alike N M E F n e earlier i.head i.members h.1,
  goes_alike N M E F n e (earlier ++ i.members) rest h.2,
)

pub level_alike : (N M : ℕ → Type 0) (E F : ℕ → ℕ → Type 0) → AreAlike N M → JoinAlike E F → (level : List Interval) → IsLevel N E level → IsLevel M F level
level_alike N M E F n e [] h = h
level_alike N M E F n e (i ∷ rest) h = (h.0, interval_alike N M E F n e [] 0 i.members h.1, goes_alike N M E F n e i.members rest h.2)

-- the arcs of the next level come from the arcs of this one
next_alike : (E F : ℕ → ℕ → Type 0) → JoinAlike E F → (level : List Interval) → JoinAlike (NextArc E level) (NextArc F level)
next_alike E F e level a b = (
  λ h. (h.0, h.1, h.2, (e h.1 h.2).0 h.3, h.4, h.5),
  λ h. (h.0, h.1, h.2, (e h.1 h.2).1 h.3, h.4, h.5),
)

pub levels_alike : (N M : ℕ → Type 0) (E F : ℕ → ℕ → Type 0) → AreAlike N M → JoinAlike E F → (level : List Interval) (rest : List (List Interval)) → AreLevels N E level rest
    → AreLevels M F level rest
levels_alike N M E F n e level [] h = (level_alike N M E F n e level h.0, h.1)
levels_alike N M E F n e level (next ∷ rest) h = (
  level_alike N M E F n e level h.0,
  h.1,
  levels_alike (IsIn (heads_of level)) (IsIn (heads_of level)) (NextArc E level) (NextArc F level) (λ v. (λ i. i, λ i. i)) (next_alike E F e level) next rest h.2,
)
