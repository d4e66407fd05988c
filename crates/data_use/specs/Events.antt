-- The events of a variable along lines are its reads and writes there in their order: each line's read of it, then its write.
use Rattle.std.specs.Prelude.{ℕ, ◌==◌, nat_eq, if◌then◌else◌, Option, Some, None, List, [], ◌∷◌, ◌++◌, slice_get}
use Rattle.std.specs.Int.{bit_at}
use Rattle.flow_graph.specs.declared.graph.NodeKind.{NodeKind}
use Rattle.flow_graph.specs.declared.graph.NodeKind.TheVariants.{Assign, Test, Assertion, Plain, Other, Last}
use Rattle.flow_graph.specs.declared.graph.Node.{Node}

pub data Event : Type 0 where
  read : Event
  write : Event

-- a read, where the mask has the variable's bit
abbrev pub reading : ℕ → ℕ → List Event
reading mask v = if bit_at mask v == 1 then read ∷ [] else []

-- a write, where the variable is the one assigned
abbrev pub writing : Option ℕ → ℕ → List Event
writing None v = []
writing (Some p) v = if nat_eq p v then write ∷ [] else []

-- an assignment reads, then writes; a test reads; the last line reads what is handed back; all else does nothing
abbrev pub events_by : NodeKind → Node → ℕ → List Event
events_by Assign n v = reading n.reads v ++ writing n.writes v
events_by Test n v = reading n.reads v
events_by Assertion n v = []
events_by Plain n v = []
events_by Other n v = []
events_by Last n v = reading n.last_reads v

abbrev pub events_of : Node → ℕ → List Event
events_of n v = events_by n.kind n v

abbrev pub events_at : Option Node → ℕ → List Event
events_at None v = []
events_at (Some n) v = events_of n v

abbrev pub events_along : List Node → ℕ → List ℕ → List Event
events_along nodes v [] = []
events_along nodes v (k ∷ ks) = events_at (slice_get nodes k) v ++ events_along nodes v ks
