-- A variable's row has six facts about its events along the walks from line 0, all lines of a walk included.
use Rattle.std.specs.Prelude.{◌≡◌, ◌↔◌, ℕ, suc, ◌+◌, IsTrue, if◌then◌else◌, List, [], ◌∷◌, ◌++◌, length}
use Rattle.il_core.specs.LineGraph.{IsIn}
use Rattle.il_core.specs.Run.{is_variable}
use Rattle.il_core.specs.declared.line.Place.{Place}
use Rattle.flow_graph.specs.Graph.{Joins}
use Rattle.flow_graph.specs.Search.{IsWalk}
use Rattle.flow_graph.specs.declared.graph.FlowGraph.{FlowGraph}
use Rattle.data_use.specs.Events.{Event, read, write, events_along}
use Rattle.data_use.specs.declared.row.UseRow.{UseRow}

-- the variable is read before any write of it
abbrev pub IsReadFirst : List Event → Type 0
IsReadFirst es = (after : List Event) × (es ≡ read ∷ after)

-- it is written twice with no read between
abbrev pub IsOverwritten : List Event → Type 0
IsOverwritten es = (before : List Event) × (after : List Event) × (es ≡ before ++ write ∷ write ∷ after)

-- the last event is a write
abbrev pub IsWrittenLast : List Event → Type 0
IsWrittenLast es = (before : List Event) × (es ≡ before ++ write ∷ [])

-- it is read at some time
abbrev pub IsRead : List Event → Type 0
IsRead es = IsIn es read

-- it is written at some time
abbrev pub IsWritten : List Event → Type 0
IsWritten es = IsIn es write

-- on some walk from line 0 to line x the events of variable v are such
abbrev pub HappensAt : FlowGraph → ℕ → (List Event → Type 0) → ℕ → Type 0
HappensAt g v P x = (lines : List ℕ) × IsWalk (Joins g.arcs) 0 lines x × P (events_along g.nodes v (0 ∷ lines))

-- on some walk from line 0
abbrev pub Happens : FlowGraph → ℕ → (List Event → Type 0) → Type 0
Happens g v P = (x : ℕ) × HappensAt g v P x

-- on some walk from line 0 to the last line
abbrev pub HappensToLast : FlowGraph → ℕ → (List Event → Type 0) → Type 0
HappensToLast g v P = (x : ℕ) × (x + 1 ≡ length g.nodes) × HappensAt g v P x

-- the facts of a row, each both ways
pub record IsUseRow (g : FlowGraph) (row : UseRow) : Type 0 where
  pub read_first : IsTrue row.read_first ↔ Happens g row.place IsReadFirst
  pub overwritten : IsTrue row.overwritten ↔ Happens g row.place IsOverwritten
  pub last_write : IsTrue row.last_write ↔ HappensToLast g row.place IsWrittenLast
  pub never_read : IsTrue row.never_read ↔ (Happens g row.place IsRead → ⊥)
  pub never_written : IsTrue row.never_written ↔ (Happens g row.place IsWritten → ⊥)
  pub end_unwritten : IsTrue row.end_unwritten ↔ HappensToLast g row.place (λ es. IsWritten es → ⊥)

-- the numbers of the variables, which are the places that are no OLD copies, among places that are numbered from k on
abbrev pub variables_from : ℕ → List Place → List ℕ
variables_from k [] = []
variables_from k (p ∷ ps) = if is_variable p then k ∷ variables_from (suc k) ps else variables_from (suc k) ps

-- the variable of a row
abbrev pub place_of : UseRow → ℕ
place_of row = row.place
