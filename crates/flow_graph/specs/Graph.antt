-- The graph of a procedure has a node for each line and an arc for each line and head, in line order, the true arc of a test first.
use Rattle.std.specs.Prelude.{◌≡◌, ◌≢◌, ◌↔◌, ℕ, suc, ◌+◌, ◌<◌, ◌≤◌, Bool, true, false, not, ◌&&◌, Option, Some, None, IsSome, IfSome, List, [], ◌∷◌, ◌++◌, map, length, nat_eq, if◌then◌else◌, slice_get}
use Rattle.std.specs.Int.{bit_at}
use Rattle.std.specs.Int.RustNames.{bit_or}
use Rattle.il_core.specs.Procedure.{Procedure, Instruction, pre, assign, if_true, otherwise, end_if, loop, end_loop, exit, exit_when, label, goto, skip, assert, return, end_procedure}
use Rattle.il_core.specs.LineGraph.{heads_of, IsIn}
use Rattle.il_core.specs.declared.line.Place.{Place}
use Rattle.il_core.specs.declared.statement.Mode.{Mode}
use Rattle.il_core.specs.declared.statement.Mode.TheVariants.{Input, InOut, Output, Local}
use Rattle.flow_graph.specs.Reading.{Reads, place_mask, mask_of}
use Rattle.flow_graph.specs.declared.graph.NodeKind.{NodeKind}
use Rattle.flow_graph.specs.declared.graph.NodeKind.TheVariants.{Assign, Test, Assertion, Plain, Other, Last}
use Rattle.flow_graph.specs.declared.graph.Node.{Node}
use Rattle.flow_graph.specs.declared.graph.Arc.{Arc}
use Rattle.flow_graph.specs.declared.graph.FlowGraph.{FlowGraph}

-- what a line is to the analyses of the graph
abbrev pub kind_of : Instruction → NodeKind
kind_of (pre e) = Other
kind_of (assign p e) = Assign
kind_of (if_true e q) = Test
kind_of (otherwise q) = Other
kind_of end_if = Plain
kind_of loop = Plain
kind_of (end_loop q) = Other
kind_of (exit q) = Other
kind_of (exit_when e q) = Test
kind_of label = Plain
kind_of (goto q) = Other
kind_of skip = Plain
kind_of (assert e) = Assertion
kind_of (return q) = Other
kind_of (end_procedure e) = Last

-- an assignment or a test reads a place; annotations read nothing
abbrev pub IsRead : Instruction → ℕ → Type 0
IsRead (pre e) p = ⊥
IsRead (assign q e) p = Reads e p
IsRead (if_true e q) p = Reads e p
IsRead (otherwise q) p = ⊥
IsRead end_if p = ⊥
IsRead loop p = ⊥
IsRead (end_loop q) p = ⊥
IsRead (exit q) p = ⊥
IsRead (exit_when e q) p = Reads e p
IsRead label p = ⊥
IsRead (goto q) p = ⊥
IsRead skip p = ⊥
IsRead (assert e) p = ⊥
IsRead (return q) p = ⊥
IsRead (end_procedure e) p = ⊥

-- the mask of the places that an assignment or a test reads
abbrev pub reads_of : Instruction → ℕ
reads_of (pre e) = 0
reads_of (assign q e) = mask_of e
reads_of (if_true e q) = mask_of e
reads_of (otherwise q) = 0
reads_of end_if = 0
reads_of loop = 0
reads_of (end_loop q) = 0
reads_of (exit q) = 0
reads_of (exit_when e q) = mask_of e
reads_of label = 0
reads_of (goto q) = 0
reads_of skip = 0
reads_of (assert e) = 0
reads_of (return q) = 0
reads_of (end_procedure e) = 0

-- the place that a line assigns
abbrev pub written_by : Instruction → Option ℕ
written_by (pre e) = None
written_by (assign p e) = Some p
written_by (if_true e q) = None
written_by (otherwise q) = None
written_by end_if = None
written_by loop = None
written_by (end_loop q) = None
written_by (exit q) = None
written_by (exit_when e q) = None
written_by label = None
written_by (goto q) = None
written_by skip = None
written_by (assert e) = None
written_by (return q) = None
written_by (end_procedure e) = None

abbrev pub is_handed_back : Mode → Bool
is_handed_back Input = false
is_handed_back InOut = true
is_handed_back Output = true
is_handed_back Local = false

-- an OUT or INOUT variable, and no OLD copy
abbrev pub is_returned : Place → Bool
is_returned p = not p.old && is_handed_back p.mode

abbrev pub is_some_returned : Option Place → Bool
is_some_returned None = false
is_some_returned (Some p) = is_returned p

-- place k is there, and an OUT or INOUT variable
abbrev pub IsReturned : List Place → ℕ → Type 0
IsReturned places k = is_some_returned (slice_get places k) ≡ true

-- the mask of the OUT and INOUT variables among places that are numbered from k on
abbrev pub returned_from : ℕ → List Place → ℕ
returned_from k [] = 0
returned_from k (p ∷ ps) = bit_or (if is_returned p then place_mask k else 0) (returned_from (suc k) ps)

-- what the end of a procedure reads, of the mask of the variables that are handed back
abbrev pub last_reads_of : ℕ → NodeKind → ℕ
last_reads_of returned Assign = 0
last_reads_of returned Test = 0
last_reads_of returned Assertion = 0
last_reads_of returned Plain = 0
last_reads_of returned Other = 0
last_reads_of returned Last = returned

-- the node of a line
abbrev pub node_of : ℕ → Instruction → Node
node_of returned i = record { kind = kind_of i; reads = reads_of i; writes = written_by i; last_reads = last_reads_of returned (kind_of i) }

abbrev pub arc_to : ℕ → ℕ → Arc
arc_to k h = record { tail = k; head = h }

-- the arcs of lines that are numbered from k on
abbrev pub arcs_from : ℕ → List Instruction → List Arc
arcs_from k [] = []
arcs_from k (i ∷ rest) = map (arc_to k) (heads_of k i) ++ arcs_from (k + 1) rest

-- the graph of a procedure
abbrev pub graph_of : Procedure → FlowGraph
graph_of p = record { nodes = map (node_of (returned_from 0 p.places)) p.lines; arcs = arcs_from 0 p.lines }

-- an arc goes from node a to node b
abbrev pub Joins : List Arc → ℕ → ℕ → Type 0
Joins arcs a b = IsIn arcs (arc_to a b)

-- the nodes that arcs from node k enter, in the order of the arcs
abbrev pub heads_from : List Arc → ℕ → List ℕ
heads_from [] k = []
heads_from (a ∷ rest) k = if nat_eq a.tail k then a.head ∷ heads_from rest k else heads_from rest k

-- the nodes that arcs into node k leave, in the order of the arcs
abbrev pub tails_into : List Arc → ℕ → List ℕ
tails_into [] k = []
tails_into (a ∷ rest) k = if nat_eq a.head k then a.tail ∷ tails_into rest k else tails_into rest k

-- no arc stands behind one of a greater tail
abbrev pub StandInOrder : List Arc → Type 0
StandInOrder [] = Unit {0}
StandInOrder (a ∷ rest) = ((b : Arc) → IsIn rest b → a.tail ≤ b.tail) × StandInOrder rest

-- an arc of a well formed graph of that many nodes
pub record IsSoundArc (count : ℕ) (a : Arc) : Type 0 where
  pub tail_inside : a.tail < count
  pub head_inside : a.head < count
  pub enters_no_start : a.head ≢ 0
  pub goes_elsewhere : a.tail ≢ a.head

-- how many arcs leave a node of a kind
abbrev pub arc_count : NodeKind → ℕ
arc_count Assign = 1
arc_count Test = 2
arc_count Assertion = 1
arc_count Plain = 1
arc_count Other = 1
arc_count Last = 0

-- the node k of a well formed graph of that many nodes
pub record IsSoundNode (count : ℕ) (arcs : List Arc) (k : ℕ) (n : Node) : Type 0 where
  pub last : (n.kind ≡ Last) ↔ (k + 1 ≡ count)
  pub arcs_leave : length (heads_from arcs k) ≡ arc_count n.kind
  pub assigns : IsSome n.writes ↔ (n.kind ≡ Assign)
  pub writes_low : IfSome n.writes (λ p. p < 64)
  pub only_these_read : n.kind ≢ Assign → n.kind ≢ Test → n.reads ≡ 0
  pub only_last_returns : n.kind ≢ Last → n.last_reads ≡ 0

-- a well formed graph
pub record IsWellFormed (g : FlowGraph) : Type 0 where
  pub some_nodes : 2 ≤ length g.nodes
  pub few_nodes : length g.nodes ≤ 1000
  pub in_order : StandInOrder g.arcs
  pub arcs : (a : Arc) → IsIn g.arcs a → IsSoundArc (length g.nodes) a
  pub nodes : (k : ℕ) (n : Node) → slice_get g.nodes k ≡ Some n → IsSoundNode (length g.nodes) g.arcs k n

-- a node reads and writes places alone, and its mask of last reads is 0 or has exactly the variables that are handed back
pub record UsesPlaces (places : List Place) (n : Node) : Type 0 where
  pub reads : (p : ℕ) → bit_at n.reads p ≡ 1 → p < length places
  pub writes : IfSome n.writes (λ p. p < length places)
  pub returns : n.kind ≡ Last → (p : ℕ) → (bit_at n.last_reads p ≡ 1) ↔ IsReturned places p

-- at most 64 places, which are those of the graph's nodes
pub record HasPlaces (g : FlowGraph) (places : List Place) : Type 0 where
  pub few : length places ≤ 64
  pub each : (k : ℕ) (n : Node) → slice_get g.nodes k ≡ Some n → UsesPlaces places n

-- the mask of each node has the bits of exactly the places that its line reads
abbrev pub ReadsExactly : List Instruction → List Node → Type 0
ReadsExactly lines nodes = (k : ℕ) (i : Instruction) (n : Node) → slice_get lines k ≡ Some i → slice_get nodes k ≡ Some n
    → (p : ℕ) → (bit_at n.reads p ≡ 1) ↔ IsRead i p
