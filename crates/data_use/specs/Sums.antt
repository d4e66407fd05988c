-- The sum over walks joins two points of a variable where the events of some walk lead from one to the other; the rows are told by it.
use Rattle.std.specs.Prelude.{◌≡◌, ◌⊎◌, ◌↔◌, ℕ, ◌+◌, ◌*◌, Some, IsTrue, List, [], ◌∷◌, ◌++◌, length, map, slice_get}
use Rattle.il_core.specs.LineGraph.{IsIn}
use Rattle.flow_graph.specs.Reached.{IsInner, Differ}
use Rattle.flow_graph.specs.declared.graph.Arc.{Arc}
use Rattle.flow_graph.specs.declared.graph.Node.{Node}
use Rattle.flow_graph.specs.declared.graph.FlowGraph.{FlowGraph}
use Rattle.regular_algebra.specs.Relation.{Joins}
use Rattle.regular_algebra.specs.Answers.{AreAnswers, AnswersBelow}
use Rattle.regular_algebra.specs.Words.{EachNamesLower}
use Rattle.regular_algebra.specs.declared.steps.Ends.{Ends}
use Rattle.regular_algebra.specs.declared.steps.Plan.{Plan}
use Rattle.regular_algebra.specs.declared.steps.Entry.{Entry}
use Rattle.regular_algebra.specs.declared.relation.BitRelation.{BitRelation}
use Rattle.data_use.specs.Facts.{Happens, HappensToLast, IsUseRow, place_of}
use Rattle.data_use.specs.Points.{Leads, number, Carries}
use Rattle.data_use.specs.declared.points.Point.{Point}
use Rattle.data_use.specs.declared.points.Point.TheVariants.{Fresh, ReadFirst, Any, ReadOnce, WrittenOnce, JustWritten, Overwritten}
use Rattle.data_use.specs.declared.row.UseRow.{UseRow}

-- the ends of an arc
abbrev pub ends_along : Arc → Ends
ends_along a = record { tail = a.tail; head = a.head }

-- a plan that answers, over arcs like these, the two targets behind the lines
pub record IsPlanOf (count : ℕ) (arcs : List Arc) (p : Plan) : Type 0 where
  pub lower : EachNamesLower (length arcs) p.steps
  pub below : AnswersBelow (length arcs + length p.steps) p.answers
  pub answers : AreAnswers (map ends_along arcs) p.steps 0 (count ∷ (count + 1) ∷ []) p.answers

-- the value of each entry carries what its tail does
abbrev pub EachCarries : List Node → List ℕ → List (Entry BitRelation) → Type 0
EachCarries nodes group es = (e : Entry BitRelation) → IsIn es e → (x y : ℕ) → Joins e.value x y ↔ Carries nodes group (length group) e.tail x y

-- the inner lines and the last, each exactly once
pub record IsFullOrder (g : FlowGraph) (order : List ℕ) : Type 0 where
  pub once : Differ order
  pub exact : (k : ℕ) → IsIn order k ↔ (IsInner g k ⊎ (k + 1 ≡ length g.nodes))

-- what all walks join (all), and what the walks to the last line join (ended), for each variable of a group
pub record AreSums (g : FlowGraph) (group : List ℕ) (all ended : BitRelation) : Type 0 where
  pub anywhere : (slot v : ℕ) → slice_get group slot ≡ Some v → (p q : Point)
      → Joins all (slot * 7 + number p) (slot * 7 + number q) ↔ Happens g v (λ es. Leads es p q)
  pub at_end : (slot v : ℕ) → slice_get group slot ≡ Some v → (p q : Point)
      → Joins ended (slot * 7 + number p) (slot * 7 + number q) ↔ HappensToLast g v (λ es. Leads es p q)

-- two points of a variable are joined
abbrev pub IsJoined : BitRelation → ℕ → Point → Point → Type 0
IsJoined r first p q = Joins r (first + number p) (first + number q)

-- the facts of a row, as the sums tell them
pub record TellsRow (anywhere at_end : BitRelation) (first : ℕ) (row : UseRow) : Type 0 where
  pub read_first : IsTrue row.read_first ↔ IsJoined anywhere first Fresh ReadFirst
  pub overwritten : IsTrue row.overwritten ↔ IsJoined anywhere first Any Overwritten
  pub last_write : IsTrue row.last_write ↔ IsJoined at_end first Any JustWritten
  pub never_read : IsTrue row.never_read ↔ (IsJoined anywhere first Any ReadOnce → ⊥)
  pub never_written : IsTrue row.never_written ↔ (IsJoined anywhere first Any WrittenOnce → ⊥)
  pub end_unwritten : IsTrue row.end_unwritten ↔ IsJoined at_end first Fresh Fresh

-- rows of these variables are added
pub record AddsRows (g : FlowGraph) (variables : List ℕ) (old new : List UseRow) : Type 0 where
  pub places : map place_of new ≡ map place_of old ++ variables
  pub facts : (row : UseRow) → IsIn new row → IsIn old row ⊎ IsUseRow g row
