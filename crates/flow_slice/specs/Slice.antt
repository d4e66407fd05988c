-- A slice keeps the assignments and tests of a set of relevant lines: every other assignment and every assertion becomes SKIP, and every other test is fixed to the side that is nearer to relevant lines.
use Rattle.std.specs.Prelude.{◌≡◌, ◌↔◌, ℕ, Bool, true, false, Some, [], ◌∷◌, map, length, slice_get, if◌then◌else◌}
use Rattle.il_core.specs.LineGraph.{IsIn}
use Rattle.il_core.specs.Expression.{Expression, truth}
use Rattle.il_core.specs.Procedure.{Procedure, Instruction, pre, assign, if_true, otherwise, end_if, loop, end_loop, exit, exit_when, label, goto, skip, assert, return, end_procedure}
use Rattle.il_core.specs.Checked.{NamedProcedure, procedure_of}
use Rattle.flow_graph.specs.declared.graph.FlowGraph.{FlowGraph}
use Rattle.flow_graph.specs.Graph.{Joins, graph_of, heads_from}
use Rattle.flow_graph.specs.Reached.{IsReached, Lists}
use Rattle.info_flow.specs.Relevance.{IsTest}
use Rattle.flow_slice.specs.declared.sliced.Fixed.{Fixed}
use Rattle.flow_slice.specs.declared.sliced.Outline.{Outline}
use Rattle.flow_slice.specs.declared.sliced.SlicedProc.{SlicedProc}
use Rattle.flow_slice.specs.Nearer.{IsNearer}

-- the truth value to which the test at line k is fixed: FALSE exactly where the line that its false arc enters is nearer to
-- relevant lines than the line that its true arc enters
abbrev pub IsFixedTo : FlowGraph → (ℕ → Bool) → ℕ → Bool → Type 0
IsFixedTo g relevant k taken = (met unmet : ℕ) → heads_from g.arcs k ≡ met ∷ unmet ∷ []
    → (taken ≡ false) ↔ IsNearer (Joins g.arcs) (λ x. relevant x ≡ true) unmet met

-- a test keeps its condition where it is relevant
abbrev pub condition_kept : Bool → Bool → Expression → Expression
condition_kept relevant taken e = if relevant then e else truth taken

-- what a slice has in the place of an instruction that is relevant or not, and whose test would be fixed to this truth value
abbrev pub sliced : Bool → Bool → Instruction → Instruction
sliced relevant taken (pre e) = pre (truth true)
sliced relevant taken (assign p e) = if relevant then assign p e else skip
sliced relevant taken (if_true e q) = if_true (condition_kept relevant taken e) q
sliced relevant taken (otherwise q) = otherwise q
sliced relevant taken end_if = end_if
sliced relevant taken loop = loop
sliced relevant taken (end_loop q) = end_loop q
sliced relevant taken (exit q) = exit q
sliced relevant taken (exit_when e q) = exit_when (condition_kept relevant taken e) q
sliced relevant taken label = label
sliced relevant taken (goto q) = goto q
sliced relevant taken skip = skip
sliced relevant taken (assert e) = skip
sliced relevant taken (return q) = return q
sliced relevant taken (end_procedure e) = end_procedure (truth true)

-- the slice of a procedure for a set of relevant lines: the places stay, and each line is sliced
pub record IsSlice (p : Procedure) (relevant : ℕ → Bool) (slice : Procedure) : Type 0 where
  pub taken : ℕ → Bool
  pub fixed : (k : ℕ) → IsTest (graph_of p).nodes k → relevant k ≡ false → IsFixedTo (graph_of p) relevant k (taken k)
  pub places : slice.places ≡ p.places
  pub size : length slice.lines ≡ length p.lines
  pub lines : (k : ℕ) (i : Instruction) → slice_get p.lines k ≡ Some i → slice_get slice.lines k ≡ Some (sliced (relevant k) (taken k) i)

-- what a slice keeps and fixes: ascending, the reachable relevant lines, and the reachable tests that are fixed
pub record IsOutline (g : FlowGraph) (relevant : ℕ → Bool) (outline : Outline) : Type 0 where
  pub keep : Lists (λ k. IsReached g.arcs k × (relevant k ≡ true)) outline.keep
  pub fixed : Lists (λ k. IsReached g.arcs k × IsTest g.nodes k × (relevant k ≡ false)) (map (λ f. f.line) outline.fixed)
  pub sides : (f : Fixed) → IsIn outline.fixed f → IsFixedTo g relevant f.line f.taken

-- what the call answers for a procedure: its slice under the same name, and what it keeps and fixes
pub record IsSliced (p : NamedProcedure) (relevant : ℕ → Bool) (answer : SlicedProc) : Type 0 where
  pub name : answer.proc.name ≡ p.name
  pub slice : IsSlice (procedure_of p) relevant (procedure_of answer.proc)
  pub outline : IsOutline (graph_of (procedure_of p)) relevant (record { keep = answer.keep; fixed = answer.fixed })
