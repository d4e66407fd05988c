-- What stepping the lines of a region from one of its inputs comes to.
use Rattle.std.specs.Prelude.{◌≡◌, ℕ, List, [], ◌∷◌, length, true}
use Rattle.il_core.specs.Evaluation.{State}
use Rattle.il_core.specs.Machine.{Step, step}
use Rattle.il_core.specs.Procedure.{Procedure}
use Rattle.il_core.specs.declared.line.Next.{Next}
use Rattle.il_core.specs.declared.line.Next.TheVariants as next
use Rattle.il_core.specs.declared.line.Stop.{Stop}
use Rattle.il_core.specs.declared.line.Stop.TheVariants as stop
use Rattle.control_flow.specs.declared.control.LoopInfo.{LoopInfo}
use Rattle.line_machine.specs.Cut.{Reaches}
use Rattle.sym_terms.specs.Substitution.{state_of}
use Rattle.test_graph.specs.Way.{all_hold}
use Rattle.region_paths.specs.Region.{head_marks, leading_of}
use Rattle.region_paths.specs.Listing.{RegionPath}

-- at least one step, to a halt or to the first head
abbrev pub StepsTo : Procedure → List LoopInfo → ℕ → State → Stop → State → Type 0
StepsTo p loops pc s end to_s = (n : ℕ) × Reaches p (head_marks (length p.lines) loops) n pc s end to_s

-- a step that halts ends here, and behind any other step this holds
abbrev pub StepsPast : Step → Stop → State → Type 0 → Type 0
StepsPast t end to_s rest = Past t.next
  where
    Past : Next → Type 0
    Past (next.Halted h) = (end ≡ stop.Halted h) × (to_s ≡ t.state)
    Past (next.At q) = rest

-- one step of each of these lines, to a halt or past the last of them
abbrev pub StepsThrough : Procedure → ℕ → List ℕ → State → Stop → State → Type 0
StepsThrough p head [] s end to_s = (end ≡ stop.Head head) × (to_s ≡ s)
StepsThrough p head (a ∷ lines) s end to_s = StepsPast (step p a s) end to_s (StepsThrough p head lines (step p a s).state end to_s)

-- from a head on through its leading assertions
abbrev pub StepsOn : Procedure → List LoopInfo → Stop → State → Stop → State → Type 0
StepsOn p loops (stop.Halted h) s end to_s = (end ≡ stop.Halted h) × (to_s ≡ s)
StepsOn p loops (stop.Head q) s end to_s = StepsThrough p q (leading_of loops q) s end to_s

-- to a halt or to the first head, and there on through its leading assertions
abbrev pub LongStepsTo : Procedure → List LoopInfo → ℕ → State → Stop → State → Type 0
LongStepsTo p loops pc s end to_s = (met : Stop) × (mid : State) × StepsTo p loops pc s met mid × StepsOn p loops met mid end to_s

-- exactly one path with a property has only literals that hold in this state, and stepping from it gives the path's stop and values
pub record TakesOne (P : RegionPath → Type 0) (Leads : Stop → State → Type 0) (s : State) : Type 0 where
  pub path : RegionPath
  pub there : P path
  pub holds : all_hold path.row.literals s ≡ true
  pub only : (r : RegionPath) → P r → all_hold r.row.literals s ≡ true → r ≡ path
  pub leads : Leads path.stop (state_of path.row.values s)
