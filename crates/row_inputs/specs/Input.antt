-- The test input of a row is the least input of its literals, where the lines stepped from it take the row's decisions and stop as it does.
use Rattle.std.specs.Prelude.{◌≡◌, ◌⊎◌, ℕ, zero, suc, Bool, false, Option, Some, None, List, [], ◌∷◌, ◌++◌, if◌then◌else◌}
use Rattle.il_core.specs.Evaluation.{State}
use Rattle.il_core.specs.Machine.{step}
use Rattle.il_core.specs.Procedure.{Procedure}
use Rattle.il_core.specs.declared.line.Next.{Next}
use Rattle.il_core.specs.declared.line.Next.TheVariants as next
use Rattle.il_core.specs.declared.line.Stop.{Stop}
use Rattle.il_core.specs.declared.line.Stop.TheVariants as stop
use Rattle.control_flow.specs.declared.control.LoopInfo.{LoopInfo}
use Rattle.test_graph.specs.Way.{decisions}
use Rattle.region_paths.specs.Region.{is_head}
use Rattle.path_inputs.specs.Least.{IsPlainlyRefuted, IsLeastInput}
use Rattle.semantic_tables.specs.Row.{NormalRow}

-- where a step that leads here stops: at a halt, or at a loop head
abbrev pub stop_at : List LoopInfo → Next → Option Stop
stop_at loops (next.Halted h) = Some (stop.Halted h)
stop_at loops (next.At q) = if is_head loops q then Some (stop.Head q) else None

-- n + 1 steps from line pc and a state, of which the last alone halts or comes to a head, take these decisions and stop so
abbrev pub TakesDecisions : Procedure → List LoopInfo → ℕ → ℕ → State → List Bool → Stop → Type 0
TakesDecisions p loops zero pc s path end = (path ≡ decisions p pc s) × (stop_at loops (step p pc s).next ≡ Some end)
TakesDecisions p loops (suc n) pc s path end = (q : ℕ) × (rest : List Bool) × ((step p pc s).next ≡ next.At q) × (is_head loops q ≡ false)
    × (path ≡ decisions p pc s ++ rest) × TakesDecisions p loops n q (step p pc s).state rest end

-- the lines stepped from line pc and a state take the row's decisions and stop as it does
abbrev pub TakesRow : Procedure → List LoopInfo → ℕ → State → NormalRow → Type 0
TakesRow p loops pc s r = (n : ℕ) × TakesDecisions p loops n pc s r.path r.stop

abbrev pub IsTestInput : Procedure → List LoopInfo → ℕ → NormalRow → State → Type 0
IsTestInput p loops pc r s = IsLeastInput p.places pc r.literals s × TakesRow p loops pc s r

-- a row has no test input where it is plainly refuted, or its least input does not take it
abbrev pub HasNoTestInput : Procedure → List LoopInfo → ℕ → NormalRow → Type 0
HasNoTestInput p loops pc r = IsPlainlyRefuted p.places pc r.literals ⊎ ((s : State) × IsLeastInput p.places pc r.literals s × (TakesRow p loops pc s r → ⊥))

-- the test input of a row, or that it has none
abbrev pub TestInputIs : Procedure → List LoopInfo → ℕ → NormalRow → Option State → Type 0
TestInputIs p loops pc r None = HasNoTestInput p loops pc r
TestInputIs p loops pc r (Some s) = IsTestInput p loops pc r s

-- the same of each of these rows, in order
abbrev pub TestInputsAre : Procedure → List LoopInfo → ℕ → List NormalRow → List (Option State) → Type 0
TestInputsAre p loops pc [] [] = Unit {0}
TestInputsAre p loops pc [] (o ∷ os) = ⊥
TestInputsAre p loops pc (r ∷ rows) [] = ⊥
TestInputsAre p loops pc (r ∷ rows) (o ∷ os) = TestInputIs p loops pc r o × TestInputsAre p loops pc rows os
