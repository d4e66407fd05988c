-- Steps that take decisions from the first line of a region are few: no line comes up twice before they stop.
use Rattle.std.proofs.Common.{◌≡◌, sym, ap, ◌∙◌, ℕ, zero, suc, ◌+◌, ◌≤◌, Bool, false, Some, List, length, arith}
use Rattle.il_core.specs.Evaluation.{State}
use Rattle.il_core.specs.Machine.{step}
use Rattle.il_core.specs.Procedure.{Procedure}
use Rattle.il_core.specs.Run.{IsInRange}
use Rattle.il_core.specs.Checked.{IsChecked}
use Rattle.il_core.specs.declared.line.Stop.{Stop}
use Rattle.il_core.proofs.StepKeeps.{step-kept}
use Rattle.line_machine.specs.Cut.{CyclesAreCut}
use Rattle.line_machine.proofs.Ways.{IsOnWay, starts, goes_on, few_steps}
use Rattle.control_flow.specs.declared.control.LoopInfo.{LoopInfo}
use Rattle.region_paths.specs.Region.{head_marks}
use Rattle.region_paths.specs.Laws.{BeginsRegion}
use Rattle.region_paths.proofs.Cuts.{heads_cut}
use Rattle.region_paths.proofs.Marks.{mark_of, length-head_marks}
use Rattle.region_paths.proofs.Sized.{first_inside}
use Rattle.row_inputs.specs.Input.{TakesDecisions}

few_more : (p : Procedure) (loops : List LoopInfo) (pc : ℕ) (s : State) (count line : ℕ) (now : State) (n : ℕ) (path : List Bool) (end : Stop) → IsChecked p
    → CyclesAreCut p (head_marks (length p.lines) loops) pc → IsOnWay p (head_marks (length p.lines) loops) pc s count line now
    → TakesDecisions p loops n line now path end → count + n ≤ length p.lines
few_more p loops pc s count line now zero path end c cut w t =
    let few = few_steps p (head_marks (length p.lines) loops) pc s count line now cut w in omega (arith, few, length-head_marks (length p.lines) loops)
few_more p loops pc s count line now (suc n) path end c cut w t =
    let inside = (step-kept p line now c w.in_range).inside t.0 t.2 in
    let mark = mark_of (length p.lines) loops t.0 inside ∙ ap Some t.3 in
    let on = goes_on p (head_marks (length p.lines) loops) pc s count line now t.0 c w t.2 mark in
    let few = few_more p loops pc s (count + 1) t.0 (step p line now).state n t.1 end c cut on t.5 in
    omega (arith, few)

pub few : (p : Procedure) (loops : List LoopInfo) (pc : ℕ) (s : State) (n : ℕ) (path : List Bool) (end : Stop) → BeginsRegion p loops pc → IsInRange p.places s
    → TakesDecisions p loops n pc s path end → n ≤ length p.lines
few p loops pc s n path end b r t =
    let most =
    few_more p loops pc s 0 pc s n path end b.checked (heads_cut p loops pc b) (starts p (head_marks (length p.lines) loops) pc s (first_inside p loops pc b) r) t in
    omega (arith, most)
