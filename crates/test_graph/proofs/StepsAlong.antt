-- A step along given decisions is the step of the line machine.
use Rattle.std.proofs.Common.{◌≡◌, refl, sym, ap, subst, ◌∙◌, ℕ, Bool, Option, Some, None, List, [], slice_get, arith}
use Rattle.std.specs.Prelude.{MatchOption}
use Rattle.il_core.specs.Evaluation.{State}
use Rattle.il_core.specs.Machine.{Step, stepped, step}
use Rattle.il_core.specs.Procedure.{Procedure, Instruction, instruction_of, pre, assign, if_true, otherwise, end_if, loop, end_loop, exit, exit_when, label, goto, skip, assert, return, end_procedure}
use Rattle.il_core.specs.Run.{IsInRange}
use Rattle.il_core.specs.Checked.{NamedProcedure, IsChecked, FitsAt, procedure_of}
use Rattle.il_core.specs.declared.line.Line.{Line}
use Rattle.il_core.specs.declared.line.Place.{Place}
use Rattle.il_core.proofs.StepKeeps.{step-kept}
use Rattle.line_machine.proofs.LineFitting.{instruction_there, line-step}
use Rattle.test_graph.specs.Decision.{Decision, decision_at}
use Rattle.test_graph.specs.Way.{decisions}
use Rattle.test_graph.specs.Along.{IsTaken, IsNotTaken}
use Rattle.test_graph.specs.Followed.{followed, line_path, AlongAt, LineIsNarrow}
use Rattle.test_graph.specs.declared.taken.Taken.{Taken}
use Rattle.test_graph.proofs.FollowedPath.{followed_begins, followed_not}
use Rattle.test_graph.proofs.PathEnds.{path_taken, path-taken, line-path}
use Rattle.test_graph.proofs.StandingProcedure.{line_decision}

-- an instruction that fits its line is narrow
narrow : (places : List Place) (count pc : ℕ) (i : Instruction) → FitsAt places count pc i → LineIsNarrow places i
narrow places count pc (pre x) f = f.1.narrow
narrow places count pc (assign p x) f = f.1.narrow
narrow places count pc (if_true x q) f = f.2.narrow
narrow places count pc (otherwise q) f = tt
narrow places count pc end_if f = tt
narrow places count pc loop f = tt
narrow places count pc (end_loop q) f = tt
narrow places count pc (exit q) f = tt
narrow places count pc (exit_when x q) f = f.2.narrow
narrow places count pc label f = tt
narrow places count pc (goto q) f = tt
narrow places count pc skip f = tt
narrow places count pc (assert x) f = f.1.narrow
narrow places count pc (return q) f = tt
narrow places count pc (end_procedure x) f = f.1.narrow

pub there_narrow : (p : NamedProcedure) (places : List Place) (pc : ℕ) (line : Line) → IsChecked (procedure_of p) → places ≡ p.places
    → slice_get p.lines pc ≡ Some line → LineIsNarrow places (instruction_of line)
there_narrow p places pc line c e there =
    subst (λ (ps : List Place). LineIsNarrow ps (instruction_of line)) (sym e)
    (narrow p.places _ pc (instruction_of line) (c.fits pc (instruction_of line) (instruction_there p.lines pc line there)))

-- the decisions of a line of a checked procedure are those of evaluation
decisions-are : (p : NamedProcedure) (pc : ℕ) (line : Line) (s : State) → IsChecked (procedure_of p) → IsInRange p.places s → slice_get p.lines pc ≡ Some line
    → line_path p.places (instruction_of line) s ≡ decisions (procedure_of p) pc s
unfolding decisions
decisions-are p pc line s c r there =
    sym (line-path p.places _ pc s (instruction_of line) r (c.fits pc (instruction_of line) (instruction_there p.lines pc line there)))
    ∙ ap (λ (d : Decision). path_taken d s) (line_decision p pc line there) ∙ sym (path-taken (decision_at (procedure_of p) pc) s)

-- a step that was followed to its end is taken, and any other is not
told : (p : Procedure) (pc : ℕ) (s : State) (path : List Bool) (to : Step) (result : Option Taken) (to_s : State) (at : Option ℕ)
    → followed path (Some 0) (decisions p pc s) ≡ at → to ≡ step p pc s → AlongAt at to s result to_s
    → MatchOption result (IsNotTaken p pc s path to_s) (λ t. IsTaken p pc s path t to_s)
told p pc s path to result to_s None e f h =
    subst (λ (o : Option Taken). MatchOption o (IsNotTaken p pc s path to_s) (λ t. IsTaken p pc s path t to_s)) (sym h.0)
    (record { begins_not = followed_not (decisions p pc s) path [] path 0 refl refl e; same = h.1 })
told p pc s path to result to_s (Some used) e f h =
    let b = followed_begins (decisions p pc s) path [] path 0 used refl refl e in
    subst (λ (o : Option Taken). MatchOption o (IsNotTaken p pc s path to_s) (λ t. IsTaken p pc s path t to_s)) (sym h.0)
    (record { begins = b.1; used = omega (arith, b.0); next = ap (λ (t : Step). t.next) f; state = h.1 ∙ ap (λ (t : Step). t.state) f })

pub told_of_line : (p : NamedProcedure) (places : List Place) (pc : ℕ) (line : Line) (s : State) (path : List Bool) (result : Option Taken) (to_s : State)
    → IsChecked (procedure_of p) → IsInRange p.places s → places ≡ p.places → slice_get p.lines pc ≡ Some line
    → AlongAt (followed path (Some 0) (line_path places (instruction_of line) s)) (stepped places pc s (instruction_of line)) s result to_s
    → MatchOption result (IsNotTaken (procedure_of p) pc s path to_s) (λ t. IsTaken (procedure_of p) pc s path t to_s)
told_of_line p places pc line s path result to_s c r e there h =
    let at_places : AlongAt (followed path (Some 0) (line_path p.places (instruction_of line) s)) (stepped p.places pc s (instruction_of line)) s result to_s =
    subst (λ (ps : List Place). AlongAt (followed path (Some 0) (line_path ps (instruction_of line) s)) (stepped ps pc s (instruction_of line)) s result to_s) e h in
    told (procedure_of p) pc s path (stepped p.places pc s (instruction_of line)) result to_s (followed path (Some 0) (line_path p.places (instruction_of line) s))
    (ap (followed path (Some 0)) (sym (decisions-are p pc line s c r there))) (line-step p pc s line _ there refl) at_places

-- the state behind it is in range
in_range : (p : Procedure) (pc : ℕ) (s : State) (path : List Bool) (result : Option Taken) (to_s : State) → IsChecked p → IsInRange p.places s
    → MatchOption result (IsNotTaken p pc s path to_s) (λ t. IsTaken p pc s path t to_s) → IsInRange p.places to_s
in_range p pc s path None to_s c r h = subst (λ (t : State). IsInRange p.places t) (sym h.same) r
in_range p pc s path (Some t) to_s c r h = subst (λ (u : State). IsInRange p.places u) (sym h.state) (step-kept p pc s c r).in_range

pub in_range_of_line : (p : NamedProcedure) (pc : ℕ) (s : State) (path : List Bool) (result : Option Taken) (to_s : State) → IsChecked (procedure_of p)
    → IsInRange p.places s → MatchOption result (IsNotTaken (procedure_of p) pc s path to_s) (λ t. IsTaken (procedure_of p) pc s path t to_s)
    → IsInRange p.places to_s
in_range_of_line p pc s path result to_s c r h = in_range (procedure_of p) pc s path result to_s c r h
