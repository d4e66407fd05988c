-- Assertions and lines that do nothing: no way through one changes a place, and a step of one goes on to the next line with the same state, or
-- halts badly.
use Rattle.std.proofs.Common.{◌≡◌, ◌⊎◌, inl, inr, refl, sym, ap, ◌∙◌, subst, ℕ, ◌+◌, Bool, true, false, cond, Option, Some, None, List, map, slice_get}
use Rattle.std.specs.Option.{option_map}
use Rattle.std.proofs.lemmas.Option.{slice_get-map, same_Some}
use Rattle.il_core.specs.Evaluation.{State, holds}
use Rattle.il_core.specs.Expression.{Expression}
use Rattle.il_core.specs.Expression as e
use Rattle.il_core.specs.LineGraph.{IsIn}
use Rattle.il_core.specs.Machine.{Step, goes, stays, decided, stepped, stepped_at, step}
use Rattle.il_core.specs.Procedure.{Procedure, Instruction, pre, assign, if_true, otherwise, end_if, loop, end_loop, exit, exit_when, label, goto, skip, assert, return, end_procedure}
use Rattle.il_core.specs.Run.{is_bad}
use Rattle.il_core.specs.declared.line.Halt.{Halt}
use Rattle.il_core.specs.declared.line.Halt.TheVariants.{FailedAssert, DivZero}
use Rattle.il_core.specs.declared.line.Place.{Place}
use Rattle.il_core.specs.declared.operator.BinOp.{BinOp}
use Rattle.il_core.specs.declared.operator.BinOp.TheVariants.{Add, Sub, Mul, Div, Mod, Compare, And, Or}
use Rattle.flow_graph.specs.Graph.{graph_of, kind_of, node_of, returned_from}
use Rattle.flow_graph.specs.declared.graph.NodeKind.{NodeKind}
use Rattle.flow_graph.specs.declared.graph.NodeKind.TheVariants.{Assign, Test, Assertion, Plain, Other, Last}
use Rattle.flow_graph.proofs.Members.{IsIn-append_cases, IsIn-from_map}
use Rattle.control_flow.specs.Loop.{kind_at, IsAssertion}
use Rattle.test_graph.specs.Decision.{Decision, ask, done, not_zero, guarded, divided, decided_on, holds_zero, decision_of, decision_there, decision_at}
use Rattle.il_core.specs.Bounds.{bounds_of}
use Rattle.test_graph.specs.Way.{Way, ways_of, line_paths, decided_true, decided_false}

-- at the end of each way through these decisions nothing is assigned
abbrev pub ChangesNothing : Decision → Type 0
ChangesNothing (ask c met unmet) = ChangesNothing met × ChangesNothing unmet
ChangesNothing (done change next) = change ≡ None

either-still : (t : Bool) (a b : Decision) → ChangesNothing a → ChangesNothing b → ChangesNothing (cond t a b)
either-still true a b h k = h
either-still false a b h k = k

not_zero-still : (places : List Place) (b : Expression) (rest fault : Decision) → ChangesNothing rest → ChangesNothing fault → ChangesNothing (not_zero places b rest fault)
not_zero-still places b rest fault h k = either-still (holds_zero (bounds_of places b)) _ rest (h, k) h

guarded-still : (places : List Place) (o : BinOp) (b : Expression) (rest fault : Decision) → ChangesNothing rest → ChangesNothing fault → ChangesNothing (guarded places o b rest fault)
guarded-still places Div b rest fault h k = not_zero-still places b rest fault h k
guarded-still places Mod b rest fault h k = not_zero-still places b rest fault h k
guarded-still places Add b rest fault h k = h
guarded-still places Sub b rest fault h k = h
guarded-still places Mul b rest fault h k = h
guarded-still places (Compare r) b rest fault h k = h
guarded-still places And b rest fault h k = h
guarded-still places Or b rest fault h k = h

divided-still : (places : List Place) (x : Expression) (rest fault : Decision) → ChangesNothing rest → ChangesNothing fault → ChangesNothing (divided places x rest fault)
divided-still places (e.number n) rest fault h k = h
divided-still places (e.variable p) rest fault h k = h
divided-still places (e.flag p) rest fault h k = h
divided-still places (e.truth b) rest fault h k = h
divided-still places (e.minus a) rest fault h k = divided-still places a rest fault h k
divided-still places (e.opposite a) rest fault h k = h
divided-still places (e.two o a b) rest fault h k =
    divided-still places a _ fault (divided-still places b _ fault (guarded-still places o b rest fault h k) k) k

decided_on-still : (places : List Place) (x : Expression) (on off fault : Decision) → ChangesNothing on → ChangesNothing off → ChangesNothing fault
    → ChangesNothing (decided_on places x on off fault)
decided_on-still places (e.number n) on off fault h k l = l
decided_on-still places (e.variable p) on off fault h k l = l
decided_on-still places (e.flag p) on off fault h k l = (h, k)
decided_on-still places (e.truth true) on off fault h k l = h
decided_on-still places (e.truth false) on off fault h k l = k
decided_on-still places (e.minus a) on off fault h k l = l
decided_on-still places (e.opposite a) on off fault h k l = decided_on-still places a off on fault k h l
decided_on-still places (e.two (Compare r) a b) on off fault h k l =
    divided-still places a _ fault (divided-still places b _ fault (h, k) l) l
decided_on-still places (e.two And a b) on off fault h k l = decided_on-still places a _ off fault (decided_on-still places b on off fault h k l) k l
decided_on-still places (e.two Or a b) on off fault h k l = decided_on-still places a on _ fault h (decided_on-still places b on off fault h k l) l
decided_on-still places (e.two Add a b) on off fault h k l = l
decided_on-still places (e.two Sub a b) on off fault h k l = l
decided_on-still places (e.two Mul a b) on off fault h k l = l
decided_on-still places (e.two Div a b) on off fault h k l = l
decided_on-still places (e.two Mod a b) on off fault h k l = l

-- no way through such decisions changes a place
way-still : (t : Decision) → ChangesNothing t → (w : Way) → IsIn (ways_of t) w → w.change ≡ None
way-still (ask c met unmet) h w i = elim (IsIn-append_cases (map (decided_true c) (ways_of met)) (map (decided_false c) (ways_of unmet)) w i) [
  | inl j ↦ let t = IsIn-from_map (decided_true c) (ways_of met) w j in ap (λ (v : Way). v.change) (sym t.2) ∙ way-still met h.0 t.0 t.1
  | inr j ↦ let t = IsIn-from_map (decided_false c) (ways_of unmet) w j in ap (λ (v : Way). v.change) (sym t.2) ∙ way-still unmet h.1 t.0 t.1
]
way-still (done change next) h w (inl e) = ap (λ (v : Way). v.change) (sym e) ∙ h
way-still (done change next) h w (inr i) = absurd i

-- what is an assertion or does nothing
abbrev pub IsQuietKind : NodeKind → Type 0
IsQuietKind Assign = ⊥
IsQuietKind Test = ⊥
IsQuietKind Assertion = Unit {0}
IsQuietKind Plain = Unit {0}
IsQuietKind Other = ⊥
IsQuietKind Last = ⊥

-- line q is an assertion or does nothing
pub record IsQuiet (p : Procedure) (q : ℕ) : Type 0 where
  pub instruction : Instruction
  pub there : slice_get p.lines q ≡ Some instruction
  pub quiet : IsQuietKind (kind_of instruction)

quiet_decision : (places : List Place) (q : ℕ) (i : Instruction) → IsQuietKind (kind_of i) → ChangesNothing (decision_of places q i)
quiet_decision places q (pre x) h = absurd h
quiet_decision places q (assign t x) h = absurd h
quiet_decision places q (if_true x t) h = absurd h
quiet_decision places q (otherwise t) h = absurd h
quiet_decision places q end_if h = refl
quiet_decision places q loop h = refl
quiet_decision places q (end_loop t) h = absurd h
quiet_decision places q (exit t) h = absurd h
quiet_decision places q (exit_when x t) h = absurd h
quiet_decision places q label h = refl
quiet_decision places q (goto t) h = absurd h
quiet_decision places q skip h = refl
quiet_decision places q (assert x) h = decided_on-still places x _ _ _ refl refl refl
quiet_decision places q (return t) h = absurd h
quiet_decision places q (end_procedure x) h = absurd h

-- no way through a quiet line changes a place
pub quiet_way : (p : Procedure) (q : ℕ) (w : Way) → IsQuiet p q → IsIn (line_paths p q) w → w.change ≡ None
unfolding line_paths decision_at
quiet_way p q w k i =
    let d : ChangesNothing (decision_there p.places q (slice_get p.lines q)) =
    subst (λ (o : Option Instruction). ChangesNothing (decision_there p.places q o)) (sym k.there) (quiet_decision p.places q k.instruction k.quiet) in
    way-still (decision_there p.places q (slice_get p.lines q)) d w i

-- the next line with the same state, or a bad halt
abbrev pub PassesOrFails : ℕ → State → Step → Type 0
PassesOrFails q s t = (t ≡ goes (q + 1) s) ⊎ ((h : Halt) × (t ≡ stays h s) × (is_bad h ≡ true))

asserted : (q : ℕ) (s : State) (o : Option Bool) → PassesOrFails q s (decided o (stays (DivZero q) s) (goes (q + 1) s) (stays (FailedAssert q) s))
asserted q s None = inr (DivZero q, refl, refl)
asserted q s (Some true) = inl refl
asserted q s (Some false) = inr (FailedAssert q, refl, refl)

quiet_stepped : (places : List Place) (q : ℕ) (s : State) (i : Instruction) → IsQuietKind (kind_of i) → PassesOrFails q s (stepped places q s i)
quiet_stepped places q s (pre x) h = absurd h
quiet_stepped places q s (assign t x) h = absurd h
quiet_stepped places q s (if_true x t) h = absurd h
quiet_stepped places q s (otherwise t) h = absurd h
quiet_stepped places q s end_if h = inl refl
quiet_stepped places q s loop h = inl refl
quiet_stepped places q s (end_loop t) h = absurd h
quiet_stepped places q s (exit t) h = absurd h
quiet_stepped places q s (exit_when x t) h = absurd h
quiet_stepped places q s label h = inl refl
quiet_stepped places q s (goto t) h = absurd h
quiet_stepped places q s skip h = inl refl
quiet_stepped places q s (assert x) h = asserted q s (holds x s)
quiet_stepped places q s (return t) h = absurd h
quiet_stepped places q s (end_procedure x) h = absurd h

-- a quiet line is passed with the same state, or halts badly
pub quiet_step : (p : Procedure) (q : ℕ) (s : State) → IsQuiet p q → PassesOrFails q s (step p q s)
unfolding step
quiet_step p q s k = subst (λ (o : Option Instruction). PassesOrFails q s (stepped_at p.places q s o)) (sym k.there) (quiet_stepped p.places q s k.instruction k.quiet)

-- the line of a kind
pub kind_there : (p : Procedure) (q : ℕ) (k : NodeKind) → kind_at (graph_of p).nodes q ≡ Some k → (i : Instruction) × (slice_get p.lines q ≡ Some i) × (kind_of i ≡ k)
kind_there p q k h = by_line (slice_get p.lines q) refl (slice_get-map (node_of (returned_from 0 p.places)) p.lines q)
  where
    by_line : (o : Option Instruction) → slice_get p.lines q ≡ o → slice_get (graph_of p).nodes q ≡ option_map (node_of (returned_from 0 p.places)) o
        → (i : Instruction) × (slice_get p.lines q ≡ Some i) × (kind_of i ≡ k)
    by_line None e m = let g : None ≡ Some k = rw m at h in absurd cc
    by_line (Some i) e m = let g : Some (kind_of i) ≡ Some k = rw m at h in (i, e, same_Some (kind_of i) k g)

-- an assertion of the graph is a quiet line
pub assertion_quiet : (p : Procedure) (q : ℕ) → IsAssertion (graph_of p).nodes q → IsQuiet p q
assertion_quiet p q h = let t = kind_there p q Assertion h in record { instruction = t.0; there = t.1; quiet = subst IsQuietKind (sym t.2) tt }

pub plain_quiet : (p : Procedure) (q : ℕ) → kind_at (graph_of p).nodes q ≡ Some Plain → IsQuiet p q
plain_quiet p q h = let t = kind_there p q Plain h in record { instruction = t.0; there = t.1; quiet = subst IsQuietKind (sym t.2) tt }

plain_stepped : (places : List Place) (q : ℕ) (s : State) (i : Instruction) → kind_of i ≡ Plain → stepped places q s i ≡ goes (q + 1) s
plain_stepped places q s end_if h = refl
plain_stepped places q s loop h = refl
plain_stepped places q s label h = refl
plain_stepped places q s skip h = refl
plain_stepped places q s i h = absurd cc

-- a line that does nothing is passed
pub plain_step : (p : Procedure) (q : ℕ) (s : State) → kind_at (graph_of p).nodes q ≡ Some Plain → step p q s ≡ goes (q + 1) s
unfolding step
plain_step p q s h = let t = kind_there p q Plain h in ap (stepped_at p.places q s) t.1 ∙ plain_stepped p.places q s t.0 t.2
