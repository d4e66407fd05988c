-- Lines of a slice: they have the arcs of the lines from which they are made, fit where those fit, and step as those do where they are relevant.
use Rattle.std.proofs.Common.{◌≡◌, refl, sym, ap, ◌∙◌, ℕ, ◌+◌, ◌<◌, ℤ, pos, Bool, true, false, Option, Some, None, List, length, slice_get, slice_set, arith}
use Rattle.std.proofs.lemmas.List.{get_or-set_same}
use Rattle.il_core.specs.Expression.{Expression, truth}
use Rattle.il_core.specs.Evaluation.{State, value_at, holds}
use Rattle.il_core.specs.Machine.{Step, goes, stays, decided, given, kept, stored, assigned_to, assigned, stepped}
use Rattle.il_core.specs.Procedure.{Instruction, pre, assign, if_true, otherwise, end_if, loop, end_loop, exit, exit_when, label, goto, skip, assert, return, end_procedure}
use Rattle.il_core.specs.Checked.{FitsAt, IsSoundCondition}
use Rattle.il_core.specs.declared.line.Place.{Place}
use Rattle.il_core.specs.declared.line.Halt.{Halt}
use Rattle.il_core.specs.declared.line.Halt.TheVariants.{End}
use Rattle.flow_graph.specs.Reading.{Reads}
use Rattle.flow_graph.specs.Graph.{IsRead, written_by, kind_of}
use Rattle.flow_graph.specs.declared.graph.NodeKind.TheVariants.{Last}
use Rattle.info_flow.specs.Agreement.{Agree}
use Rattle.info_flow.proofs.Alike.{holds_alike}
use Rattle.info_flow.proofs.Stepping.{lands_at, no_halt, decided_met, decided_never, given_same}
use Rattle.flow_slice.specs.Slice.{sliced, condition_kept}

-- a fixed condition is sound
sound_truth : (places : List Place) (b : Bool) → IsSoundCondition places (truth b)
sound_truth places b = record { typed = tt; narrow = tt }

sound_kept : (places : List Place) (relevant taken : Bool) (e : Expression) → IsSoundCondition places e → IsSoundCondition places (condition_kept relevant taken e)
sound_kept places true taken e s = s
sound_kept places false taken e s = sound_truth places taken

-- a sliced line may stand where its line may
pub sliced_fits : (places : List Place) (count pc : ℕ) (relevant taken : Bool) (i : Instruction) → FitsAt places count pc i → FitsAt places count pc (sliced relevant taken i)
sliced_fits places count pc r b (pre e) f = (f.0, sound_truth places true)
sliced_fits places count pc true b (assign p e) f = f
sliced_fits places count pc false b (assign p e) f = f.0
sliced_fits places count pc r b (if_true e q) f = (f.0, f.1, sound_kept places r b e f.2)
sliced_fits places count pc r b (otherwise q) f = f
sliced_fits places count pc r b end_if f = f
sliced_fits places count pc r b loop f = f
sliced_fits places count pc r b (end_loop q) f = f
sliced_fits places count pc r b (exit q) f = f
sliced_fits places count pc r b (exit_when e q) f = (f.0, f.1, sound_kept places r b e f.2)
sliced_fits places count pc r b label f = f
sliced_fits places count pc r b (goto q) f = f
sliced_fits places count pc r b skip f = f
sliced_fits places count pc r b (assert e) f = f.0
sliced_fits places count pc r b (return q) f = f
sliced_fits places count pc r b (end_procedure e) f = (f.0, sound_truth places true)

-- a relevant line assigns in the slice what it assigned
pub written_kept : (taken : Bool) (i : Instruction) → written_by (sliced true taken i) ≡ written_by i
written_kept b (pre e) = refl
written_kept b (assign p e) = refl
written_kept b (if_true e q) = refl
written_kept b (otherwise q) = refl
written_kept b end_if = refl
written_kept b loop = refl
written_kept b (end_loop q) = refl
written_kept b (exit q) = refl
written_kept b (exit_when e q) = refl
written_kept b label = refl
written_kept b (goto q) = refl
written_kept b skip = refl
written_kept b (assert e) = refl
written_kept b (return q) = refl
written_kept b (end_procedure e) = refl

-- the end of a slice is inside its postcondition
pub sliced_end : (places : List Place) (pc : ℕ) (t : State) (relevant taken : Bool) (i : Instruction) → kind_of i ≡ Last → stepped places pc t (sliced relevant taken i) ≡ stays End t
sliced_end places pc t r b (end_procedure e) k = refl
sliced_end places pc t r b i k = absurd (cc)

-- a step of a sliced line that goes to line a, and gives an assigned place the value that it has in state f
pub record GoesAlike (places : List Place) (pc : ℕ) (i made : Instruction) (a : ℕ) (t f : State) : Type 0 where
  pub state : State
  pub step : stepped places pc t made ≡ goes a state
  pub value : (x : ℕ) → written_by i ≡ Some x → value_at f x ≡ value_at state x

plain_goes : (places : List Place) (pc : ℕ) (i made : Instruction) (q a : ℕ) (t f : State) → written_by i ≡ None → stepped places pc t made ≡ goes q t → q ≡ a
    → GoesAlike places pc i made a t f
plain_goes places pc i made q a t f w e d = record { state = t; step = e ∙ ap (λ x. goes x t) d; value = λ x h. absurd (cc) }

-- a condition with one truth in two states
decided_also : (o : Option Bool) (h : Halt) (q r a : ℕ) (s t f : State) → decided o (stays h s) (goes q s) (goes r s) ≡ goes a f
    → decided o (stays h t) (goes q t) (goes r t) ≡ goes a t
decided_also None h q r a s t f d = no_halt h s a f d
decided_also (Some true) h q r a s t f d = ap (λ x. goes x t) (lands_at q a s f d)
decided_also (Some false) h q r a s t f d = ap (λ x. goes x t) (lands_at r a s f d)

test_goes : (places : List Place) (pc : ℕ) (i : Instruction) (e : Expression) (h : Halt) (q r a : ℕ) (s t f : State) → written_by i ≡ None
    → stepped places pc t i ≡ decided (holds e t) (stays h t) (goes q t) (goes r t) → Agree (Reads e) s t
    → decided (holds e s) (stays h s) (goes q s) (goes r s) ≡ goes a f → GoesAlike places pc i i a t f
test_goes places pc i e h q r a s t f w u n d = record {
  state = t;
  step = u ∙ decided_also (holds e t) h q r a s t f (rw (holds_alike e s t n) at d);
  value = λ x z. absurd (cc);
}

-- what an assignment stores
record StoresAlike (a p : ℕ) (made : Step) (f : State) : Type 0 where
  pub state : State
  pub step : made ≡ goes a state
  pub value : value_at f p ≡ value_at state p

stored_also : (pc p : ℕ) (o : Option ℤ) (a : ℕ) (s t f : State) → p < length s → p < length t → stored pc p s o ≡ goes a f → StoresAlike a p (stored pc p t o) f
stored_also pc p None a s t f m n d = no_halt _ s a f d
stored_also pc p (Some w) a s t f m n d =
    let x : slice_set s p w ≡ f = ap (λ (z : Step). z.state) d in
    record {
      state = slice_set t p w;
      step = ap (λ y. goes y (slice_set t p w)) (lands_at (pc + 1) a _ f d);
      value = rw (← x) (get_or-set_same s p w (pos 0) m ∙ sym (get_or-set_same t p w (pos 0) n));
    }

given_also : (pc p : ℕ) (place : Place) (o : Option ℤ) (a : ℕ) (s t f : State) → p < length s → p < length t → assigned_to pc p place s o ≡ goes a f
    → StoresAlike a p (assigned_to pc p place t o) f
given_also pc p place None a s t f m n d = no_halt _ s a f d
given_also pc p place (Some w) a s t f m n d = stored_also pc p (kept place w) a s t f m n d

assigned_also : (pc p : ℕ) (e : Expression) (o : Option Place) (a : ℕ) (s t f : State) → p < length s → p < length t → Agree (Reads e) s t
    → assigned pc p e s o ≡ goes a f → StoresAlike a p (assigned pc p e t o) f
assigned_also pc p e None a s t f l m n d = no_halt _ s a f d
assigned_also pc p e (Some place) a s t f l m n d = given_also pc p place (given place e t) a s t f l m (rw (given_same place e s t n) at d)

-- where a relevant line goes on, its sliced line does from each state that agrees on what the line reads
pub goes_alike : (places : List Place) (pc : ℕ) (taken : Bool) (i : Instruction) (a : ℕ) (s t f : State) → length s ≡ length places → length t ≡ length places
    → ((p : ℕ) → written_by i ≡ Some p → p < length places) → Agree (IsRead i) s t → stepped places pc s i ≡ goes a f
    → GoesAlike places pc i (sliced true taken i) a t f
goes_alike places pc b (pre e) a s t f l m w n d = plain_goes places pc _ _ (pc + 1) a t f refl refl (decided_met (holds e s) _ _ (pc + 1) a s f d)
goes_alike places pc b (assign p e) a s t f l m w n d =
    let inside = w p refl in
    let r = assigned_also pc p e (slice_get places p) a s t f (omega arith) (omega arith) n d in
    record { state = r.state; step = r.step; value = λ x h. let same : p ≡ x = cc in rw (← same) r.value }
goes_alike places pc b (if_true e q) a s t f l m w n d = test_goes places pc _ e _ (pc + 1) q a s t f refl refl n d
goes_alike places pc b (otherwise q) a s t f l m w n d = plain_goes places pc _ _ q a t f refl refl (lands_at q a s f d)
goes_alike places pc b end_if a s t f l m w n d = plain_goes places pc _ _ (pc + 1) a t f refl refl (lands_at _ a s f d)
goes_alike places pc b loop a s t f l m w n d = plain_goes places pc _ _ (pc + 1) a t f refl refl (lands_at _ a s f d)
goes_alike places pc b (end_loop q) a s t f l m w n d = plain_goes places pc _ _ q a t f refl refl (lands_at q a s f d)
goes_alike places pc b (exit q) a s t f l m w n d = plain_goes places pc _ _ q a t f refl refl (lands_at q a s f d)
goes_alike places pc b (exit_when e q) a s t f l m w n d = test_goes places pc _ e _ q (pc + 1) a s t f refl refl n d
goes_alike places pc b label a s t f l m w n d = plain_goes places pc _ _ (pc + 1) a t f refl refl (lands_at _ a s f d)
goes_alike places pc b (goto q) a s t f l m w n d = plain_goes places pc _ _ q a t f refl refl (lands_at q a s f d)
goes_alike places pc b skip a s t f l m w n d = plain_goes places pc _ _ (pc + 1) a t f refl refl (lands_at _ a s f d)
goes_alike places pc b (assert e) a s t f l m w n d = plain_goes places pc _ _ (pc + 1) a t f refl refl (decided_met (holds e s) _ _ (pc + 1) a s f d)
goes_alike places pc b (return q) a s t f l m w n d = plain_goes places pc _ _ q a t f refl refl (lands_at q a s f d)
goes_alike places pc b (end_procedure e) a s t f l m w n d = decided_never (holds e s) _ _ _ a s f d
