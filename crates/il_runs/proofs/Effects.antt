-- What one step does: it changes no place but one that its line assigns, it goes along an arc of its line, and a halt is on its line and leaves the
-- state.
use Rattle.std.proofs.Common.{◌≡◌, refl, ◌∙◌, subst, inl, inr, ℕ, ◌+◌, ◌<◌, ◌≤◌, ℤ, pos, Bool, true, false, Option, Some, None, List, length, slice_get, slice_set, arith}
use Rattle.std.specs.Prelude.{◌⊎◌}
use Rattle.std.proofs.lemmas.List.{get_or-set_other, length-set}
use Rattle.il_core.specs.Expression.{Expression}
use Rattle.il_core.specs.Evaluation.{State, value_at, holds}
use Rattle.il_core.specs.LineGraph.{IsIn, heads_of}
use Rattle.il_core.specs.Machine.{Step, goes, stays, decided, given, kept, stored, assigned_to, assigned, stepped}
use Rattle.il_core.specs.Procedure.{Instruction, pre, assign, if_true, otherwise, end_if, loop, end_loop, exit, exit_when, label, goto, skip, assert, return, end_procedure}
use Rattle.il_core.specs.declared.line.Halt.{Halt}
use Rattle.il_core.specs.declared.line.Halt.TheVariants.{End, Outside, FailedAssert, FailedPost, DivZero, Range}
use Rattle.il_core.specs.declared.line.Next.TheVariants.{At, Halted}
use Rattle.il_core.specs.declared.line.Place.{Place}

-- two states that are the same but for the places from lo up to hi
pub record SameOutside (lo hi : ℕ) (s t : State) : Type 0 where
  pub size : length t ≡ length s
  pub same : (k : ℕ) → (k < lo) ⊎ (hi ≤ k) → value_at t k ≡ value_at s k

pub same_itself : (lo hi : ℕ) (s : State) → SameOutside lo hi s s
same_itself lo hi s = record { size = refl; same = λ k h. refl }

pub same_then : (lo hi : ℕ) (s t u : State) → SameOutside lo hi s t → SameOutside lo hi t u → SameOutside lo hi s u
same_then lo hi s t u a b = record { size = b.size ∙ a.size; same = λ k h. b.same k h ∙ a.same k h }

pub same_wider : (lo hi low high : ℕ) (s t : State) → low ≤ lo → hi ≤ high → SameOutside lo hi s t → SameOutside low high s t
same_wider lo hi low high s t l h a = record { size = a.size; same = λ k o. a.same k (elim o [ inl b ↦ inl (omega arith) | inr b ↦ inr (omega arith) ]) }

pub same_set : (lo hi : ℕ) (s : State) (p : ℕ) (v : ℤ) → lo ≤ p → p < hi → SameOutside lo hi s (slice_set s p v)
same_set lo hi s p v l h = record {
  size = length-set s p v;
  same = λ k o. get_or-set_other s p k v (pos 0) (λ e. elim o [ inl b ↦ absurd (omega arith) | inr b ↦ absurd (omega arith) ]);
}

-- a halt is on this line
abbrev pub IsAt : ℕ → Halt → Type 0
IsAt pc End = Unit {0}
IsAt pc Outside = Unit {0}
IsAt pc FailedPost = Unit {0}
IsAt pc (FailedAssert n) = n ≡ pc
IsAt pc (DivZero n) = n ≡ pc
IsAt pc (Range n) = n ≡ pc

-- the place that a line assigns is one of those from lo up to hi
abbrev pub AssignsIn : ℕ → ℕ → Instruction → Type 0
AssignsIn lo hi (pre e) = Unit {0}
AssignsIn lo hi (assign p e) = (lo ≤ p) × (p < hi)
AssignsIn lo hi (if_true e q) = Unit {0}
AssignsIn lo hi (otherwise q) = Unit {0}
AssignsIn lo hi end_if = Unit {0}
AssignsIn lo hi loop = Unit {0}
AssignsIn lo hi (end_loop q) = Unit {0}
AssignsIn lo hi (exit q) = Unit {0}
AssignsIn lo hi (exit_when e q) = Unit {0}
AssignsIn lo hi label = Unit {0}
AssignsIn lo hi (goto q) = Unit {0}
AssignsIn lo hi skip = Unit {0}
AssignsIn lo hi (assert e) = Unit {0}
AssignsIn lo hi (return q) = Unit {0}
AssignsIn lo hi (end_procedure e) = Unit {0}

pub record Effect (pc : ℕ) (s : State) (i : Instruction) (step : Step) : Type 0 where
  pub halted : (h : Halt) → step.next ≡ Halted h → (step.state ≡ s) × IsAt pc h
  pub goes : (q : ℕ) → step.next ≡ At q → IsIn (heads_of pc i) q
  pub spares : (lo hi : ℕ) → AssignsIn lo hi i → SameOutside lo hi s step.state

effect_stays : (pc : ℕ) (s : State) (i : Instruction) (h : Halt) → IsAt pc h → Effect pc s i (stays h s)
effect_stays pc s i h at = record {
  halted = λ g e. let f : h ≡ g = cc in (refl, subst (IsAt pc) f at);
  goes = λ q e. absurd (cc);
  spares = λ lo hi a. same_itself lo hi s;
}

effect_goes : (pc q : ℕ) (s : State) (i : Instruction) → IsIn (heads_of pc i) q → Effect pc s i (goes q s)
effect_goes pc q s i along = record {
  halted = λ g e. absurd (cc);
  goes = λ r e. let f : q ≡ r = cc in subst (IsIn (heads_of pc i)) f along;
  spares = λ lo hi a. same_itself lo hi s;
}

effect_decided : (pc : ℕ) (s : State) (i : Instruction) (o : Option Bool) (a b c : Step) → Effect pc s i a → Effect pc s i b → Effect pc s i c
    → Effect pc s i (decided o a b c)
effect_decided pc s i None a b c x y z = x
effect_decided pc s i (Some true) a b c x y z = y
effect_decided pc s i (Some false) a b c x y z = z

effect_stored : (pc p : ℕ) (e : Expression) (s : State) (o : Option ℤ) → Effect pc s (assign p e) (stored pc p s o)
effect_stored pc p e s None = effect_stays pc s (assign p e) (Range pc) refl
effect_stored pc p e s (Some v) = record {
  halted = λ g e. absurd (cc);
  goes = λ r e. let f : pc + 1 ≡ r = cc in inl f;
  spares = λ lo hi a. same_set lo hi s p v a.0 a.1;
}

effect_assigned_to : (pc p : ℕ) (e : Expression) (s : State) (place : Place) (o : Option ℤ) → Effect pc s (assign p e) (assigned_to pc p place s o)
effect_assigned_to pc p e s place None = effect_stays pc s (assign p e) (DivZero pc) refl
effect_assigned_to pc p e s place (Some v) = effect_stored pc p e s (kept place v)

effect_assigned : (pc p : ℕ) (e : Expression) (s : State) (o : Option Place) → Effect pc s (assign p e) (assigned pc p e s o)
effect_assigned pc p e s None = effect_stays pc s (assign p e) (Range pc) refl
effect_assigned pc p e s (Some place) = effect_assigned_to pc p e s place (given place e s)

pub effect : (places : List Place) (pc : ℕ) (s : State) (i : Instruction) → Effect pc s i (stepped places pc s i)
effect places pc s (pre e) =
    effect_decided pc s (pre e) (holds e s) (stays (DivZero pc) s) (goes (pc + 1) s) (stays Outside s)
    (effect_stays pc s (pre e) (DivZero pc) refl) (effect_goes pc (pc + 1) s (pre e) (inl refl)) (effect_stays pc s (pre e) Outside tt)
effect places pc s (assign p e) = effect_assigned pc p e s (slice_get places p)
effect places pc s (if_true e q) =
    effect_decided pc s (if_true e q) (holds e s) (stays (DivZero pc) s) (goes (pc + 1) s) (goes q s)
    (effect_stays pc s (if_true e q) (DivZero pc) refl) (effect_goes pc (pc + 1) s (if_true e q) (inl refl)) (effect_goes pc q s (if_true e q) (inr (inl refl)))
effect places pc s (otherwise q) = effect_goes pc q s (otherwise q) (inl refl)
effect places pc s end_if = effect_goes pc (pc + 1) s end_if (inl refl)
effect places pc s loop = effect_goes pc (pc + 1) s loop (inl refl)
effect places pc s (end_loop q) = effect_goes pc q s (end_loop q) (inl refl)
effect places pc s (exit q) = effect_goes pc q s (exit q) (inl refl)
effect places pc s (exit_when e q) =
    effect_decided pc s (exit_when e q) (holds e s) (stays (DivZero pc) s) (goes q s) (goes (pc + 1) s)
    (effect_stays pc s (exit_when e q) (DivZero pc) refl) (effect_goes pc q s (exit_when e q) (inl refl)) (effect_goes pc (pc + 1) s (exit_when e q) (inr (inl refl)))
effect places pc s label = effect_goes pc (pc + 1) s label (inl refl)
effect places pc s (goto q) = effect_goes pc q s (goto q) (inl refl)
effect places pc s skip = effect_goes pc (pc + 1) s skip (inl refl)
effect places pc s (assert e) =
    effect_decided pc s (assert e) (holds e s) (stays (DivZero pc) s) (goes (pc + 1) s) (stays (FailedAssert pc) s)
    (effect_stays pc s (assert e) (DivZero pc) refl) (effect_goes pc (pc + 1) s (assert e) (inl refl)) (effect_stays pc s (assert e) (FailedAssert pc) refl)
effect places pc s (return q) = effect_goes pc q s (return q) (inl refl)
effect places pc s (end_procedure e) =
    effect_decided pc s (end_procedure e) (holds e s) (stays (DivZero pc) s) (stays End s) (stays FailedPost s)
    (effect_stays pc s (end_procedure e) (DivZero pc) refl) (effect_stays pc s (end_procedure e) End tt) (effect_stays pc s (end_procedure e) FailedPost tt)
