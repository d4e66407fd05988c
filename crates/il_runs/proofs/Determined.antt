-- A run of the expansion has one end.
use Rattle.std.proofs.Common.{◌≡◌, sym, ap, ◌∙◌, subst, ℕ, zero, suc, ◌+◌, arith}
use Rattle.il_core.specs.Evaluation.{State}
use Rattle.il_core.specs.Machine.{Step, goes, stays, step}
use Rattle.il_core.specs.Procedure.{Procedure}
use Rattle.il_core.specs.Run.{Steps, HaltsAfter}
use Rattle.il_core.specs.declared.line.Halt.{Halt}
use Rattle.il_core.specs.declared.line.Next.TheVariants.{At, Halted}

goes_and_stays : (a b : ℕ) (s t : State) (h : Halt) → goes a s ≡ stays h t → ⊥
goes_and_stays a b s t h e = let f : At a ≡ Halted h = ap (λ (x : Step). x.next) e in cc

same_line : (a b : ℕ) (s t : State) → goes a s ≡ goes b t → a ≡ b
same_line a b s t e = let f : At a ≡ At b = ap (λ (x : Step). x.next) e in cc

same_halt : (g h : Halt) (s t : State) → stays g s ≡ stays h t → g ≡ h
same_halt g h s t e = let f : Halted g ≡ Halted h = ap (λ (x : Step). x.next) e in cc

-- what is left of a run that halts, after some of its steps
pub record HaltsLater (p : Procedure) (m n pc : ℕ) (t : State) (halt : Halt) (end : State) : Type 0 where
  pub left : ℕ
  pub count : m ≡ n + left
  pub halts : HaltsAfter p left pc t halt end

pub halts_later : (p : Procedure) (n m pc line : ℕ) (t u end : State) (halt : Halt) → Steps p n pc t line u → HaltsAfter p m pc t halt end → HaltsLater p m n line u halt end
halts_later p zero m pc line t u end halt steps h = record {
  left = m;
  count = omega arith;
  halts = subst (λ k. HaltsAfter p m k u halt end) steps.0 (subst (λ x. HaltsAfter p m pc x halt end) steps.1 h);
}
halts_later p (suc n) zero pc line t u end halt steps h =
    absurd (goes_and_stays steps.0 0 steps.1 end halt (sym steps.2 ∙ ap (λ k. step p k t) h.steps.0 ∙ ap (step p h.last) h.steps.1 ∙ h.halts))
halts_later p (suc n) (suc m) pc line t u end halt steps h =
    let same : goes steps.0 steps.1 ≡ goes h.steps.0 h.steps.1 = sym steps.2 ∙ h.steps.2 in
    let line_same = same_line steps.0 h.steps.0 steps.1 h.steps.1 same in
    let state_same : steps.1 ≡ h.steps.1 = ap (λ (x : Step). x.state) same in
    let r = halts_later p n m steps.0 line steps.1 u end halt steps.3 (record {
      last = h.last;
      steps = subst (λ k. Steps p m k steps.1 h.last end) (sym line_same) (subst (λ x. Steps p m h.steps.0 x h.last end) (sym state_same) h.steps.3);
      halts = h.halts;
    }) in
    let c = r.count in
    record { left = r.left; count = omega arith; halts = r.halts }

-- a run that halts at once
pub record SameEnd (halt other : Halt) (s t : State) : Type 0 where
  pub halts : halt ≡ other
  pub states : s ≡ t

pub halts_here : (p : Procedure) (m pc : ℕ) (t end : State) (halt other : Halt) → step p pc t ≡ stays halt t → HaltsAfter p m pc t other end → SameEnd halt other t end
halts_here p zero pc t end halt other e h = record {
  halts = same_halt halt other t end (sym e ∙ ap (λ k. step p k t) h.steps.0 ∙ ap (step p h.last) h.steps.1 ∙ h.halts);
  states = h.steps.1;
}
halts_here p (suc m) pc t end halt other e h = absurd (goes_and_stays h.steps.0 0 h.steps.1 t halt (sym h.steps.2 ∙ e))
