-- A run is cut at marked lines. Where each piece of it that begins well ends well, no run that begins well halts badly, however long it is.
use Rattle.std.proofs.Common.{◌≡◌, refl, sym, ap, ◌∙◌, subst, ℕ, zero, suc, ◌<◌, Bool, false, List, arith}
use Rattle.il_core.specs.Evaluation.{State}
use Rattle.il_core.specs.Machine.{Step, step}
use Rattle.il_core.specs.Procedure.{Procedure}
use Rattle.il_core.specs.Run.{HaltsAfter, is_bad}
use Rattle.il_core.specs.declared.line.Halt.{Halt}
use Rattle.il_core.specs.declared.line.Next.{Next}
use Rattle.il_core.specs.declared.line.Next.TheVariants as next
use Rattle.il_core.specs.declared.line.Stop.{Stop}
use Rattle.il_core.specs.declared.line.Stop.TheVariants as stop
use Rattle.line_machine.specs.Cut.{EndsAt, GoesOnAt, Reaches}

-- a run of n + 1 steps that halts: what is left of it behind a piece that ends here
abbrev pub Leaves : Procedure → ℕ → Halt → State → Stop → State → Type 0
Leaves p n halt to_s (stop.Halted h) mid = h ≡ halt
Leaves p n halt to_s (stop.Head q) mid = (m : ℕ) × (m < n) × HaltsAfter p m q mid halt to_s

-- a run whose first step halts
halts_now : (p : Procedure) (pc : ℕ) (s : State) (halt : Halt) (to_s : State) → HaltsAfter p 0 pc s halt to_s → (step p pc s).next ≡ next.Halted halt
halts_now p pc s halt to_s h =
    let e : step p pc s ≡ step p h.last to_s = ap (λ x. step p x s) h.steps.0 ∙ ap (step p h.last) h.steps.1 in
    ap (λ (t : Step). t.next) (e ∙ h.halts)

-- a run whose first step goes on
pub record GoesOn (p : Procedure) (n pc : ℕ) (s : State) (halt : Halt) (to_s : State) : Type 0 where
  pub mid : ℕ
  pub between : State
  pub next : (step p pc s).next ≡ next.At mid
  pub state : (step p pc s).state ≡ between
  pub rest : HaltsAfter p n mid between halt to_s

halts_later : (p : Procedure) (n pc : ℕ) (s : State) (halt : Halt) (to_s : State) → HaltsAfter p (suc n) pc s halt to_s → GoesOn p n pc s halt to_s
halts_later p n pc s halt to_s h = record {
  mid = h.steps.0;
  between = h.steps.1;
  next = ap (λ (t : Step). t.next) h.steps.2;
  state = ap (λ (t : Step). t.state) h.steps.2;
  rest = record { last = h.last; steps = h.steps.3; halts = h.halts };
}

ends_halted : (cuts : List Bool) (at : Next) (halt : Halt) (end : Stop) → at ≡ next.Halted halt → EndsAt cuts at end → end ≡ stop.Halted halt
ends_halted cuts at halt end e h = rw e at h

goes_not : (cuts : List Bool) (at : Next) (halt : Halt) (mid : ℕ) → at ≡ next.Halted halt → GoesOnAt cuts at mid → ⊥
goes_not cuts at halt mid e h = rw e at h

ends_at : (cuts : List Bool) (at : Next) (q : ℕ) (end : Stop) → at ≡ next.At q → EndsAt cuts at end → end ≡ stop.Head q
ends_at cuts at q end e h = let k : EndsAt cuts (next.At q) end = rw e at h in k.1

goes_to : (cuts : List Bool) (at : Next) (q mid : ℕ) → at ≡ next.At q → GoesOnAt cuts at mid → q ≡ mid
goes_to cuts at q mid e h = let k : GoesOnAt cuts (next.At q) mid = rw e at h in k.0

-- a run that halts passes the end of its first piece, or halts there
pub piece : (p : Procedure) (cuts : List Bool) (k n pc : ℕ) (s : State) (end : Stop) (mid : State) (halt : Halt) (to_s : State)
    → Reaches p cuts k pc s end mid → HaltsAfter p n pc s halt to_s → Leaves p n halt to_s end mid
piece p cuts zero zero pc s end mid halt to_s r h =
    let e = ends_halted cuts (step p pc s).next halt end (halts_now p pc s halt to_s h) r.0 in
    subst (λ x. Leaves p 0 halt to_s x mid) (sym e) refl
piece p cuts zero (suc n) pc s end mid halt to_s r h =
    let g = halts_later p n pc s halt to_s h in
    let e = ends_at cuts (step p pc s).next g.mid end g.next r.0 in
    let same : g.between ≡ mid = sym g.state ∙ sym r.1 in
    subst (λ x. Leaves p (suc n) halt to_s x mid) (sym e) (n, omega arith, subst (λ x. HaltsAfter p n g.mid x halt to_s) same g.rest)
piece p cuts (suc k) zero pc s end mid halt to_s r h = absurd (goes_not cuts (step p pc s).next halt r.0 (halts_now p pc s halt to_s h) r.1)
piece p cuts (suc k) (suc n) pc s end mid halt to_s r h =
    let g = halts_later p n pc s halt to_s h in
    let there : g.mid ≡ r.0 = goes_to cuts (step p pc s).next g.mid r.0 g.next r.1 in
    let rest = subst (λ x. HaltsAfter p n r.0 x halt to_s) (sym g.state) (subst (λ x. HaltsAfter p n x g.between halt to_s) there g.rest) in
    later end (piece p cuts k n r.0 (step p pc s).state end mid halt to_s r.2 rest)
  where
    later : (e : Stop) → Leaves p n halt to_s e mid → Leaves p (suc n) halt to_s e mid
    later (stop.Halted x) l = l
    later (stop.Head q) l = let b = l.1 in (l.0, omega (arith, b), l.2)

-- a piece ends well at a halt that is not bad, or at a line and state that are good
abbrev pub EndsWell : (ℕ → State → Type 0) → Stop → State → Type 0
EndsWell good (stop.Halted h) s = is_bad h ≡ false
EndsWell good (stop.Head q) s = good q s

-- a piece of a run from line pc and state s, to a halt or to the first marked line, that ends well
pub record GoodPiece (p : Procedure) (cuts : List Bool) (good : ℕ → State → Type 0) (pc : ℕ) (s : State) : Type 0 where
  pub count : ℕ
  pub end : Stop
  pub to_s : State
  pub reaches : Reaches p cuts count pc s end to_s
  pub well : EndsWell good end to_s

runs_within : (p : Procedure) (cuts : List Bool) (good : ℕ → State → Type 0) → ((pc : ℕ) (s : State) → good pc s → GoodPiece p cuts good pc s)
    → (fuel n pc : ℕ) (s : State) (halt : Halt) (to_s : State) → n < fuel → good pc s → HaltsAfter p n pc s halt to_s → is_bad halt ≡ false
runs_within p cuts good pieces zero n pc s halt to_s f g h = absurd (omega arith)
runs_within p cuts good pieces (suc fuel) n pc s halt to_s f g h =
    let t = pieces pc s g in
    by_end (λ m q mid l k r. runs_within p cuts good pieces fuel m q mid halt to_s (omega (arith, l, f)) k r) t.end t.to_s t.well
    (piece p cuts t.count n pc s t.end t.to_s halt to_s t.reaches h)
  where
    by_end : ((m q : ℕ) (mid : State) → m < n → good q mid → HaltsAfter p m q mid halt to_s → is_bad halt ≡ false)
        → (end : Stop) (mid : State) → EndsWell good end mid → Leaves p n halt to_s end mid → is_bad halt ≡ false
    by_end on (stop.Halted x) mid w l = ap is_bad (sym l) ∙ w
    by_end on (stop.Head q) mid w l = on l.0 q mid l.1 w l.2

-- where from each good line and state a piece of the run ends well, no run from a good line and state halts badly
pub cut_runs : (p : Procedure) (cuts : List Bool) (good : ℕ → State → Type 0) → ((pc : ℕ) (s : State) → good pc s → GoodPiece p cuts good pc s)
    → (n pc : ℕ) (s : State) (halt : Halt) (to_s : State) → good pc s → HaltsAfter p n pc s halt to_s → is_bad halt ≡ false
cut_runs p cuts good pieces n pc s halt to_s g h = runs_within p cuts good pieces (suc n) n pc s halt to_s (omega arith) g h
