-- Steps of an expanded procedure, one after the other.
use Rattle.std.proofs.Common.{◌≡◌, refl, sym, ap, subst, ℕ, zero, suc, ◌+◌, slice_get, Some, arith}
use Rattle.il_core.specs.Checked.{IsChecked}
use Rattle.il_core.specs.Evaluation.{State}
use Rattle.il_core.specs.Machine.{Step, goes, stepped, stepped_at, step}
use Rattle.il_core.specs.Procedure.{Procedure, Instruction}
use Rattle.il_core.specs.Run.{Steps, IsInRange}
use Rattle.il_core.proofs.StepKeeps.{step-kept}
use Rattle.il_called.specs.Expansion.{Expansion, procedure_in}

pub step_is : (wide : Expansion) (pc : ℕ) (t : State) (i : Instruction) → slice_get wide.lines pc ≡ Some i → step (procedure_in wide) pc t ≡ stepped wide.places pc t i
unfolding step
step_is wide pc t i e = ap (stepped_at wide.places pc t) e

pub no_steps : (p : Procedure) (pc to : ℕ) (t : State) → pc ≡ to → Steps p 0 pc t to t
no_steps p pc to t e = (e, refl)

pub one_step : (p : Procedure) (pc q : ℕ) (t u : State) → step p pc t ≡ goes q u → Steps p 1 pc t q u
one_step p pc q t u e = (q, u, e, (refl, refl))

pub then_steps : (p : Procedure) (m n a b c : ℕ) (s t u : State) → Steps p m a s b t → Steps p n b t c u → Steps p (m + n) a s c u
then_steps p zero n a b c s t u f g =
    let zeros : n ≡ 0 + n = omega arith in
    subst (λ k. Steps p k a s c u) zeros (subst (λ k. Steps p n k s c u) (sym f.0) (subst (λ x. Steps p n b x c u) (sym f.1) g))
then_steps p (suc m) n a b c s t u f g =
    let same : suc (m + n) ≡ suc m + n = omega arith in
    subst (λ k. Steps p k a s c u) same (f.0, f.1, f.2, then_steps p m n f.0 b c f.1 t u f.3 g)

pub steps_to : (p : Procedure) (m a b c : ℕ) (s t : State) → b ≡ c → Steps p m a s b t → Steps p m a s c t
steps_to p m a b c s t e f = subst (λ k. Steps p m a s k t) e f

pub step_in_range : (p : Procedure) (pc q : ℕ) (t u : State) → IsChecked p → step p pc t ≡ goes q u → IsInRange p.places t → IsInRange p.places u
step_in_range p pc q t u checked e r = subst (λ (x : Step). IsInRange p.places x.state) e (step-kept p pc t checked r).in_range

pub steps_in_range : (p : Procedure) (m a b : ℕ) (s t : State) → IsChecked p → Steps p m a s b t → IsInRange p.places s → IsInRange p.places t
steps_in_range p zero a b s t checked f r = subst (IsInRange p.places) f.1 r
steps_in_range p (suc m) a b s t checked f r = steps_in_range p m f.0 b f.1 t checked f.3 (step_in_range p a f.0 s f.1 checked f.2 r)

-- a step to the next line, and then to each of so many lines behind it
pub step_more : (p : Procedure) (count l : ℕ) (t u v : State) → step p l t ≡ goes (l + 1) u → Steps p count (l + 1) u ((l + 1) + count) v → Steps p (suc count) l t (l + suc count) v
step_more p count l t u v e f =
    let to : (l + 1) + count ≡ l + suc count = omega arith in
    (l + 1, u, e, subst (λ m. Steps p count (l + 1) u m v) to f)
