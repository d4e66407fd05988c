-- A renumbered expression has the value of the expression.
use Rattle.std.proofs.Common.{◌≡◌, refl, ap, ◌∙◌, ℕ, ◌<◌, Some}
use Rattle.std.specs.Prelude.{neg_ℤ, not}
use Rattle.std.specs.Option.{option_map}
use Rattle.il_core.specs.Evaluation.{State, value_at, whole, holds, of_both, calculated, decided_by}
use Rattle.std.specs.Prelude.{pos, int_le}
use Rattle.il_core.specs.Expression.{Expression, number, variable, flag, truth, minus, opposite, two}
use Rattle.il_called.specs.Expansion.{renumbered}
use Rattle.il_inline.specs.Within.{NamesBelow}
use Rattle.il_runs.specs.Laws.{HasSameValue}

pub same_value : (f : ℕ → ℕ) (count : ℕ) (s t : State) → ((p : ℕ) → p < count → value_at t (f p) ≡ value_at s p) → (e : Expression) → NamesBelow count e
    → HasSameValue f s t e
same_value f count s t each (number n) h = record { numbers = refl; conditions = refl }
same_value f count s t each (variable p) h = record { numbers = ap Some (each p h); conditions = refl }
same_value f count s t each (flag p) h = record { numbers = refl; conditions = ap (λ v. Some (int_le (pos 1) v)) (each p h) }
same_value f count s t each (truth b) h = record { numbers = refl; conditions = refl }
same_value f count s t each (minus e) h = record { numbers = ap (option_map neg_ℤ) (same_value f count s t each e h).numbers; conditions = refl }
same_value f count s t each (opposite e) h = record { numbers = refl; conditions = ap (option_map not) (same_value f count s t each e h).conditions }
same_value f count s t each (two o a b) h =
    let left = same_value f count s t each a h.0 in
    let right = same_value f count s t each b h.1 in
    record {
      numbers = ap (λ x. of_both (calculated o) x (whole (renumbered f b) t)) left.numbers ∙ ap (of_both (calculated o) (whole a s)) right.numbers;
      conditions = ap (λ x. decided_by o x (whole (renumbered f b) t) (holds (renumbered f a) t) (holds (renumbered f b) t)) left.numbers
          ∙ ap (λ y. decided_by o (whole a s) y (holds (renumbered f a) t) (holds (renumbered f b) t)) right.numbers
          ∙ ap (λ p. decided_by o (whole a s) (whole b s) p (holds (renumbered f b) t)) left.conditions
          ∙ ap (decided_by o (whole a s) (whole b s) (holds a s)) right.conditions;
    }
