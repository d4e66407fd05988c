-- Some inputs meet a list of forms, or none does; and of those that meet the first split which any input meets, one is least.
use Rattle.std.specs.Prelude.{◌≡◌, ◌⊎◌, ◌<◌, ℕ, ◌≤ℤ◌, Bool, true, List, length}
use Rattle.il_core.specs.Evaluation.{State, value_at}
use Rattle.il_core.specs.Input.{IsInput}
use Rattle.il_core.specs.LineGraph.{IsIn}
use Rattle.il_core.specs.declared.line.Place.{Place}
use Rattle.sym_simplify.specs.Literal.{LiteralForm, form_holds}
use Rattle.difference.specs.Answers.{earlier}
use Rattle.path_inputs.specs.Core.{is_disequality, core_disequalities, core, split_by}

-- an input of line pc in which each form holds
pub record Meets (places : List Place) (pc : ℕ) (fs : List LiteralForm) (s : State) : Type 0 where
  pub input : IsInput places pc s
  pub each : (f : LiteralForm) → IsIn fs f → form_holds f s ≡ true

abbrev pub HasNoInput : List Place → ℕ → List LiteralForm → Type 0
HasNoInput places pc fs = (s : State) → Meets places pc fs s → ⊥

-- no input meets the core, or some easy `/=` holds in no input that meets the core
abbrev pub IsPlainlyRefuted : List Place → ℕ → List LiteralForm → Type 0
IsPlainlyRefuted places pc fs =
    HasNoInput places pc (core fs)
    ⊎ ((f : LiteralForm) × IsIn fs f × (is_disequality f ≡ true) × ((s : State) → Meets places pc (core fs) s → form_holds f s ≡ true → ⊥))

-- the least of the inputs that meet the first split which any input meets, place by place, where the forms are not plainly refuted
pub record IsLeastInput (places : List Place) (pc : ℕ) (fs : List LiteralForm) (s : State) : Type 0 where
  pub not_refuted : IsPlainlyRefuted places pc fs → ⊥
  pub choice : List Bool
  pub chosen : length choice ≡ length (core_disequalities fs)
  pub met : Meets places pc (split_by choice fs) s
  pub least : (t : State) → Meets places pc (split_by choice fs) t → (k : ℕ) → k < length places → value_at s k ≤ℤ value_at t k
  pub first : (other : List Bool) → length other ≡ length (core_disequalities fs) → earlier other choice ≡ true → HasNoInput places pc (split_by other fs)
