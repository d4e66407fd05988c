-- What holds of each list of forms: what is plainly refuted stays so whatever follows; where each form is in the core, the least input meets
-- them all; and where the least input does not meet them all, some form is hard, or an easy `/=` outside the core.
use Rattle.std.specs.Prelude.{◌≡◌, ◌≤◌, ℕ, true, List, ◌++◌, length, filter}
use Rattle.il_core.specs.Evaluation.{State}
use Rattle.il_core.specs.LineGraph.{IsIn}
use Rattle.il_core.specs.declared.line.Place.{Place}
use Rattle.sym_simplify.specs.Literal.{LiteralForm}
use Rattle.sym_simplify.specs.Easy.{is_easy}
use Rattle.path_inputs.specs.Core.{is_disequality, IsLoose}
use Rattle.path_inputs.specs.Least.{Meets, IsPlainlyRefuted, IsLeastInput}

abbrev pub RefutedStaysRefuted : Type 0
RefutedStaysRefuted = (places : List Place) (pc : ℕ) (fs more : List LiteralForm) → IsPlainlyRefuted places pc fs → IsPlainlyRefuted places pc (fs ++ more)

-- each form is easy, and at most eight are `/=`
pub record AreInCore (fs : List LiteralForm) : Type 0 where
  pub easy : (f : LiteralForm) → IsIn fs f → is_easy f ≡ true
  pub few : length (filter is_disequality fs) ≤ 8

abbrev pub LeastMeetsCore : Type 0
LeastMeetsCore = (places : List Place) (pc : ℕ) (fs : List LiteralForm) (s : State) → AreInCore fs → IsLeastInput places pc fs s → Meets places pc fs s

abbrev pub UnmetIsLoose : Type 0
UnmetIsLoose = (places : List Place) (pc : ℕ) (fs : List LiteralForm) (s : State) → IsLeastInput places pc fs s → (Meets places pc fs s → ⊥) → (i : ℕ) × IsLoose fs i
