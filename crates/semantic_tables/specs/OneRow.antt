-- Each input of a region has exactly one row of its table, and stepping the lines from it comes to the row's stop, where each place has the
-- value of the row's term in the input.
use Rattle.std.specs.Prelude.{◌≡◌, ℕ, true, Bool, ◌&&◌, Some, List, [], ◌∷◌, map, slice_get}
use Rattle.il_core.specs.Evaluation.{State}
use Rattle.il_core.specs.Input.{IsInput}
use Rattle.il_core.specs.Procedure.{Procedure}
use Rattle.il_core.specs.declared.line.Stop.{Stop}
use Rattle.control_flow.specs.declared.control.LoopInfo.{LoopInfo}
use Rattle.sym_simplify.specs.Form.{form_value}
use Rattle.sym_simplify.specs.Literal.{LiteralForm, form_holds}
use Rattle.region_paths.specs.Stepping.{StepsTo, LongStepsTo}
use Rattle.semantic_tables.specs.Row.{NormalRow, row_of}
use Rattle.semantic_tables.specs.declared.row.TableOr.{TableOr}
use Rattle.semantic_tables.specs.declared.row.TableOr.TheVariants.{Table, Past}

-- each of these forms holds
abbrev pub forms_hold : List LiteralForm → State → Bool
forms_hold [] s = true
forms_hold (f ∷ fs) s = form_holds f s && forms_hold fs s

-- exactly one row has only literals that hold in this state, and stepping from it leads to the row's stop and values
pub record HasOneRow (rows : List NormalRow) (Leads : Stop → State → Type 0) (s : State) : Type 0 where
  pub index : ℕ
  pub row : NormalRow
  pub there : slice_get rows index ≡ Some row
  pub holds : forms_hold row.literals s ≡ true
  pub only : (j : ℕ) (other : NormalRow) → slice_get rows j ≡ Some other → forms_hold other.literals s ≡ true → j ≡ index
  pub leads : Leads row.stop (map (λ n. form_value n s) row.values)

abbrev pub HasOneRowEach : (State → Stop → State → Type 0) → Procedure → ℕ → TableOr → Type 0
HasOneRowEach Leads p pc (Table rows) = (s : State) → IsInput p.places pc s → HasOneRow (map row_of rows) (Leads s) s
HasOneRowEach Leads p pc (Past limit) = Unit {0}

abbrev pub OneRowEach : Procedure → List LoopInfo → ℕ → TableOr → Type 0
OneRowEach p loops pc t = HasOneRowEach (StepsTo p loops pc) p pc t

abbrev pub OneLongRowEach : Procedure → List LoopInfo → ℕ → TableOr → Type 0
OneLongRowEach p loops pc t = HasOneRowEach (LongStepsTo p loops pc) p pc t
