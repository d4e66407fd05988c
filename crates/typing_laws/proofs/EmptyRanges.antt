-- A range of a statement is found empty exactly where its least value is above its greatest.
use Rattle.std.proofs.Common.{◌≡◌, ℕ, ◌∙◌, ap, refl, Bool, true, false, List, ℤ, arith}
use Rattle.std.specs.Prelude.{Option, Some, None, int_le, ◌<ℤ◌}
use Rattle.std.proofs.lemmas.Int.{ints}
use Rattle.il_core.specs.Statement.{Statement, Placed}
use Rattle.il_core.specs.Statement as st
use Rattle.il_core.specs.declared.statement.Bound.{Bound}
use Rattle.il_core.specs.declared.statement.TypeUse.TheVariants as use_
use Rattle.il_types.specs.Ranges.{is_not_above, holds_some, has_range}
use Rattle.il_types.specs.Typing.{bound_value}
use Rattle.il_built.specs.Holding.{setting_at}
use Rattle.typing_laws.specs.Allowed.{IsEmptyRange}
use Rattle.typing_laws.specs.Parts.{HasRange, of_type, of_wrapping, of_variable, of_wrapping_variable}
use Rattle.typing_laws.proofs.ExpressionKinds.{IsFair}
use Rattle.typing_laws.proofs.StatementKinds.{end_value, value_end}

not_le : (a b : ℤ) → int_le a b ≡ false → b <ℤ a
not_le a b h = omega (arith, ints)

lt_not_le : (a b : ℤ) → b <ℤ a → int_le a b ≡ false
lt_not_le a b h = by (int_le a b) refl
  where
    le : int_le a b ≡ true → ⊥
    le e = omega (arith, ints)

    by : (t : Bool) → int_le a b ≡ t → t ≡ false
    by true e = absurd (le e)
    by false e = refl

-- the range of a statement
range_of : (stmts : List Placed) (i : ℕ) (x : Statement) (least greatest : Bound) → HasRange x least greatest → has_range (setting_at stmts i) x ≡ holds_some (setting_at stmts i) least greatest
range_of stmts i x least greatest (of_type name a b) = refl
range_of stmts i x least greatest (of_wrapping name a b) = refl
range_of stmts i x least greatest (of_variable mode name a b) = refl
range_of stmts i x least greatest (of_wrapping_variable mode name a b) = refl

pub empty_range : (stmts : List Placed) (i : ℕ) (x : Statement) → IsFair stmts → IsEmptyRange stmts i x → has_range (setting_at stmts i) x ≡ false
empty_range stmts i x fair e =
    range_of stmts i x e.least e.greatest e.has
    ∙ ap (λ o. is_not_above o (bound_value (setting_at stmts i) e.greatest)) (end_value stmts i e.least e.low fair e.is_low)
    ∙ ap (is_not_above (Some e.low)) (end_value stmts i e.greatest e.high fair e.is_high) ∙ lt_not_le e.low e.high e.above

empty_ends : (stmts : List Placed) (i : ℕ) (x : Statement) (least greatest : Bound) → IsFair stmts → HasRange x least greatest → holds_some (setting_at stmts i) least greatest ≡ false
    → IsEmptyRange stmts i x
empty_ends stmts i x least greatest fair has h = by (bound_value (setting_at stmts i) least) (bound_value (setting_at stmts i) greatest) refl refl h
  where
    by : (a b : Option ℤ) → bound_value (setting_at stmts i) least ≡ a → bound_value (setting_at stmts i) greatest ≡ b → is_not_above a b ≡ false → IsEmptyRange stmts i x
    by None b e f g = absurd (cc)
    by (Some v) None e f g = absurd (cc)
    by (Some v) (Some w) e f g = record {
      least = least;
      greatest = greatest;
      low = v;
      high = w;
      has = has;
      is_low = value_end stmts i least v fair e;
      is_high = value_end stmts i greatest w fair f;
      above = not_le v w g;
    }

pub range_empty : (stmts : List Placed) (i : ℕ) (x : Statement) → IsFair stmts → has_range (setting_at stmts i) x ≡ false → IsEmptyRange stmts i x
range_empty stmts i (st.range_type name a b) fair h = empty_ends stmts i (st.range_type name a b) a b fair (of_type name a b) h
range_empty stmts i (st.wrap_type name a b) fair h = empty_ends stmts i (st.wrap_type name a b) a b fair (of_wrapping name a b) h
range_empty stmts i (st.variable mode name (use_.Range a b)) fair h = empty_ends stmts i (st.variable mode name (use_.Range a b)) a b fair (of_variable mode name a b) h
range_empty stmts i (st.variable mode name (use_.Wrap a b)) fair h = empty_ends stmts i (st.variable mode name (use_.Wrap a b)) a b fair (of_wrapping_variable mode name a b) h
range_empty stmts i _ fair h = absurd (cc)
