-- A range holds a value: its least value is not above its greatest.
use Rattle.std.specs.Prelude.{ℤ, Bool, true, Option, Some, None, int_le}
use Rattle.il_core.specs.Statement.{Statement, range_type, wrap_type, variable}
use Rattle.il_core.specs.declared.statement.Bound.{Bound}
use Rattle.il_core.specs.declared.statement.TypeUse.TheVariants as use_
use Rattle.il_types.specs.Names.{Setting}
use Rattle.il_types.specs.Typing.{bound_value}

abbrev pub is_not_above : Option ℤ → Option ℤ → Bool
is_not_above (Some least) (Some greatest) = int_le least greatest
is_not_above (Some least) None = true
is_not_above None _ = true

abbrev pub holds_some : Setting → Bound → Bound → Bool
holds_some s least greatest = is_not_above (bound_value s least) (bound_value s greatest)

abbrev pub has_range : Setting → Statement → Bool
has_range s (range_type _ least greatest) = holds_some s least greatest
has_range s (wrap_type _ least greatest) = holds_some s least greatest
has_range s (variable _ _ (use_.Range least greatest)) = holds_some s least greatest
has_range s (variable _ _ (use_.Wrap least greatest)) = holds_some s least greatest
has_range s _ = true
