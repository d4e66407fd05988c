-- The first name that a statement uses without a declaration in force, as a type, a bound, a target or in an expression.
use Rattle.std.specs.Prelude.{ℕ, List, Option, Some, None, is_some, if◌then◌else◌}
use Rattle.std.specs.Option.{option_or}
use Rattle.il_core.specs.Tree.{Tree, number, word, former, constant, minus, opposite, two}
use Rattle.il_core.specs.Statement.{Statement, range_type, wrap_type, variable, pre, post, assign, if_true, exit_when, assert}
use Rattle.il_core.specs.declared.statement.Bound.{Bound}
use Rattle.il_core.specs.declared.statement.Bound.TheVariants as bound
use Rattle.il_core.specs.declared.statement.TypeUse.{TypeUse}
use Rattle.il_core.specs.declared.statement.TypeUse.TheVariants as use_
use Rattle.il_types.specs.Names.{Setting, in_force}

abbrev pub unknown_name : Setting → List ℕ → Option (List ℕ)
unknown_name s name = if is_some (in_force s name) then None else Some name

abbrev pub unknown_bound : Setting → Bound → Option (List ℕ)
unknown_bound s (bound.Number _) = None
unknown_bound s (bound.Constant name) = unknown_name s name

abbrev pub unknown_bounds : Setting → Bound → Bound → Option (List ℕ)
unknown_bounds s least greatest = option_or (unknown_bound s least) (unknown_bound s greatest)

abbrev pub unknown_use : Setting → TypeUse → Option (List ℕ)
unknown_use s use_.Bool = None
unknown_use s (use_.Named name) = unknown_name s name
unknown_use s (use_.Range least greatest) = unknown_bounds s least greatest
unknown_use s (use_.Wrap least greatest) = unknown_bounds s least greatest

abbrev pub unknown_in : Setting → Tree → Option (List ℕ)
unknown_in s (number _) = None
unknown_in s (word name) = unknown_name s name
unknown_in s (former name) = unknown_name s name
unknown_in s (constant _) = None
unknown_in s (minus e) = unknown_in s e
unknown_in s (opposite e) = unknown_in s e
unknown_in s (two _ a b) = option_or (unknown_in s a) (unknown_in s b)

abbrev pub unknown : Setting → Statement → Option (List ℕ)
unknown s (range_type _ least greatest) = unknown_bounds s least greatest
unknown s (wrap_type _ least greatest) = unknown_bounds s least greatest
unknown s (variable _ _ used) = unknown_use s used
unknown s (pre e) = unknown_in s e
unknown s (post e) = unknown_in s e
unknown s (assign name e) = option_or (unknown_name s name) (unknown_in s e)
unknown s (if_true e) = unknown_in s e
unknown s (exit_when e) = unknown_in s e
unknown s (assert e) = unknown_in s e
unknown s _ = None
