-- The static bounds of a written expression, by its form and the declared ranges of its names; they are wide where a part of the
-- expression has one outside 2 ^ 126 on either side of 0.
use Rattle.std.specs.Prelude.{ℕ, ◌-◌, ◌^◌, pos, neg_ℤ, ℤ, Bool, true, ◌&&◌, List, Option, Some, None, is_some, nat_le, unsigned_abs, unwrap_or, if◌then◌else◌}
use Rattle.std.specs.Option.{option_and_then, option_map}
use Rattle.il_core.specs.Bounds.{Bounds, only, operator_bounds}
use Rattle.il_core.specs.Tree.{Tree, number, word, former, constant, minus, opposite, two}
use Rattle.il_core.specs.Statement.{Statement, constant_is, enum_type, variable, pre, post, assign, if_true, exit_when, assert}
use Rattle.il_core.specs.declared.operator.BinOp.{BinOp}
use Rattle.il_core.specs.declared.statement.TypeUse.{TypeUse}
use Rattle.il_types.specs.declared.range.Range.{Range}
use Rattle.il_types.specs.Names.{Setting, Spot, declaration}
use Rattle.il_types.specs.Built.{range_of_use, is_flag}

abbrev pub is_small : ℤ → Bool
is_small v = nat_le (unsigned_abs v) (2 ^ 126)

-- the bounds, where both are small
abbrev pub if_small : Bounds → Option Bounds
if_small b = if is_small b.low && is_small b.high then Some b else None

abbrev pub range_bounds : Range → Bounds
range_bounds r = record { low = r.least; high = r.greatest }

-- a variable has its declared range; a condition has no bounds, and 0 stands there
abbrev pub variable_bounds : Setting → TypeUse → Bounds
variable_bounds s used = if is_flag s used then only (pos 0) else range_bounds (range_of_use s used)

-- a name as a value
abbrev pub value_bounds : Setting → Spot → Statement → Bounds
value_bounds s spot (constant_is _ value) = only value
value_bounds s spot (enum_type _ _) = only (pos (spot.1 - 1))
value_bounds s spot (variable _ _ used) = variable_bounds (record s { at = spot.0 }) used
value_bounds s spot _ = only (pos 0)

abbrev pub named_bounds : Setting → List ℕ → Bounds
named_bounds s name = unwrap_or (option_map (λ d. value_bounds s d.0 d.1) (declaration s name)) (only (pos 0))

-- a name behind OLD
abbrev pub recalled_value : Setting → Spot → Statement → Bounds
recalled_value s spot (variable _ _ used) = variable_bounds (record s { at = spot.0 }) used
recalled_value s spot _ = only (pos 0)

abbrev pub recalled_bounds : Setting → List ℕ → Bounds
recalled_bounds s name = unwrap_or (option_map (λ d. recalled_value s d.0 d.1) (declaration s name)) (only (pos 0))

abbrev pub opposite_bounds : Bounds → Bounds
opposite_bounds b = record { low = neg_ℤ b.high; high = neg_ℤ b.low }

abbrev pub bounds_of_two : BinOp → Option Bounds → Option Bounds → Option Bounds
bounds_of_two o (Some a) (Some b) = if_small (operator_bounds o a b)
bounds_of_two o _ _ = None

-- the bounds of an expression, none where a part of it has bounds that are not small
abbrev pub static_bounds : Setting → Tree → Option Bounds
static_bounds s (number n) = if_small (only (pos n))
static_bounds s (word name) = if_small (named_bounds s name)
static_bounds s (former name) = if_small (recalled_bounds s name)
static_bounds s (constant _) = Some (only (pos 0))
static_bounds s (minus e) = option_and_then (λ b. if_small (opposite_bounds b)) (static_bounds s e)
static_bounds s (opposite e) = option_map (λ b. only (pos 0)) (static_bounds s e)
static_bounds s (two o a b) = bounds_of_two o (static_bounds s a) (static_bounds s b)

abbrev pub is_narrow : Setting → Statement → Bool
is_narrow s (pre e) = is_some (static_bounds s e)
is_narrow s (post e) = is_some (static_bounds s e)
is_narrow s (assign _ e) = is_some (static_bounds s e)
is_narrow s (if_true e) = is_some (static_bounds s e)
is_narrow s (exit_when e) = is_some (static_bounds s e)
is_narrow s (assert e) = is_some (static_bounds s e)
is_narrow s _ = true
