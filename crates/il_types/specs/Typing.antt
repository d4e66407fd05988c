-- The kind of an expression is whole number, truth value or one enumeration, by its form and the declarations of its names; a
-- statement is mistyped where a name stands for something of another sort than it must, or an expression has no kind or the wrong one.
use Rattle.std.specs.Prelude.{ℕ, ℤ, Bool, true, false, ◌&&◌, ◌||◌, List, Option, Some, None, is_some, if◌then◌else◌, nat_eq}
use Rattle.std.specs.Option.{option_and_then}
use Rattle.il_core.specs.Tree.{Tree, number, word, former, constant, minus, opposite, two}
use Rattle.il_core.specs.Statement.{Statement, constant_is, range_type, wrap_type, enum_type, variable, pre, post, assign, if_true, exit_when, assert}
use Rattle.il_core.specs.declared.operator.BinOp.{BinOp}
use Rattle.il_core.specs.declared.operator.BinOp.TheVariants as op
use Rattle.il_core.specs.declared.operator.Relation.{Relation}
use Rattle.il_core.specs.declared.operator.Relation.TheVariants as rel
use Rattle.il_core.specs.declared.statement.Bound.{Bound}
use Rattle.il_core.specs.declared.statement.Bound.TheVariants as bound
use Rattle.il_core.specs.declared.statement.TypeUse.{TypeUse}
use Rattle.il_core.specs.declared.statement.TypeUse.TheVariants as use_
use Rattle.il_types.specs.declared.kind.Kind.{Kind}
use Rattle.il_types.specs.declared.kind.Kind.TheVariants.{Whole, Truth, Enumeration}
use Rattle.il_types.specs.Names.{Setting, Spot, declaration}

-- a name as a constant
abbrev pub constant_in : Statement → Option ℤ
constant_in (constant_is _ value) = Some value
constant_in _ = None

-- the value of an end of a range
abbrev pub bound_value : Setting → Bound → Option ℤ
bound_value s (bound.Number n) = Some n
bound_value s (bound.Constant name) = option_and_then (λ d. constant_in d.1) (declaration s name)

-- a name as a type
abbrev pub type_in : Spot → Statement → Option Kind
type_in spot (range_type _ _ _) = Some Whole
type_in spot (wrap_type _ _ _) = Some Whole
type_in spot (enum_type _ _) = if nat_eq spot.1 0 then Some (Enumeration spot.0) else None
type_in spot _ = None

abbrev pub kind_of_use : Setting → TypeUse → Option Kind
kind_of_use s use_.Bool = Some Truth
kind_of_use s (use_.Named name) = option_and_then (λ d. type_in d.0 d.1) (declaration s name)
kind_of_use s (use_.Range _ _) = Some Whole
kind_of_use s (use_.Wrap _ _) = Some Whole

-- a name as a variable; its type is read where it is declared
abbrev pub variable_in : Setting → Spot → Statement → Option Kind
variable_in s spot (variable _ _ used) = kind_of_use (record s { at = spot.0 }) used
variable_in s spot _ = None

abbrev pub kind_of_variable : Setting → List ℕ → Option Kind
kind_of_variable s name = option_and_then (λ d. variable_in s d.0 d.1) (declaration s name)

-- a name as a value
abbrev pub value_in : Setting → Spot → Statement → Option Kind
value_in s spot (constant_is _ _) = Some Whole
value_in s spot (enum_type _ _) = if nat_eq spot.1 0 then None else Some (Enumeration spot.0)
value_in s spot (variable _ _ used) = kind_of_use (record s { at = spot.0 }) used
value_in s spot _ = None

abbrev pub kind_of_value : Setting → List ℕ → Option Kind
kind_of_value s name = option_and_then (λ d. value_in s d.0 d.1) (declaration s name)

abbrev pub is_whole : Option Kind → Bool
is_whole (Some Whole) = true
is_whole _ = false

abbrev pub is_truth : Option Kind → Bool
is_truth (Some Truth) = true
is_truth _ = false

abbrev pub is_enumeration : ℕ → Option Kind → Bool
is_enumeration at (Some (Enumeration other)) = nat_eq at other
is_enumeration at _ = false

-- values of one enumeration
abbrev pub are_of_one : Option Kind → Option Kind → Bool
are_of_one (Some (Enumeration at)) other = is_enumeration at other
are_of_one _ _ = false

abbrev pub are_whole : Option Kind → Option Kind → Bool
are_whole a b = is_whole a && is_whole b

abbrev pub are_truth : Option Kind → Option Kind → Bool
are_truth a b = is_truth a && is_truth b

abbrev pub is_equality : Relation → Bool
is_equality rel.Eq = true
is_equality rel.Ne = true
is_equality _ = false

abbrev pub are_comparable : Relation → Option Kind → Option Kind → Bool
are_comparable r a b = are_whole a b || (is_equality r && are_of_one a b)

abbrev pub kind_if : Bool → Kind → Option Kind
kind_if b kind = if b then Some kind else None

abbrev pub kind_of_two : BinOp → Option Kind → Option Kind → Option Kind
kind_of_two (op.Compare r) a b = kind_if (are_comparable r a b) Truth
kind_of_two op.And a b = kind_if (are_truth a b) Truth
kind_of_two op.Or a b = kind_if (are_truth a b) Truth
kind_of_two _ a b = kind_if (are_whole a b) Whole

-- the kind of an expression, none where it breaks the typing rules
abbrev pub kind_of : Setting → Tree → Option Kind
kind_of s (number _) = Some Whole
kind_of s (word name) = kind_of_value s name
kind_of s (former name) = kind_of_variable s name
kind_of s (constant _) = Some Truth
kind_of s (minus e) = kind_if (is_whole (kind_of s e)) Whole
kind_of s (opposite e) = kind_if (is_truth (kind_of s e)) Truth
kind_of s (two o a b) = kind_of_two o (kind_of s a) (kind_of s b)

abbrev pub are_bounds : Setting → Bound → Bound → Bool
are_bounds s least greatest = is_some (bound_value s least) && is_some (bound_value s greatest)

abbrev pub is_type : Setting → TypeUse → Bool
is_type s (use_.Range least greatest) = are_bounds s least greatest
is_type s (use_.Wrap least greatest) = are_bounds s least greatest
is_type s used = is_some (kind_of_use s used)

-- an assignment takes what its variable holds
abbrev pub may_hold : Option Kind → Option Kind → Bool
may_hold a b = are_whole a b || (are_truth a b || are_of_one a b)

abbrev pub is_condition : Setting → Tree → Bool
is_condition s e = is_truth (kind_of s e)

abbrev pub is_typed : Setting → Statement → Bool
is_typed s (range_type _ least greatest) = are_bounds s least greatest
is_typed s (wrap_type _ least greatest) = are_bounds s least greatest
is_typed s (variable _ _ used) = is_type s used
is_typed s (pre e) = is_condition s e
is_typed s (post e) = is_condition s e
is_typed s (assign name e) = may_hold (kind_of_variable s name) (kind_of s e)
is_typed s (if_true e) = is_condition s e
is_typed s (exit_when e) = is_condition s e
is_typed s (assert e) = is_condition s e
is_typed s _ = true
