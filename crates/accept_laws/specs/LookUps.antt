-- What a statement's names stand for, looked up without a default: where a name has no declaration in force, or one of another sort than is
-- asked for, there is none. The end of a range, `bound_value`, and the kind of a type, `kind_of_use`, have no default already.
use Rattle.std.specs.Prelude.{ℕ, ◌-◌, ℤ, pos, Bool, true, false, List, [], ◌∷◌, length, Option, Some, None, if◌then◌else◌, nat_eq, nat_lt, slice_get}
use Rattle.std.specs.Option.{option_and_then, option_map}
use Rattle.il_core.specs.Expression.{Expression}
use Rattle.il_core.specs.Expression as e
use Rattle.il_core.specs.Run.{is_inout}
use Rattle.il_core.specs.Statement.{Statement, Placed, title, constant_is, range_type, wrap_type, enum_type, variable}
use Rattle.il_core.specs.Tree.{Tree, number, word, former, constant, minus, opposite, two}
use Rattle.il_core.specs.declared.line.Place.{Place}
use Rattle.il_core.specs.declared.statement.Bound.{Bound}
use Rattle.il_core.specs.declared.statement.Link.{Link}
use Rattle.il_core.specs.declared.statement.Link.TheVariants.{Jump}
use Rattle.il_core.specs.declared.statement.TypeUse.{TypeUse}
use Rattle.il_core.specs.declared.statement.TypeUse.TheVariants as use_
use Rattle.il_types.specs.declared.range.Range.{Range}
use Rattle.il_types.specs.Built.{where_declared, plain, place_with, read, place_number, copy_number}
use Rattle.il_types.specs.Names.{Setting, Spot, declaration}
use Rattle.il_types.specs.Typing.{bound_value, kind_of_use, is_truth}
use Rattle.il_built.specs.CheckedText.{given, posted}
use Rattle.il_built.specs.Holding.{setting_at}
use Rattle.il_called.specs.Called.{Passed, WrittenLine}
use Rattle.il_called.specs.Called as called
use Rattle.il_called.specs.Expansion.{is_returned}
use Rattle.call_rules.specs.declared.parameters.Parameter.{Parameter}
use Rattle.call_rules.specs.Callee.{procedure_named}
use Rattle.call_rules.specs.Calls.{single_name}
use Rattle.call_rules.specs.Parameters.{parameters}

-- a range, where both of its ends have a value
abbrev pub ends : Bool → Option ℤ → Option ℤ → Option Range
ends wrap (Some least) (Some greatest) = Some (record { least = least; greatest = greatest; wrap = wrap })
ends wrap _ _ = None

abbrev pub range_found : Setting → Bool → Bound → Bound → Option Range
range_found s wrap least greatest = ends wrap (bound_value s least) (bound_value s greatest)

-- the values of an enumeration, which has one at least
abbrev pub numbered : List (List ℕ) → Option Range
numbered [] = None
numbered (_ ∷ others) = Some (plain (pos 0) (pos (length others)))

-- what a statement declares, as a type
abbrev pub type_found : Setting → Spot → Statement → Option Range
type_found s spot (range_type _ least greatest) = range_found (where_declared s spot) false least greatest
type_found s spot (wrap_type _ least greatest) = range_found (where_declared s spot) true least greatest
type_found s spot (enum_type _ values) = if nat_eq spot.1 0 then numbered values else None
type_found s spot _ = None

-- the range of a type as it is used
abbrev pub use_found : Setting → TypeUse → Option Range
use_found s use_.Bool = Some (plain (pos 0) (pos 1))
use_found s (use_.Named name) = option_and_then (λ d. type_found s d.0 d.1) (declaration s name)
use_found s (use_.Range least greatest) = range_found s false least greatest
use_found s (use_.Wrap least greatest) = range_found s true least greatest

-- whether a variable of a type holds truth values, where the type is one
abbrev pub flag_found : Setting → TypeUse → Option Bool
flag_found s used = option_map (λ k. is_truth (Some k)) (kind_of_use s used)

-- the place of the variable that a statement declares
abbrev pub place_found : Setting → Statement → Option Place
place_found s (variable m name used) = option_and_then (λ flag. option_map (place_with name m flag) (use_found s used)) (flag_found s used)
place_found s _ = None

-- the number of the place of a variable
abbrev pub number_of : Setting → Spot → Statement → Option ℕ
number_of s spot (variable _ _ _) = Some (place_number s spot)
number_of s spot _ = None

abbrev pub number_found : Setting → List ℕ → Option ℕ
number_found s name = option_and_then (λ d. number_of s d.0 d.1) (declaration s name)

-- what a statement declares, as a value
abbrev pub value_of : Setting → Spot → Statement → Option Expression
value_of s spot (constant_is _ value) = Some (e.number value)
value_of s spot (enum_type _ _) = if nat_eq spot.1 0 then None else Some (e.number (pos (spot.1 - 1)))
value_of s spot (variable _ _ used) = option_map (λ flag. read flag (place_number s spot)) (flag_found (record s { at = spot.0 }) used)
value_of s spot _ = None

abbrev pub value_found : Setting → List ℕ → Option Expression
value_found s name = option_and_then (λ d. value_of s d.0 d.1) (declaration s name)

-- what a statement declares, behind OLD: INOUT variables alone have a copy
abbrev pub copy_of : Setting → Spot → Statement → Option Expression
copy_of s spot (variable m _ used) =
    if is_inout m then option_map (λ flag. read flag (copy_number s spot)) (flag_found (record s { at = spot.0 }) used) else None
copy_of s spot _ = None

abbrev pub copy_found : Setting → List ℕ → Option Expression
copy_found s name = option_and_then (λ d. copy_of s d.0 d.1) (declaration s name)

-- an operator over two sides that are there
abbrev pub joined : (Expression → Expression → Expression) → Option Expression → Option Expression → Option Expression
joined make (Some a) (Some b) = Some (make a b)
joined make _ _ = None

-- an expression, where each of its names stands for a value
abbrev pub expression_found : Setting → Tree → Option Expression
expression_found s (number n) = Some (e.number (pos n))
expression_found s (word name) = value_found s name
expression_found s (former name) = copy_found s name
expression_found s (constant b) = Some (e.truth b)
expression_found s (minus a) = option_map e.minus (expression_found s a)
expression_found s (opposite a) = option_map e.opposite (expression_found s a)
expression_found s (two o a b) = joined (e.two o) (expression_found s a) (expression_found s b)

-- the number of the earlier procedure that a name stands for, counted from 1
abbrev pub earlier_found : Setting → List ℕ → Option ℕ
earlier_found s name = option_and_then (λ c. if nat_lt c s.owner then Some c else None) (procedure_named s name)

-- what an argument gives its parameter: to an INOUT or OUT one the variable that its single name stands for, to an IN one a value
abbrev pub passed_found : Setting → Parameter → Tree → Option Passed
passed_found s p e =
    if is_returned p.mode then option_map called.variable_of (option_and_then (number_found s) (single_name e)) else option_map called.value (expression_found s e)

-- what is given to the parameters, where there is an argument for each and no other
abbrev pub with_first : Option Passed → Option (List Passed) → Option (List Passed)
with_first (Some first) (Some others) = Some (first ∷ others)
with_first _ _ = None

abbrev pub all_passed : Setting → List Parameter → List Tree → Option (List Passed)
all_passed s [] [] = Some []
all_passed s (p ∷ ps) (e ∷ es) = with_first (passed_found s p e) (all_passed s ps es)
all_passed s _ _ = None

-- a CALL of an earlier procedure, with what it gives to each parameter; in the text procedures are counted from 0
abbrev pub call_found : Setting → List ℕ → List Tree → Option WrittenLine
call_found s name arguments =
    option_and_then (λ c. option_map (called.call (c - 1)) (all_passed s (parameters s.stmts c) arguments)) (earlier_found s name)

-- the line to which statement i may jump
abbrev pub target_in : Link → Option ℕ
target_in (Jump _ target) = Some target
target_in _ = None

abbrev pub target_found : List Link → ℕ → Option ℕ
target_found links i = option_and_then target_in (slice_get links i)

-- the first condition of a POST of a procedure
abbrev pub first_of : List Expression → Option Expression
first_of [] = None
first_of (e ∷ _) = Some e

abbrev pub condition_found : List Placed → ℕ → Option Expression
condition_found stmts owner = first_of (given (λ i x. posted (setting_at stmts i) x) stmts owner)

-- the name of the first statement, where it is the TITLE
abbrev pub title_said : Statement → Option (List ℕ)
title_said (title name) = Some name
title_said _ = None

abbrev pub title_found : List Placed → Option (List ℕ)
title_found [] = None
title_found (x ∷ _) = title_said x.says
