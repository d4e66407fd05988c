-- What a written expression stands for: constants and enumeration values are their numbers, variables and OLD values the numbers of
-- their places; and the place that a variable gets, with its range.
use Rattle.std.specs.Prelude.{ℕ, ◌+◌, ◌-◌, ℤ, pos, Bool, true, false, List, [], length, Option, Some, None, unwrap_or}
use Rattle.std.specs.Option.{option_and_then, option_map}
use Rattle.il_core.specs.Expression.{Expression}
use Rattle.il_core.specs.Expression as e
use Rattle.il_core.specs.Tree.{Tree, number, word, former, constant, minus, opposite, two}
use Rattle.il_core.specs.Statement.{Statement, constant_is, range_type, wrap_type, enum_type, variable}
use Rattle.il_core.specs.declared.line.Place.{Place}
use Rattle.il_core.specs.declared.statement.Bound.{Bound}
use Rattle.il_core.specs.declared.statement.Mode.{Mode}
use Rattle.il_core.specs.declared.statement.Mode.TheVariants as mode
use Rattle.il_core.specs.declared.statement.TypeUse.{TypeUse}
use Rattle.il_core.specs.declared.statement.TypeUse.TheVariants as use_
use Rattle.il_types.specs.declared.range.Range.{Range}
use Rattle.il_types.specs.Names.{Setting, Spot, setting, counts_at, declaration}
use Rattle.il_types.specs.Typing.{bound_value, kind_of_use, is_truth}

-- the setting of the statement that declares a name
abbrev pub where_declared : Setting → Spot → Setting
where_declared s spot = setting s.table s.stmts (counts_at s.stmts spot.0).procedures spot.0

-- the range of a type that is no wrapping one
abbrev pub plain : ℤ → ℤ → Range
plain least greatest = record { least = least; greatest = greatest; wrap = false }

abbrev pub bound_or_zero : Setting → Bound → ℤ
bound_or_zero s b = unwrap_or (bound_value s b) (pos 0)

abbrev pub range_between : Setting → Bool → Bound → Bound → Range
range_between s wrap least greatest = record { least = bound_or_zero s least; greatest = bound_or_zero s greatest; wrap = wrap }

-- a name as a type; n values of an enumeration are 0 to n - 1
abbrev pub range_in : Setting → Spot → Statement → Option Range
range_in s spot (range_type _ least greatest) = Some (range_between (where_declared s spot) false least greatest)
range_in s spot (wrap_type _ least greatest) = Some (range_between (where_declared s spot) true least greatest)
range_in s spot (enum_type _ values) = Some (plain (pos 0) (pos (length values - 1)))
range_in s spot _ = None

abbrev pub range_of_use : Setting → TypeUse → Range
range_of_use s use_.Bool = plain (pos 0) (pos 1)
range_of_use s (use_.Named name) = unwrap_or (option_and_then (λ d. range_in s d.0 d.1) (declaration s name)) (plain (pos 0) (pos 0))
range_of_use s (use_.Range least greatest) = range_between s false least greatest
range_of_use s (use_.Wrap least greatest) = range_between s true least greatest

-- whether a variable of a type holds truth values
abbrev pub is_flag : Setting → TypeUse → Bool
is_flag s used = is_truth (kind_of_use s used)

abbrev pub place_with : List ℕ → Mode → Bool → Range → Place
place_with name m flag range = record { name = name; mode = m; old = false; flag = flag; wrap = range.wrap; least = range.least; greatest = range.greatest }

-- the place of the variable that a statement declares, in the setting of that statement
abbrev pub place_of : Setting → Statement → Place
place_of s (variable m name used) = place_with name m (is_flag s used) (range_of_use s used)
place_of s _ = place_with [] mode.Local false (plain (pos 0) (pos 0))

-- a place as an expression
abbrev pub read : Bool → ℕ → Expression
read true p = e.flag p
read false p = e.variable p

-- the place of a variable: the variables of its procedure are numbered from 0 in the order of their declarations
abbrev pub place_number : Setting → Spot → ℕ
place_number s spot = (counts_at s.stmts spot.0).variables

-- the place of the OLD copy of a variable: the OLD copies stand behind the variables, in the order of their declarations
abbrev pub copy_number : Setting → Spot → ℕ
copy_number s spot = (counts_at s.stmts s.at).variables + (counts_at s.stmts spot.0).copies

-- the place of the variable that a name stands for, 0 where it has no declaration in force
abbrev pub assigned_place : Setting → List ℕ → ℕ
assigned_place s name = unwrap_or (option_map (λ d. place_number s d.0) (declaration s name)) 0

-- what a statement declares, as a value
abbrev pub built_value : Setting → Spot → Statement → Expression
built_value s spot (constant_is _ value) = e.number value
built_value s spot (enum_type _ _) = e.number (pos (spot.1 - 1))
built_value s spot (variable _ _ used) = read (is_flag (record s { at = spot.0 }) used) (place_number s spot)
built_value s spot _ = e.number (pos 0)

abbrev pub built_name : Setting → List ℕ → Expression
built_name s name = unwrap_or (option_map (λ d. built_value s d.0 d.1) (declaration s name)) (e.number (pos 0))

-- what a statement declares, behind OLD
abbrev pub built_recalled : Setting → Spot → Statement → Expression
built_recalled s spot (variable _ _ used) = read (is_flag (record s { at = spot.0 }) used) (copy_number s spot)
built_recalled s spot _ = e.number (pos 0)

abbrev pub built_copy : Setting → List ℕ → Expression
built_copy s name = unwrap_or (option_map (λ d. built_recalled s d.0 d.1) (declaration s name)) (e.number (pos 0))

-- what an expression stands for; 0 stands where a name has no value
abbrev pub built : Setting → Tree → Expression
built s (number n) = e.number (pos n)
built s (word name) = built_name s name
built s (former name) = built_copy s name
built s (constant b) = e.truth b
built s (minus a) = e.minus (built s a)
built s (opposite a) = e.opposite (built s a)
built s (two o a b) = e.two o (built s a) (built s b)
