-- The kind of a checked expression: a whole number or a condition; an enumeration counts as whole here.
use Rattle.std.specs.Prelude.{◌≡◌, Bool, true, false, Option, Some, None, List, slice_get}
use Rattle.il_core.specs.Expression.{Expression, number, variable, flag, truth, minus, opposite, two}
use Rattle.il_core.specs.declared.line.Place.{Place}
use Rattle.il_core.specs.declared.operator.BinOp.{BinOp}
use Rattle.il_core.specs.declared.operator.BinOp.TheVariants.{Add, Sub, Mul, Div, Mod, Compare, And, Or}

-- a place that exists and holds truth values, or numbers
abbrev pub HasFlag : Option Place → Bool → Type 0
HasFlag None b = ⊥
HasFlag (Some p) b = p.flag ≡ b

-- what an operator for whole numbers, or for conditions, asks of its two sides
abbrev pub WholeSides : BinOp → Type 0 → Type 0 → Type 0
WholeSides Add a b = a × b
WholeSides Sub a b = a × b
WholeSides Mul a b = a × b
WholeSides Div a b = a × b
WholeSides Mod a b = a × b
WholeSides (Compare r) a b = ⊥
WholeSides And a b = ⊥
WholeSides Or a b = ⊥

-- a well typed expression for whole numbers
abbrev pub IsWhole : List Place → Expression → Type 0
IsWhole places (number n) = Unit {0}
IsWhole places (variable p) = HasFlag (slice_get places p) false
IsWhole places (flag p) = ⊥
IsWhole places (truth b) = ⊥
IsWhole places (minus e) = IsWhole places e
IsWhole places (opposite e) = ⊥
IsWhole places (two o a b) = WholeSides o (IsWhole places a) (IsWhole places b)

abbrev pub ConditionSides : BinOp → Type 0 → Type 0 → Type 0 → Type 0 → Type 0
ConditionSides (Compare r) a b p q = a × b
ConditionSides And a b p q = p × q
ConditionSides Or a b p q = p × q
ConditionSides Add a b p q = ⊥
ConditionSides Sub a b p q = ⊥
ConditionSides Mul a b p q = ⊥
ConditionSides Div a b p q = ⊥
ConditionSides Mod a b p q = ⊥

-- a well typed condition
abbrev pub IsCondition : List Place → Expression → Type 0
IsCondition places (number n) = ⊥
IsCondition places (variable p) = ⊥
IsCondition places (flag p) = HasFlag (slice_get places p) true
IsCondition places (truth b) = Unit {0}
IsCondition places (minus e) = ⊥
IsCondition places (opposite e) = IsCondition places e
IsCondition places (two o a b) = ConditionSides o (IsWhole places a) (IsWhole places b) (IsCondition places a) (IsCondition places b)
