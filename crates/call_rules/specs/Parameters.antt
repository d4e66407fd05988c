-- The parameters of a procedure are its IN, INOUT and OUT variables in the order of their declarations, each with its mode and its kind.
use Rattle.std.specs.Prelude.{◌≡◌, ℕ, Bool, true, false, List, [], ◌∷◌, if◌then◌else◌, slice_get, unwrap_or}
use Rattle.il_core.specs.Statement.{Statement, Placed, procedure, variable}
use Rattle.il_types.specs.Names.{Setting}
use Rattle.il_types.specs.Typing.{kind_of_use}
use Rattle.il_built.specs.CheckedText.{given}
use Rattle.il_built.specs.Holding.{setting_at}
use Rattle.il_called.specs.Expansion.{is_parameter}
use Rattle.call_rules.specs.declared.parameters.Parameter.{Parameter}

-- the parameter that a statement declares
abbrev pub declared_parameter : Setting → Statement → List Parameter
declared_parameter s (variable m name used) = if is_parameter m then record { mode = m; kind = kind_of_use s used } ∷ [] else []
declared_parameter s _ = []

-- the parameters of the procedure of a number, counted from 1
abbrev pub parameters : List Placed → ℕ → List Parameter
parameters stmts owner = given (λ i x. declared_parameter (setting_at stmts i) x) stmts owner

abbrev pub is_procedure : Statement → Bool
is_procedure (procedure _) = true
is_procedure _ = false

-- lists of the parameters of all procedures: that of number k is the one of the k-th procedure
pub record AreParameters (stmts : List Placed) (lists : List (List Parameter)) : Type 0 where
  pub each : (k : ℕ) → unwrap_or (slice_get lists k) [] ≡ parameters stmts k
