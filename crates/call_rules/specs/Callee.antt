-- The procedure that a CALL names, and what the CALL gives to each of its parameters.
use Rattle.std.specs.Prelude.{ℕ, ◌+◌, List, [], ◌∷◌, Option, Some, None, unwrap_or}
use Rattle.std.specs.Option.{option_and_then, option_map}
use Rattle.il_core.specs.Statement.{Statement, procedure}
use Rattle.il_core.specs.Tree.{Tree}
use Rattle.il_types.specs.Names.{Setting, Spot, counts_at, declaration}
use Rattle.call_rules.specs.declared.parameters.Parameter.{Parameter}
use Rattle.call_rules.specs.Parameters.{parameters}

-- a name as a procedure: its number, counted from 1
abbrev pub procedure_in : Setting → Spot → Statement → Option ℕ
procedure_in s spot (procedure _) = Some ((counts_at s.stmts spot.0).procedures + 1)
procedure_in s spot _ = None

-- the procedure that a name stands for; its own procedure is in force too
abbrev pub procedure_named : Setting → List ℕ → Option ℕ
procedure_named s name = option_and_then (λ d. procedure_in s d.0 d.1) (declaration s name)

-- its parameters, none where the name is no procedure's
abbrev pub parameters_named : Setting → List ℕ → List Parameter
parameters_named s name = unwrap_or (option_map (λ c. parameters s.stmts c) (procedure_named s name)) []

-- an argument with its parameter; an argument past the last parameter has none
pub record Pairing : Type 0 where
  pub parameter : Option Parameter
  pub argument : Tree

abbrev pub paired : Option Parameter → Tree → Pairing
paired p e = record { parameter = p; argument = e }

-- each argument with its parameter, in their order
abbrev pub pairings : List Parameter → List Tree → List Pairing
pairings ps [] = []
pairings [] (e ∷ es) = paired None e ∷ pairings [] es
pairings (p ∷ ps) (e ∷ es) = paired (Some p) e ∷ pairings ps es
