-- A CALL of an earlier procedure brings that procedure's places, each under a new name: `c` and the number of the call, `_`, and its name; for
-- OLD copies `o` instead. A new name is declared twice where a variable of the caller has it. The places stand in the order of the callee's
-- expansion: its variables, the places that its own calls brought, call by call, and its OLD copies.
use Rattle.std.specs.Prelude.{ℕ, Bool, List, [], map, find, Option, Some, None, is_some}
use Rattle.std.specs.Option.{option_map}
use Rattle.il_core.specs.Statement.{Statement, Placed, call}
use Rattle.il_core.specs.declared.refusal.Code.TheVariants as code
use Rattle.il_core.specs.declared.statement.Link.{Link}
use Rattle.il_types.specs.declared.rules.Found.{Found}
use Rattle.il_types.specs.Names.{Setting, of_procedure}
use Rattle.il_types.specs.Rules.{naming, twice}
use Rattle.il_built.specs.Holding.{setting_at}
use Rattle.il_called.specs.Expansion.{Callee, brought_name}
use Rattle.call_rules.specs.CalledText.{callee_at, call_number_at}

-- the new names that a call of a number brings, in their order
abbrev pub new_names_of : ℕ → Option Callee → List (List ℕ)
new_names_of k None = []
new_names_of k (Some callee) = map (brought_name k) callee.expanded.places

abbrev pub new_names : List Placed → List Link → ℕ → List ℕ → List (List ℕ)
new_names stmts links i name = new_names_of (call_number_at stmts links i) (callee_at stmts links i name)

-- a variable of the procedure in which a statement stands
abbrev pub is_own_variable : Setting → List ℕ → Bool
is_own_variable s name = is_some (of_procedure s.table s.owner name)

-- the first of the new names that a variable has
abbrev pub clash : List Placed → List Link → ℕ → List ℕ → Option (List ℕ)
clash stmts links i name = find (is_own_variable (setting_at stmts i)) (new_names stmts links i name)

-- the first name of statement i that is declared twice
abbrev pub twice_at : List Placed → List Link → ℕ → Statement → Option Found
twice_at stmts links i (call name arguments) = option_map (naming code.Twice) (clash stmts links i name)
twice_at stmts links i x = twice stmts i x
