-- A CALL fits where it names an earlier procedure, has one argument for each of its parameters, gives each INOUT and OUT parameter a single
-- name and no two of them the same one, and brings no name of more than 40 bytes.
use Rattle.std.specs.Prelude.{ℕ, Bool, true, not, ◌&&◌, ◌||◌, List, [], ◌∷◌, length, Option, Some, None, is_some, nat_eq, nat_le, filter_map}
use Rattle.std.specs.Cmp.Lexicographic.{pointwise}
use Rattle.std.specs.List.{list_all, list_any}
use Rattle.il_core.specs.Statement.{Statement, Placed, call}
use Rattle.il_core.specs.Tree.{Tree}
use Rattle.il_core.specs.declared.refusal.Code.TheVariants as code
use Rattle.il_core.specs.declared.statement.Link.{Link}
use Rattle.il_types.specs.declared.rules.Found.{Found}
use Rattle.il_types.specs.Rules.{unless}
use Rattle.il_built.specs.Holding.{setting_at}
use Rattle.il_called.specs.Expansion.{is_returned}
use Rattle.call_rules.specs.declared.parameters.Parameter.{Parameter}
use Rattle.call_rules.specs.Callee.{Pairing, parameters_named, pairings}
use Rattle.call_rules.specs.Calls.{single_name, back_to}
use Rattle.call_rules.specs.CalledText.{callee_at}
use Rattle.call_rules.specs.Clash.{new_names}

abbrev pub is_one_each : List Parameter → List Tree → Bool
is_one_each ps es = nat_eq (length ps) (length es)

-- an INOUT or OUT parameter is given a single name
abbrev pub suits : Option Parameter → Tree → Bool
suits None e = true
suits (Some p) e = not (is_returned p.mode) || is_some (single_name e)

abbrev pub is_suited : Pairing → Bool
is_suited g = suits g.parameter g.argument

-- none of these names stands twice
abbrev pub are_apart : List (List ℕ) → Bool
are_apart [] = true
are_apart (n ∷ ns) = not (list_any (pointwise nat_eq n) ns) && are_apart ns

abbrev pub is_short : List ℕ → Bool
is_short name = nat_le (length name) 40

abbrev pub fit_parameters : List Parameter → List Tree → Bool
fit_parameters ps es =
    let gs = pairings ps es in
    is_one_each ps es && (list_all is_suited gs && are_apart (filter_map back_to gs))

abbrev pub fits : List Placed → List Link → ℕ → List ℕ → List Tree → Bool
fits stmts links i name arguments = is_some (callee_at stmts links i name)
    && (fit_parameters (parameters_named (setting_at stmts i) name) arguments && list_all is_short (new_names stmts links i name))

-- what a CALL that does not fit breaks
abbrev pub misfit_at : List Placed → List Link → ℕ → Statement → Option Found
misfit_at stmts links i (call name arguments) = unless (fits stmts links i name arguments) code.BadCall
misfit_at stmts links i x = None
