-- Where names are found alike a name stands for the same procedure.
use Rattle.std.proofs.Common.{◌≡◌, ℕ, ◌+◌, ◌-◌, ◌∙◌, ap, refl, List, [], ◌∷◌, nat_eq, if◌then◌else◌}
use Rattle.std.specs.Prelude.{Option, None, unwrap_or}
use Rattle.std.specs.Map.{lookup}
use Rattle.std.specs.Option.{option_and_then, option_or}
use Rattle.il_core.specs.Statement.{Statement, Placed, call}
use Rattle.il_types.specs.Names.{FindAlike, Table, Setting, setting, same_key, earlier, of_procedure, in_force, said, front_of, counts_at}
use Rattle.il_built.specs.Holding.{setting_at}
use Rattle.il_called.specs.Called.{WrittenProcedure}
use Rattle.call_rules.specs.Callee.{procedure_in, procedure_named}
use Rattle.call_names.specs.Gathered.{called_in, clash_found, clash_in, own_names}
use Rattle.call_names.specs.declared.outline.Outline.{Outline}

module _ (t u : Table) (e : FindAlike t u) (stmts : List Placed) (owner i : ℕ) where
  in_force_alike : (name : List ℕ) → in_force (setting t stmts owner i) name ≡ in_force (setting u stmts owner i) name
  in_force_alike name =
      ap (λ o. option_or (if nat_eq owner 0 then None else o) (earlier i (lookup (same_key (0, name)) t))) (e (owner, name))
      ∙ ap (λ o. option_or (of_procedure u owner name) (earlier i o)) (e (0, name))

  named_alike : (name : List ℕ) → procedure_named (setting t stmts owner i) name ≡ procedure_named (setting u stmts owner i) name
  named_alike name = ap (λ o. option_and_then (λ d. procedure_in (setting t stmts owner i) d.0 d.1) (option_and_then (said stmts) o)) (in_force_alike name)

  called_in_both : (x : Statement) → called_in (setting t stmts owner i) x ≡ called_in (setting u stmts owner i) x
  called_in_both (call name arguments) = ap (λ (o : Option ℕ). (unwrap_or o owner - 1) ∷ []) (named_alike name)
  called_in_both x = refl

  clash_in_both : (procs : List WrittenProcedure) (outlines : List Outline) (calls : ℕ) (x : Statement)
      → clash_in procs outlines (setting t stmts owner i) calls x ≡ clash_in procs outlines (setting u stmts owner i) calls x
  clash_in_both procs outlines calls (call name arguments) =
      ap (λ (o : Option ℕ). if nat_eq owner 0 then None else clash_found procs (own_names outlines owner) (calls + 1) o) (named_alike name)
  clash_in_both procs outlines calls x = refl

-- what a statement calls, and the clash there, by a setting as it is read
module _ (t : Table) (stmts : List Placed) (owner i : ℕ) (s : Setting) (e : FindAlike t (front_of stmts).table) (o : owner ≡ (counts_at stmts i).procedures)
    (is : s ≡ setting t stmts owner i) where
  at : s ≡ setting t stmts (counts_at stmts i).procedures i
  at = is ∙ ap (λ n. setting t stmts n i) o

  pub called_alike : (x : Statement) → called_in s x ≡ called_in (setting_at stmts i) x
  called_alike x = ap (λ (r : Setting). called_in r x) at ∙ called_in_both t (front_of stmts).table e stmts (counts_at stmts i).procedures i x

  pub clash_alike : (procs : List WrittenProcedure) (outlines : List Outline) (calls : ℕ) (x : Statement)
      → clash_in procs outlines s calls x ≡ clash_in procs outlines (setting_at stmts i) calls x
  clash_alike procs outlines calls x =
      ap (λ (r : Setting). clash_in procs outlines r calls x) at ∙ clash_in_both t (front_of stmts).table e stmts (counts_at stmts i).procedures i procs outlines calls x
