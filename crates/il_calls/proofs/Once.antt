-- Where no name is declared twice, no statement is a redeclaration.
use Rattle.std.proofs.Common.{◌≡◌, ℕ, ap, refl, true, List, nat_eq, arith, cond}
use Rattle.std.specs.Prelude.{Option, Some, None, slice_get}
use Rattle.std.specs.Option.{option_and_then}
use Rattle.il_core.specs.Statement.{Placed}
use Rattle.il_core.specs.declared.statement.Link.{Link}
use Rattle.il_types.specs.declared.names.Redeclaration.{Redeclaration}
use Rattle.il_types.specs.Redeclaration.{IsFirstRedeclaration}
use Rattle.il_types.specs.Rules.{at_stmt, twice, ComesNowhere}
use Rattle.call_rules.specs.Clash.{twice_at}
use Rattle.call_names.proofs.Turns.{redeclaration_here}

pub none_again : (stmts : List Placed) (links : List Link) (redeclaration : Option Redeclaration) → ComesNowhere (twice_at stmts links) stmts
    → IsFirstRedeclaration stmts redeclaration → redeclaration ≡ None
none_again stmts links None nowhere first = refl
none_again stmts links (Some it) nowhere first = absurd (by (slice_get stmts it.at) refl)
  where
    same : (n : ℕ) → nat_eq n n ≡ true
    same n = grind arith

    by : (o : Option Placed) → slice_get stmts it.at ≡ o → ⊥
    by None h =
        let none : at_stmt (twice stmts) stmts it.at ≡ None = ap (option_and_then (λ (y : Placed). twice stmts it.at y.says)) h in
        let some = first.0 in cc
    by (Some x) h =
        let found = redeclaration_here stmts links (Some it) it.at x it.name h first (ap (λ b. cond b (Some it.name) None) (same it.at)) in
        let here : at_stmt (twice_at stmts links) stmts it.at ≡ twice_at stmts links it.at x.says = ap (option_and_then (λ (y : Placed). twice_at stmts links it.at y.says)) h in
        let none = nowhere it.at in cc
