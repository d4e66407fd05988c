use Rattle.std.proofs.Common.{rules, ◌≡◌, ◌<◌, sym, ap, subst, List, length}
use Rattle.std.specs.Prelude.{map, Option, Some}
use Rattle.il_core.specs.Statement.{placed}
use Rattle.il_core.specs.declared.refusal.Code.TheVariants as code
use Rattle.il_core.specs.declared.statement.Stmt.{Stmt}
use Rattle.il_types.specs.declared.names.Redeclaration.{Redeclaration}
use Rattle.il_types.specs.Redeclaration.{IsFirstRedeclaration}
use Rattle.il_types.specs.Rules.{naming, twice}
use Rattle.il_types.proofs.Passing.{stands, first_there}
use Rattle.il_types.proofs.names.declare_all.Goals as goal

-- a redeclaration is a statement of the text
is_inside : (stmts : List Stmt) (o : Option Redeclaration) (r : Redeclaration) → o ≡ Some r → IsFirstRedeclaration (map placed stmts) o → r.at < length stmts
is_inside stmts o r e f =
    let first = subst (IsFirstRedeclaration (map placed stmts)) e f in
    stands (twice (map placed stmts)) stmts r.at (naming code.Twice r.name) first.0

pub offset_bounds-stmts-redeclaration : goal.offset_bounds-stmts-redeclaration
offset_bounds-stmts-redeclaration c =
    let inside = is_inside c.args.stmts.now c.in_ok-names.field-0.redeclaration c.in-Some.redeclaration c.in-Some.is c.in_ok-names.ensures.first in
    search (rules, inside)

pub bounds-stmts-redeclaration : goal.bounds-stmts-redeclaration
bounds-stmts-redeclaration c = is_inside c.args.stmts.now c.in_ok-names.field-0.redeclaration c.in-Some.redeclaration c.in-Some.is c.in_ok-names.ensures.first

pub bounds-stmts-redeclaration-in-Some : goal.bounds-stmts-redeclaration-in-Some
bounds-stmts-redeclaration-in-Some c = is_inside c.args.stmts.now c.in_ok-names.field-0.redeclaration c.in-Some.redeclaration c.in-Some.is c.in_ok-names.ensures.first

pub returns-in-Some : goal.returns-in-Some
returns-in-Some c =
    let stmts = c.args.stmts.now in
    let r = c.in-Some.redeclaration in
    let first = subst (IsFirstRedeclaration (map placed stmts)) c.in-Some.is c.in_ok-names.ensures.first in
    let inside = is_inside stmts c.in_ok-names.field-0.redeclaration r c.in-Some.is c.in_ok-names.ensures.first in
    first_there (twice (map placed stmts)) stmts r.at c.index-stmts-redeclaration.result _ inside c.index-stmts-redeclaration.is first.1 first.0
    (ap (λ (s : Stmt). s.place) (sym c.index-stmts-redeclaration.is))
