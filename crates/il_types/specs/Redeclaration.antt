-- The first statement of a text that declares a name that is taken, by its number and the name.
use Rattle.std.specs.Prelude.{◌≡◌, ℕ, ◌<◌, List, Option, Some, None}
use Rattle.il_core.specs.Statement.{Placed}
use Rattle.il_core.specs.declared.refusal.Code.TheVariants as code
use Rattle.il_types.specs.declared.names.Redeclaration.{Redeclaration}
use Rattle.il_types.specs.Rules.{at_stmt, naming, twice, ComesNowhere}

abbrev pub IsFirstRedeclaration : List Placed → Option Redeclaration → Type 0
IsFirstRedeclaration stmts None = ComesNowhere (twice stmts) stmts
IsFirstRedeclaration stmts (Some d) = (at_stmt (twice stmts) stmts d.at ≡ Some (naming code.Twice d.name)) × ((j : ℕ) → j < d.at → at_stmt (twice stmts) stmts j ≡ None)
