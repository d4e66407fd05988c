-- What the cases of least inputs ask: variables, and literals over places whose numbers are small.
use Rattle.std.specs.Prelude.{◌≡◌, ℕ, ◌≤ℤ◌, false}
use Rattle.il_core.specs.declared.line.Place.{Place}
use Rattle.sym_simplify.specs.Literal.{LiteralForm}
use Rattle.sym_simplify.specs.Easy.{IsKept}
use Rattle.sym_simplify.specs.Places.{HasLiteralPlacesBelow}

pub record IsVariable (p : Place) : Type 0 where
  pub current : p.old ≡ false
  pub number : p.flag ≡ false
  pub ordered : p.least ≤ℤ p.greatest

pub record IsAsked (n : ℕ) (f : LiteralForm) : Type 0 where
  pub kept : IsKept f
  pub below : HasLiteralPlacesBelow n f
