-- The places of a normal term and of a form are below a number.
use Rattle.std.specs.Prelude.{◌<◌, ℕ}
use Rattle.sym_simplify.specs.Form.{Form, constant, part, Factor, place, pair}
use Rattle.sym_simplify.specs.Literal.{LiteralForm, always, never, keep}

abbrev mutual
  pub HasFormPlacesBelow : ℕ → Form → Type 0
  HasFormPlacesBelow k (constant c) = Unit {0}
  HasFormPlacesBelow k (part c a n) = HasFactorPlacesBelow k a × HasFormPlacesBelow k n

  pub HasFactorPlacesBelow : ℕ → Factor → Type 0
  HasFactorPlacesBelow k (place p) = p < k
  HasFactorPlacesBelow k (pair l m n) = HasFormPlacesBelow k m × HasFormPlacesBelow k n

abbrev pub HasLiteralPlacesBelow : ℕ → LiteralForm → Type 0
HasLiteralPlacesBelow k always = Unit {0}
HasLiteralPlacesBelow k never = Unit {0}
HasLiteralPlacesBelow k (keep n r bound) = HasFormPlacesBelow k n
