-- The places that the terms of a list speak of.
use Rattle.std.specs.Prelude.{ℕ, List, [], ◌∷◌}
use Rattle.sym_terms.specs.Tree.{Tree}
use Rattle.sym_terms.specs.Substitution.{HasPlacesBelow}

-- each place of each term is below n
abbrev pub HavePlacesBelow : ℕ → List Tree → Type 0
HavePlacesBelow n [] = Unit {0}
HavePlacesBelow n (t ∷ ts) = HasPlacesBelow n t × HavePlacesBelow n ts
