-- Decisions and ways that speak of the first n places alone.
use Rattle.std.specs.Prelude.{ℕ, ◌<◌, Option, Some, None, List, [], ◌∷◌}
use Rattle.sym_terms.specs.Substitution.{HasPlacesBelow}
use Rattle.sym_terms.specs.Comparison.{Comparison, ComparesPlacesBelow}
use Rattle.test_graph.specs.Decision.{Change, Decision, ask, done}
use Rattle.test_graph.specs.Way.{Way}

-- the place that gets a value, and those of its term, are below n
abbrev pub ChangesPlacesBelow : ℕ → Option Change → Type 0
ChangesPlacesBelow n None = Unit {0}
ChangesPlacesBelow n (Some c) = (c.place < n) × HasPlacesBelow n c.term

abbrev pub DecidesPlacesBelow : ℕ → Decision → Type 0
DecidesPlacesBelow n (ask c met unmet) = ComparesPlacesBelow n c × DecidesPlacesBelow n met × DecidesPlacesBelow n unmet
DecidesPlacesBelow n (done change next) = ChangesPlacesBelow n change

abbrev pub AllComparePlacesBelow : ℕ → List Comparison → Type 0
AllComparePlacesBelow n [] = Unit {0}
AllComparePlacesBelow n (c ∷ cs) = ComparesPlacesBelow n c × AllComparePlacesBelow n cs

pub record SpeaksOfPlacesBelow (n : ℕ) (w : Way) : Type 0 where
  pub compared : AllComparePlacesBelow n w.literals
  pub changed : ChangesPlacesBelow n w.change
