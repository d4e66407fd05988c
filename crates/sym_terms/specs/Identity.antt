-- The terms that leave everything as it is: each of the first n places by itself.
use Rattle.std.specs.Prelude.{ℕ, zero, suc, ◌++◌, List, [], ◌∷◌}
use Rattle.sym_terms.specs.Tree.{Tree, variable}

abbrev pub own_values : ℕ → List Tree
own_values zero = []
own_values (suc n) = own_values n ++ variable n ∷ []
