-- The substitution of a term for each place: every variable becomes the term of its place.
use Rattle.std.specs.Prelude.{ℕ, zero, suc, pos, ◌<◌, ◌++◌, List, [], ◌∷◌, map, slice_index_or}
use Rattle.il_core.specs.Evaluation.{State}
use Rattle.sym_terms.specs.declared.term.Term.{Term}
use Rattle.sym_terms.specs.declared.term.Term.TheVariants.{Var}
use Rattle.sym_terms.specs.Tree.{Tree, tree_of, number, variable, sum, product, quotient, remainder}
use Rattle.sym_terms.specs.Value.{value_of}

-- the term of a place
abbrev pub term_at : List Tree → ℕ → Tree
term_at terms place = slice_index_or terms place (number (pos 0))

abbrev pub substituted : List Tree → Tree → Tree
substituted terms (number n) = number n
substituted terms (variable p) = term_at terms p
substituted terms (sum a b) = sum (substituted terms a) (substituted terms b)
substituted terms (product a b) = product (substituted terms a) (substituted terms b)
substituted terms (quotient a b) = quotient (substituted terms a) (substituted terms b)
substituted terms (remainder a b) = remainder (substituted terms a) (substituted terms b)

-- each place of the term is below n
abbrev pub HasPlacesBelow : ℕ → Tree → Type 0
HasPlacesBelow n (number c) = Unit {0}
HasPlacesBelow n (variable p) = p < n
HasPlacesBelow n (sum a b) = HasPlacesBelow n a × HasPlacesBelow n b
HasPlacesBelow n (product a b) = HasPlacesBelow n a × HasPlacesBelow n b
HasPlacesBelow n (quotient a b) = HasPlacesBelow n a × HasPlacesBelow n b
HasPlacesBelow n (remainder a b) = HasPlacesBelow n a × HasPlacesBelow n b

abbrev pub trees : List Term → List Tree
trees terms = map tree_of terms

-- the state that the terms give, from a state over whose places they speak
abbrev pub state_of : List Tree → State → State
state_of terms s = map (λ t. value_of t s) terms

-- each of the first n places by itself
abbrev pub variables : ℕ → List Term
variables zero = []
variables (suc n) = variables n ++ Var n ∷ []
