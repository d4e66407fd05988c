-- A substituted term has the value that the term has in the state of its environment.
use Rattle.std.proofs.Common.{◌≡◌, pos, refl, zero, suc, ℕ, List, [], ◌∷◌, get_or, Result, Ok, Err, IfOk}
use Rattle.il_core.specs.Evaluation.{State}
use Rattle.il_core.specs.declared.memory.NoMemory.{NoMemory}
use Rattle.sym_terms.specs.declared.term.Term.{Term}
use Rattle.sym_terms.specs.Tree.{Tree, tree_of, number, variable, sum, product, quotient, remainder}
use Rattle.sym_terms.specs.Value.{value_of}
use Rattle.sym_terms.specs.Substitution.{substituted, term_at, state_of}

-- the value of a place's term is what the state of the environment has at that place
value-term_at : (terms : List Tree) (p : ℕ) (s : State) → value_of (term_at terms p) s ≡ get_or (state_of terms s) p (pos 0)
value-term_at [] p s = refl
value-term_at (t ∷ ts) zero s = refl
value-term_at (t ∷ ts) (suc p) s = value-term_at ts p s

-- a substituted term in a state has the term's value in the state of the environment
pub value-substituted : (terms : List Tree) (t : Tree) (s : State) → value_of (substituted terms t) s ≡ value_of t (state_of terms s)
value-substituted terms (number n) s = refl
value-substituted terms (variable p) s = value-term_at terms p s
value-substituted terms (sum a b) s = rw (value-substituted terms a s, value-substituted terms b s) refl
value-substituted terms (product a b) s = rw (value-substituted terms a s, value-substituted terms b s) refl
value-substituted terms (quotient a b) s = rw (value-substituted terms a s, value-substituted terms b s) refl
value-substituted terms (remainder a b) s = rw (value-substituted terms a s, value-substituted terms b s) refl

-- an answer that is the substituted term has its value
pub value_kept : (r : Result Term NoMemory) (terms : List Tree) (t : Tree) → IfOk r (λ x. tree_of x ≡ substituted terms t)
    → IfOk r (λ x. (s : State) → value_of (tree_of x) s ≡ value_of t (state_of terms s))
value_kept (Ok x) terms t h = λ s. rw h (value-substituted terms t s)
value_kept (Err e) terms t h = tt
