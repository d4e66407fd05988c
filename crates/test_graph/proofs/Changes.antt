-- A change of the terms of places is the change of the state that they give.
use Rattle.std.proofs.Common.{◌≡◌, refl, ap, ◌∙◌, ℕ, zero, suc, Option, Some, None, List, [], ◌∷◌, length, slice_set, length-set}
use Rattle.std.proofs.lemmas.List.{map-set}
use Rattle.il_core.specs.Evaluation.{State}
use Rattle.sym_terms.specs.Tree.{Tree}
use Rattle.sym_terms.specs.Value.{value_of}
use Rattle.sym_terms.specs.Substitution.{substituted, state_of, HasPlacesBelow}
use Rattle.sym_terms.specs.Places.{HavePlacesBelow}
use Rattle.sym_terms.proofs.Values.{value-substituted}
use Rattle.sym_terms.proofs.Composed.{places_substituted}
use Rattle.test_graph.specs.Decision.{Change}
use Rattle.test_graph.specs.Way.{changed, state_behind}

-- the terms behind a change give the state behind the change of the state that the terms give
pub state-changed : (c : Option Change) (terms : List Tree) (s : State) → state_of (changed c terms) s ≡ state_behind c (state_of terms s)
state-changed None terms s = refl
state-changed (Some c) terms s =
    map-set (λ t. value_of t s) terms c.place (substituted terms c.term) ∙ ap (slice_set (state_of terms s) c.place) (value-substituted terms c.term s)

pub length-changed : (c : Option Change) (terms : List Tree) → length (changed c terms) ≡ length terms
length-changed None terms = refl
length-changed (Some c) terms = length-set terms c.place (substituted terms c.term)

places-set : (n : ℕ) (terms : List Tree) (p : ℕ) (t : Tree) → HavePlacesBelow n terms → HasPlacesBelow n t → HavePlacesBelow n (slice_set terms p t)
places-set n [] p t h k = tt
places-set n (x ∷ xs) zero t h k = (k, h.1)
places-set n (x ∷ xs) (suc p) t h k = (h.0, places-set n xs p t h.1 k)

-- the terms behind a change speak of no further places
pub places-changed : (n : ℕ) (c : Option Change) (terms : List Tree) → HavePlacesBelow n terms → HavePlacesBelow n (changed c terms)
places-changed n None terms h = h
places-changed n (Some c) terms h = places-set n terms c.place (substituted terms c.term) h (places_substituted n terms c.term h)
