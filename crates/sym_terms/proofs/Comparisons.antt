-- A comparison under terms, and a denied one.
use Rattle.std.proofs.Common.{◌≡◌, refl, ℕ, ℤ, Bool, true, false, not, List, map, arith}
use Rattle.std.specs.Ordering.{int_eq}
use Rattle.std.proofs.lemmas.Int.{ints}
use Rattle.il_core.specs.Evaluation.{State, compares}
use Rattle.il_core.specs.declared.operator.Relation.{Relation}
use Rattle.il_core.specs.declared.operator.Relation.TheVariants.{Eq, Ne, Lt, Le, Gt, Ge}
use Rattle.sym_terms.specs.Tree.{Tree}
use Rattle.sym_terms.specs.Value.{value_of}
use Rattle.sym_terms.specs.Substitution.{substituted, state_of}
use Rattle.sym_terms.specs.Identity.{own_values}
use Rattle.sym_terms.specs.Places.{HavePlacesBelow}
use Rattle.sym_terms.specs.Comparison.{Comparison, comparison_holds, comparison_under, denied, denied_relation, ComparesPlacesBelow}
use Rattle.sym_terms.proofs.Values.{value-substituted}
use Rattle.sym_terms.proofs.Composed.{substituted_twice, substituted_own, places_substituted}

not_not : (b : Bool) → b ≡ not (not b)
not_not true = refl
not_not false = refl

compares-denied : (r : Relation) (a b : ℤ) → compares (denied_relation r) a b ≡ not (compares r a b)
compares-denied Eq a b = refl
compares-denied Ne a b = not_not (int_eq a b)
compares-denied Lt a b = grind (arith, ints)
compares-denied Le a b = grind (arith, ints)
compares-denied Gt a b = grind (arith, ints)
compares-denied Ge a b = grind (arith, ints)

-- a denied comparison holds exactly where the comparison does not
pub denied_holds : (c : Comparison) (s : State) → comparison_holds (denied c) s ≡ not (comparison_holds c s)
denied_holds c s = compares-denied c.relation (value_of c.left s) (value_of c.right s)

-- a comparison under terms holds in a state exactly where the comparison holds in the state of the terms
pub holds_under : (terms : List Tree) (c : Comparison) (s : State) → comparison_holds (comparison_under terms c) s ≡ comparison_holds c (state_of terms s)
holds_under terms c s = rw (value-substituted terms c.left s, value-substituted terms c.right s) refl

pub compared_twice : (xs ys : List Tree) (c : Comparison) → comparison_under xs (comparison_under ys c) ≡ comparison_under (map (substituted xs) ys) c
compared_twice xs ys c = rw (substituted_twice xs ys c.left, substituted_twice xs ys c.right) refl

pub compared_own : (n : ℕ) (c : Comparison) → ComparesPlacesBelow n c → comparison_under (own_values n) c ≡ c
compared_own n c h = rw (substituted_own n c.left h.0, substituted_own n c.right h.1) refl

pub places_compared : (n : ℕ) (terms : List Tree) (c : Comparison) → HavePlacesBelow n terms → ComparesPlacesBelow n (comparison_under terms c)
places_compared n terms c h = (places_substituted n terms c.left h, places_substituted n terms c.right h)

-- a denied comparison under terms is the denied one of the comparison under them
pub denied_under : (terms : List Tree) (c : Comparison) → comparison_under terms (denied c) ≡ denied (comparison_under terms c)
denied_under terms c = refl
