-- What a search for a procedure's own variables finds.
use Rattle.std.proofs.Common.{◌≡◌, ℕ, zero, suc, ◌-◌, ◌<◌, ◌∙◌, sym, ap, refl, subst, List, [], ◌∷◌, ◌++◌, length, get_or, nat_eq}
use Rattle.std.specs.Prelude.{Option, Some, find, map}
use Rattle.std.specs.Cmp.Lexicographic.{pointwise}
use Rattle.std.proofs.lemmas.List.{length-map}
use Rattle.std.proofs.lemmas.List.Elements.{AllZip-get_or}
use Rattle.std.proofs.lemmas.List.Sorted.{list_any-IsPermutation}
use Rattle.il_core.specs.declared.line.Place.{Place}
use Rattle.il_called.specs.Called.{WrittenProcedure}
use Rattle.il_called.specs.Expansion.{brought_name}
use Rattle.call_names.specs.Search.{is_among, names_under, places_at}
use Rattle.call_names.specs.Sorted.{names_of, AreSorted, AreAllSorted}
use Rattle.call_names.specs.Gathered.{own_names, clash_found}
use Rattle.call_names.specs.declared.outline.Outline.{Outline}
use Rattle.call_names.proofs.Parts.{find_same}

own_at : (outlines : List Outline) (owner : ℕ) → get_or (map (λ (o : Outline). names_of o.variables) outlines) owner [] ≡ own_names outlines owner
own_at [] zero = refl
own_at [] (suc owner) = refl
own_at (o ∷ os) zero = refl
own_at (o ∷ os) (suc owner) = own_at os owner

-- the sorted names of a procedure are its own
pub own_sorted : (outlines : List Outline) (all : List (List (List ℕ))) (owner : ℕ) (sorted : List (List ℕ)) → owner < length outlines → AreAllSorted outlines all
    → sorted ≡ get_or all owner sorted → AreSorted (own_names outlines owner) sorted
own_sorted outlines all owner sorted inside h is =
    let own : List (List (List ℕ)) = map (λ (o : Outline). names_of o.variables) outlines in
    let less : owner < length own = subst (λ n. owner < n) (sym (length-map outlines (λ (o : Outline). names_of o.variables))) inside in
    subst (λ (ns : List (List ℕ)). AreSorted ns sorted) (own_at outlines owner)
    (subst (λ (ns : List (List ℕ)). AreSorted (get_or own owner []) ns) (sym is) (AllZip-get_or AreSorted own all owner [] sorted h less))

-- what was found by the names and the number as they are read
pub clash_read : (procs : List WrittenProcedure) (outlines : List Outline) (owner k n : ℕ) (sorted sought : List (List ℕ)) (named : Option ℕ) (c : ℕ)
    (found : Option (List ℕ)) → AreSorted (own_names outlines owner) sorted → sought ≡ sorted → named ≡ Some c → n ≡ c - 1
    → found ≡ find (is_among sought) (names_under [] k (places_at procs n)) → found ≡ clash_found procs (own_names outlines owner) k named
clash_read procs outlines owner k n sorted sought named c found own same some number e =
    e ∙ ap (λ ns. find (is_among ns) (names_under [] k (places_at procs n))) same
    ∙ find_same (is_among sorted) (is_among (own_names outlines owner)) (λ (p : Place). [] ++ brought_name k p) (places_at procs n)
    (λ p. sym (list_any-IsPermutation (pointwise nat_eq ([] ++ brought_name k p)) (own_names outlines owner) sorted own.same))
    ∙ ap (λ m. find (is_among (own_names outlines owner)) (names_under [] k (places_at procs m))) number
    ∙ ap (clash_found procs (own_names outlines owner) k) (sym some)
