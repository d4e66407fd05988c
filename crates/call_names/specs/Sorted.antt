-- Names in the order of their bytes.
use Rattle.std.specs.Prelude.{ℕ, List, map}
use Rattle.std.specs.List.{AllZip}
use Rattle.std.specs.Cmp.Lexicographic.{slice_cmp}
use Rattle.std.specs.List.Sorted.{IsSorted, IsPermutation}
use Rattle.std.specs.Ordering.{nat_cmp}
use Rattle.call_names.specs.declared.outline.Outline.{Outline}
use Rattle.call_names.specs.declared.outline.Variable.{Variable}

abbrev pub names_of : List Variable → List (List ℕ)
names_of variables = map (λ (v : Variable). v.name) variables

abbrev pub AreInOrder : List (List ℕ) → Type 0
AreInOrder names = IsSorted (slice_cmp nat_cmp) names

-- the same names in the order of their bytes
pub record AreSorted (names sorted : List (List ℕ)) : Type 0 where
  pub order : AreInOrder sorted
  pub same : IsPermutation names sorted

-- for each outline the names of its variables in the order of their bytes
abbrev pub AreAllSorted : List Outline → List (List (List ℕ)) → Type 0
AreAllSorted outlines all = AllZip AreSorted (map (λ (o : Outline). names_of o.variables) outlines) all
