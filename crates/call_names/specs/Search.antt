-- Names sought among the new names that a call brings.
use Rattle.std.specs.Prelude.{ℕ, Bool, List, [], ◌++◌, length, take, map, codes, decimal, nat_eq, None, Some, slice_get, if◌then◌else◌}
use Rattle.std.specs.Cmp.Lexicographic.{pointwise}
use Rattle.std.specs.List.{list_any}
use Rattle.il_core.specs.declared.line.Place.{Place}
use Rattle.il_called.specs.Called.{WrittenProcedure}
use Rattle.il_called.specs.Expansion.{brought_name, callees_of}

-- a name is one of these
abbrev pub is_among : List (List ℕ) → List ℕ → Bool
is_among names name = list_any (pointwise nat_eq name) names

abbrev pub begins_with : List ℕ → List ℕ → Bool
begins_with stem name = pointwise nat_eq (take (length stem) name) stem

-- what stands in front of the name of a place in its new name
abbrev pub mark : Bool → ℕ → List ℕ
mark old k = (if old then codes "o" else codes "c") ++ decimal k ++ codes "_"

-- the new names that a call of a number brings, each behind some bytes
abbrev pub names_under : List ℕ → ℕ → List Place → List (List ℕ)
names_under front k places = map (λ p. front ++ brought_name k p) places

-- the places of the expansion of the procedure of a number
abbrev pub places_at : List WrittenProcedure → ℕ → List Place
places_at procs n = elim (slice_get (callees_of procs) n) [ None ↦ [] | Some it ↦ it.expanded.places ]
