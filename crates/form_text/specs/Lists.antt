-- Lists in a report: lines with spaces between them, or a dash where there is none; places by their names; what is numbered.
use Rattle.std.specs.Prelude.{ℕ, suc, Bool, List, [], ◌∷◌, ◌++◌, slice_get, codes, decimal, None, Some, if◌then◌else◌}
use Rattle.std.specs.List.{flat_map}
use Rattle.il_core.specs.declared.line.Place.{Place}

-- the texts of the members of a list that are numbered from k on
abbrev pub numbered : {X : Type 0} → (ℕ → X → List ℕ) → ℕ → List X → List ℕ
numbered text k [] = []
numbered text k (x ∷ xs) = text k x ++ numbered text (suc k) xs

-- the texts of the members of a list with spaces between them, or a dash
abbrev pub spaced : {X : Type 0} → (X → List ℕ) → List X → List ℕ
spaced text [] = codes "-"
spaced text (x ∷ xs) = text x ++ flat_map (λ y. codes " " ++ text y) xs

abbrev pub line_text : ℕ → List ℕ
line_text n = codes "L" ++ decimal n

unfoldable pub lines_text : List ℕ → List ℕ
lines_text lines = spaced line_text lines

-- what stands before the name of a place: the mark of an OLD copy
abbrev pub old_mark : Bool → List ℕ
old_mark old = if old then codes "OLD " else []

-- a place by its name, an OLD copy with its mark
abbrev pub place_text : Place → List ℕ
place_text place = old_mark place.old ++ place.name

-- the place of a number
abbrev pub place_at : List Place → ℕ → List ℕ
place_at places at = elim (slice_get places at) [ None ↦ [] | Some place ↦ place_text place ]

unfoldable pub names_text : List Place → List ℕ → List ℕ
names_text places numbers = spaced (place_at places) numbers
