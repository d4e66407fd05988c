-- The numbers of the calls as whose new names some names go on.
use Rattle.std.specs.Prelude.{◌≡◌, ℕ, ◌<◌, ◌^◌, Bool, true, List, ◌++◌, nat_eq}
use Rattle.std.specs.List.{list_any}
use Rattle.call_names.specs.Search.{is_among, mark}

-- each number of a call is there as whose new names one of the names goes on behind these bytes
abbrev pub AreNumbersBehind : List ℕ → List (List ℕ) → List ℕ → Type 0
AreNumbersBehind stem names numbers = (old : Bool) (k : ℕ) (rest : List ℕ) → k < 2 ^ 64 → is_among names (stem ++ (mark old k ++ rest)) ≡ true → list_any (nat_eq k) numbers ≡ true
