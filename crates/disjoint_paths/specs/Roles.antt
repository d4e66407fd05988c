-- The roles before a search: the lines of a front of the first path have their places, all others are far.
use Rattle.std.specs.Prelude.{◌≡◌, ℕ, ◌<◌, List, length, take, slice_index}
use Rattle.il_core.specs.LineGraph.{IsIn}
use Rattle.disjoint_paths.specs.declared.widening.Role.{Role}
use Rattle.disjoint_paths.specs.declared.widening.Role.TheVariants.{Far, OnPath, Open}
use Rattle.disjoint_paths.specs.Widening.{role_at}

abbrev pub IsPlaced : List ℕ → ℕ → ℕ → Role → Type 0
IsPlaced path k v Far = IsIn (take k path) v → ⊥
IsPlaced path k v (OnPath i) = (i < length path) × (slice_index path i ≡ v)
IsPlaced path k v Open = ⊥

pub record ArePlaced (path : List ℕ) (n k : ℕ) (roles : List Role) : Type 0 where
  pub size : length roles ≡ n
  pub each : (v : ℕ) → v < n → IsPlaced path k v (role_at roles v)
