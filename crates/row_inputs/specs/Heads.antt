-- Marks of the lines that are loop heads.
use Rattle.std.specs.Prelude.{◌≡◌, ◌⊎◌, ℕ, Bool, true, false, Some, List, length, slice_get}
use Rattle.control_flow.specs.declared.control.LoopInfo.{LoopInfo}
use Rattle.region_paths.specs.Region.{is_head}

-- marks that are set exactly at the heads
abbrev pub AreMarked : List LoopInfo → List Bool → Type 0
AreMarked loops marks = (line : ℕ) (marked : Bool) → slice_get marks line ≡ Some marked → marked ≡ is_head loops line

-- such marks for the first n lines
pub record MarkHeads (n : ℕ) (loops : List LoopInfo) (marks : List Bool) : Type 0 where
  pub size : length marks ≡ n
  pub each : AreMarked loops marks

abbrev pub IsUnmarked : Bool → Type 0
IsUnmarked marked = marked ≡ false

-- what stands at a place where the mark of a line is set
abbrev pub IsMarked : List Bool → ℕ → ℕ → Bool → Type 0
IsMarked marks line at marked = ((at ≡ line) × (marked ≡ true)) ⊎ ((at ≡ line → ⊥) × (slice_get marks at ≡ Some marked))
