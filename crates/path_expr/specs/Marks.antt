-- Marks on the steps of a plan, and the definitions of the marked ones among the first steps.
use Rattle.std.specs.Prelude.{◌≡◌, ℕ, ◌+◌, ◌-◌, ◌^◌, ◌<◌, Bool, true, if◌then◌else◌, nat_lt, Option, Some, None, List, length, slice_get, slice_index, slice_set}
use Rattle.flow_graph.specs.Search.{IsMarked}
use Rattle.regular_algebra.specs.declared.steps.Step.{Step}
use Rattle.regular_algebra.specs.declared.steps.Step.TheVariants.{Plus, Times, Star}
use Rattle.path_expr.specs.declared.report.Def.{Def}
use Rattle.path_expr.specs.Definitions.{rank, ref_of, def_of}

-- value v is marked where it is that of a step; the first n values are arcs
abbrev pub marked : ℕ → ℕ → List Bool → List Bool
marked n v used = if nat_lt v n then used else slice_set used (v - n) true

abbrev pub marked_sides : ℕ → Step → List Bool → List Bool
marked_sides n (Plus a b) used = marked n b (marked n a used)
marked_sides n (Times a b) used = marked n b (marked n a used)
marked_sides n (Star a) used = marked n a used

abbrev pub marked_answer : ℕ → Option ℕ → List Bool → List Bool
marked_answer n None used = used
marked_answer n (Some v) used = marked n v used

-- each number has a successor that fits
abbrev pub CountFromOne : List ℕ → Type 0
CountFromOne xs = (k : ℕ) → k < length xs → slice_index xs k + 1 < 2 ^ 64

-- the definitions of the marked ones among the first steps
pub record DefineMarked (live : List ℕ) (steps : List Step) (used : List Bool) (ranks : List ℕ) (bound : ℕ) (defs : List Def) : Type 0 where
  pub size : length defs ≡ rank used bound
  pub each : (k : ℕ) (s : Step) → k < bound → IsMarked used k → slice_get steps k ≡ Some s → slice_get defs (rank used k) ≡ Some (def_of (ref_of live ranks) s)
