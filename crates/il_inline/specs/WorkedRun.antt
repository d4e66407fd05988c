-- Steps of the stack machine through a procedure that calls `inc` with a variable of the range 0 to 5, worked out by hand: from 4 the call hands
-- 5 back, and from 5 it halts, since 6 is out of range, at the call's line.
use Rattle.std.specs.Prelude.{◌≡◌, ℕ, ℤ, pos, [], ◌∷◌}
use Rattle.il_core.specs.declared.line.Halt.TheVariants.{Range}
use Rattle.il_called.specs.WorkedExpansion.{inc, caller}
use Rattle.il_inline.specs.Stack.{Frame, Stack, turn, runs, halts}

abbrev pub frame_at : ℕ → ℕ → ℤ → ℤ → Frame
frame_at procedure line a b = record { procedure = procedure; line = line; values = a ∷ b ∷ [] }

-- `inc` is at a line and called with a variable that has this value
abbrev pub inside : ℕ → ℤ → ℤ → Stack
inside line v x = record { last = frame_at 0 line v x; below = frame_at 1 1 x x ∷ [] }

abbrev pub alone : Frame → Stack
alone frame = record { last = frame; below = [] }

pub record WorkedRun : Type 0 where
  pub enters : turn (inc ∷ caller ∷ []) (alone (frame_at 1 1 (pos 5) (pos 5))) ≡ runs (inside 0 (pos 5) (pos 5))
  pub asserts : turn (inc ∷ caller ∷ []) (inside 0 (pos 5) (pos 5)) ≡ runs (inside 1 (pos 5) (pos 5))
  pub adds : turn (inc ∷ caller ∷ []) (inside 1 (pos 5) (pos 5)) ≡ runs (inside 2 (pos 6) (pos 5))
  pub faults : turn (inc ∷ caller ∷ []) (inside 2 (pos 6) (pos 5)) ≡ halts 1 (Range 1) (inside 2 (pos 6) (pos 5))
  pub returns : turn (inc ∷ caller ∷ []) (inside 2 (pos 5) (pos 4)) ≡ runs (alone (frame_at 1 2 (pos 5) (pos 4)))
