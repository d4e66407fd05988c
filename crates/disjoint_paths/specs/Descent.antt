-- The open lines from which an open line came to be open, one from the other, back to line t; and the fan of an open line.
use Rattle.std.specs.Prelude.{◌≡◌, ℕ, ◌+◌, ◌<◌, List, [], ◌∷◌, length, take}
use Rattle.disjoint_paths.specs.declared.pair.Pair.{Pair}
use Rattle.disjoint_paths.specs.declared.widening.Origin.{Origin}
use Rattle.disjoint_paths.specs.declared.widening.Origin.TheVariants.{Tail, Step, Jump}
use Rattle.disjoint_paths.specs.declared.widening.Opened.{Opened}
use Rattle.disjoint_paths.specs.declared.widening.Question.{Question}
use Rattle.disjoint_paths.specs.Fan.{HasFan}
use Rattle.disjoint_paths.specs.Widening.{opened_at, lines_of}
use Rattle.disjoint_paths.specs.Asked.{arcs_of, targets_of}

-- a line of this origin came to be open from the open line of number b
abbrev pub CameFrom : Origin → ℕ → Type 0
CameFrom Tail b = ⊥
CameFrom (Step before) b = before ≡ b
CameFrom (Jump before place) b = before ≡ b

-- each open line came from an earlier one
abbrev pub AreLinked : List Opened → Type 0
AreLinked opened = (k : ℕ) → k < length opened → (b : ℕ) → CameFrom (opened_at opened k).origin b → b < k

-- each of the numbers came from the next, the first is last, and the last of them came from first
abbrev pub IsDescent : List Opened → List ℕ → ℕ → ℕ → Type 0
IsDescent opened [] last first = last ≡ first
IsDescent opened (k ∷ rest) last first = (last ≡ k) × (k < length opened) × ((b : ℕ) × CameFrom (opened_at opened k).origin b × IsDescent opened rest b first)

-- the numbers lead back to an open line that is the tail
abbrev pub ComesFromTail : List Opened → List ℕ → ℕ → Type 0
ComesFromTail opened numbers at = (first : ℕ) × (first < length opened) × ((opened_at opened first).origin ≡ Tail) × IsDescent opened numbers at first

-- the fan of the open line of a number
abbrev pub IsFanAt : Question → List Opened → ℕ → Pair → Type 0
IsFanAt q opened k pair =
    HasFan (arcs_of q) (targets_of q) q.tail q.path.now (lines_of (take (k + 1) opened)) (opened_at opened k).line (opened_at opened k).from pair
