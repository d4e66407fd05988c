-- What a plan is asked, and when its answers are right: the words of each are exactly the paths to its target.
use Rattle.std.specs.Prelude.{◌≡◌, ◌⊎◌, ◌↔◌, ℕ, ◌<◌, Option, Some, None, List, [], ◌∷◌, length, slice_get}
use Rattle.regular_algebra.specs.Paths.{IsArc, Path}
use Rattle.regular_algebra.specs.Words.{HasWord}
use Rattle.regular_algebra.specs.declared.steps.Ends.{Ends}
use Rattle.regular_algebra.specs.declared.steps.Step.{Step}

abbrev pub IsAmong : List ℕ → ℕ → Type 0
IsAmong [] x = ⊥
IsAmong (y ∷ ys) x = (y ≡ x) ⊎ IsAmong ys x

abbrev pub Differ : List ℕ → Type 0
Differ [] = Unit {0}
Differ (x ∷ xs) = (IsAmong xs x → ⊥) × Differ xs

abbrev pub AreBelow : ℕ → List ℕ → Type 0
AreBelow count xs = (x : ℕ) → IsAmong xs x → x < count

-- all nodes are below count; no arc enters the start and none leaves a target, and these differ; the order has each
-- other node that has an arc exactly once, and neither the start nor a target
pub record FitsArcs (count : ℕ) (arcs : List Ends) (order : List ℕ) (start : ℕ) (targets : List ℕ) : Type 0 where
  pub arcs_below : (k i j : ℕ) → IsArc arcs k i j → (i < count) × (j < count)
  pub order_below : AreBelow count order
  pub start_below : start < count
  pub targets_below : AreBelow count targets
  pub targets_differ : Differ targets
  pub order_differs : Differ order
  pub start_no_target : IsAmong targets start → ⊥
  pub start_not_in_order : IsAmong order start → ⊥
  pub targets_not_in_order : (t : ℕ) → IsAmong targets t → IsAmong order t → ⊥
  pub heads : (k i j : ℕ) → IsArc arcs k i j → IsAmong targets j ⊎ IsAmong order j
  pub tails : (k i j : ℕ) → IsArc arcs k i j → (i ≡ start) ⊎ IsAmong order i

-- the words of the answer are exactly the paths from start to target, and there is none exactly where no path goes
pub record IsAnswer (arcs : List Ends) (steps : List Step) (start target : ℕ) (answer : Option ℕ) : Type 0 where
  pub words : (w : List ℕ) → HasWord (length arcs) steps answer w ↔ Path arcs start w target
  pub none : (answer ≡ None) ↔ ((w : List ℕ) → Path arcs start w target → ⊥)

-- one answer for each target, in their order
abbrev pub AreAnswers : List Ends → List Step → ℕ → List ℕ → List (Option ℕ) → Type 0
AreAnswers arcs steps start [] [] = Unit {0}
AreAnswers arcs steps start [] (a ∷ as') = ⊥
AreAnswers arcs steps start (t ∷ ts) [] = ⊥
AreAnswers arcs steps start (t ∷ ts) (a ∷ as') = IsAnswer arcs steps start t a × AreAnswers arcs steps start ts as'

abbrev pub IsNumberBelow : ℕ → Option ℕ → Type 0
IsNumberBelow n None = Unit {0}
IsNumberBelow n (Some v) = v < n

-- each answer is the number of a value
abbrev pub AnswersBelow : ℕ → List (Option ℕ) → Type 0
AnswersBelow n answers = (k : ℕ) (a : Option ℕ) → slice_get answers k ≡ Some a → IsNumberBelow n a
