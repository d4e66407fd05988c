-- The words of a value are lists of arcs' numbers: an arc's value has the arc alone, a sum the words of either side,
-- a product a word of the left and then one of the right, a star any number of words of its side one after the other.
use Rattle.std.specs.Prelude.{◌≡◌, ℕ, ◌+◌, ◌-◌, ◌<◌, ◌≤◌, Option, Some, None, List, [], ◌∷◌, ◌++◌, slice_get}
use Rattle.regular_algebra.specs.declared.steps.Step.{Step}
use Rattle.regular_algebra.specs.declared.steps.Step.TheVariants.{Plus, Times, Star}

-- values are numbered from 0: the n arcs first, then the steps; value v is made by step s
pub record IsStep (n : ℕ) (steps : List Step) (v : ℕ) (s : Step) : Type 0 where
  pub after : n ≤ v
  pub stands : slice_get steps (v - n) ≡ Some s

pub data Word (n : ℕ) (steps : List Step) : ℕ → List ℕ → Type 0 where
  of_arc : (k : ℕ) → k < n → Word n steps k (k ∷ [])
  of_left : (v a b : ℕ) (w : List ℕ) → IsStep n steps v (Plus a b) → Word n steps a w → Word n steps v w
  of_right : (v a b : ℕ) (w : List ℕ) → IsStep n steps v (Plus a b) → Word n steps b w → Word n steps v w
  of_both : (v a b : ℕ) (x y : List ℕ) → IsStep n steps v (Times a b) → Word n steps a x → Word n steps b y → Word n steps v (x ++ y)
  of_none : (v a : ℕ) → IsStep n steps v (Star a) → Word n steps v []
  of_more : (v a : ℕ) (x y : List ℕ) → IsStep n steps v (Star a) → Word n steps a x → Word n steps v y → Word n steps v (x ++ y)

-- no value has no word
abbrev pub HasWord : ℕ → List Step → Option ℕ → List ℕ → Type 0
HasWord n steps None w = ⊥
HasWord n steps (Some v) w = Word n steps v w

-- the step that makes value v names lower values
abbrev pub NamesLower : ℕ → Step → Type 0
NamesLower v (Plus a b) = (a < v) × (b < v)
NamesLower v (Times a b) = (a < v) × (b < v)
NamesLower v (Star a) = a < v

abbrev pub EachNamesLower : ℕ → List Step → Type 0
EachNamesLower n steps = (k : ℕ) (s : Step) → slice_get steps k ≡ Some s → NamesLower (n + k) s

abbrev pub IsNoStar : Step → Type 0
IsNoStar (Plus a b) = Unit {0}
IsNoStar (Times a b) = Unit {0}
IsNoStar (Star a) = ⊥

abbrev pub HasNoStar : List Step → Type 0
HasNoStar steps = (k : ℕ) (s : Step) → slice_get steps k ≡ Some s → IsNoStar s
