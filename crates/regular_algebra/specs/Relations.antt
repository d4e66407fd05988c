-- A value stands for a relation between points; what a path joins is what its arcs' values join one after the other.
use Rattle.std.specs.Prelude.{◌≡◌, ◌↔◌, ℕ, Some, List, [], ◌∷◌, length, map, slice_get}
use Rattle.regular_algebra.specs.Paths.{Path}
use Rattle.regular_algebra.specs.declared.steps.Ends.{Ends}
use Rattle.regular_algebra.specs.declared.steps.Entry.{Entry}

-- each point to itself, and through any number of turns of R
pub data Turns {P : Type 0} (is_point : P → Type 0) (R : P → P → Type 0) : P → P → Type 0 where
  no_turn : (a : P) → is_point a → Turns is_point R a a
  a_turn : (a b c : P) → R a b → Turns is_point R b c → Turns is_point R a c

-- what the values join that the word names, one after the other
abbrev pub Chain : {P V : Type 0} → (P → Type 0) → (V → P → P → Type 0) → List V → List ℕ → P → P → Type 0
Chain is_point joins values [] a b = is_point a × (a ≡ b)
Chain {P} {V} is_point joins values (k ∷ w) a b = (x : V) × (slice_get values k ≡ Some x) × (c : P) × joins x a c × Chain is_point joins values w c b

abbrev pub ends_of : {V : Type 0} → List (Entry V) → List Ends
ends_of arcs = map (λ e. record { tail = e.tail; head = e.head }) arcs

abbrev pub values_of : {V : Type 0} → List (Entry V) → List V
values_of arcs = map (λ e. e.value) arcs

-- some path from start to target joins a and b
abbrev pub PathJoins : {P V : Type 0} → (P → Type 0) → (V → P → P → Type 0) → List (Entry V) → ℕ → ℕ → P → P → Type 0
PathJoins is_point joins arcs start target a b = (w : List ℕ) × Path (ends_of arcs) start w target × Chain is_point joins (values_of arcs) w a b

-- one value for each target, which joins exactly what some path to it joins
pub record AnswersJoin {P V : Type 0} (is_point : P → Type 0) (joins : V → P → P → Type 0) (arcs : List (Entry V)) (start : ℕ) (targets : List ℕ) (answers : List V) : Type 0 where
  pub size : length answers ≡ length targets
  pub each : (k t : ℕ) (x : V) → slice_get targets k ≡ Some t → slice_get answers k ≡ Some x → (a b : P) → joins x a b ↔ PathJoins is_point joins arcs start t a b
