-- How a plan is run: which value each number has, and what a step's value joins.
use Rattle.std.specs.Prelude.{◌≡◌, ◌⊎◌, ◌↔◌, ℕ, ◌+◌, ◌-◌, ◌<◌, ◌≤◌, if◌then◌else◌, nat_lt, Option, Some, None, List, length, slice_get, slice_index, slice_set}
use Rattle.regular_algebra.specs.Words.{Word}
use Rattle.regular_algebra.specs.Relations.{Turns, Chain}
use Rattle.regular_algebra.specs.declared.steps.Step.{Step}
use Rattle.regular_algebra.specs.declared.steps.Step.TheVariants.{Plus, Times, Star}

abbrev pub kept_value : {V : Type 0} → Option (Option V) → Option V
kept_value None = None
kept_value (Some o) = o

-- the value of a number: an arc's, or that of a step which is still kept
abbrev pub value_in : {V : Type 0} → List V → List (Option V) → ℕ → Option V
value_in values made v = if nat_lt v (length values) then slice_get values v else kept_value (slice_get made (v - length values))

-- the step uses value v
abbrev pub Names : Step → ℕ → Type 0
Names (Plus a b) v = (a ≡ v) ⊎ (b ≡ v)
Names (Times a b) v = (a ≡ v) ⊎ (b ≡ v)
Names (Star a) v = a ≡ v

-- the value x of a step, from the values of the numbers that it names
abbrev pub StepJoins : {P V : Type 0} → (P → Type 0) → (V → P → P → Type 0) → (ℕ → Option V) → Step → V → Type 0
StepJoins {P} {V} is_point joins value (Plus u v) x =
    (y z : V) → value u ≡ Some y → value v ≡ Some z → (a b : P) → joins x a b ↔ (joins y a b ⊎ joins z a b)
StepJoins {P} {V} is_point joins value (Times u v) x =
    (y z : V) → value u ≡ Some y → value v ≡ Some z → (a b : P) → joins x a b ↔ ((c : P) × joins y a c × joins z c b)
StepJoins {P} {V} is_point joins value (Star u) x =
    (y : V) → value u ≡ Some y → (a b : P) → joins x a b ↔ Turns is_point (joins y) a b

-- an answer joins what its value joins, or nothing
abbrev pub AnswerJoins : {P V : Type 0} → (V → P → P → Type 0) → (ℕ → Option V) → Option ℕ → V → Type 0
AnswerJoins {P} {V} joins value None x = (a b : P) → joins x a b → ⊥
AnswerJoins {P} {V} joins value (Some v) x = (y : V) → value v ≡ Some y → (a b : P) → joins x a b ↔ joins y a b

-- what the words of value v join
abbrev pub ValueJoins : {P V : Type 0} → (P → Type 0) → (V → P → P → Type 0) → List V → List Step → ℕ → P → P → Type 0
ValueJoins is_point joins values steps v a b = (w : List ℕ) × Word (length values) steps v w × Chain is_point joins values w a b

-- last has for each step's value the number of a step behind which no step uses it
pub record AreLastUses (n : ℕ) (steps : List Step) (answers : List (Option ℕ)) (last : List ℕ) : Type 0 where
  pub size : length last ≡ length steps
  pub used : (j k : ℕ) (s : Step) → slice_get steps j ≡ Some s → Names s (n + k) → j ≤ slice_index last k
  pub answered : (j k : ℕ) → slice_get answers j ≡ Some (Some (n + k)) → length steps ≤ slice_index last k

-- the first k steps are run: each value that is kept joins what its words join, and one is given up only after its last use
pub record AreMade {P V : Type 0} (is_point : P → Type 0) (joins : V → P → P → Type 0) (values : List V) (steps : List Step) (last : List ℕ) (k : ℕ) (made : List (Option V)) : Type 0 where
  pub size : length made ≡ k
  pub exact : (j : ℕ) (x : V) → slice_get made j ≡ Some (Some x) → (a b : P) → joins x a b ↔ ValueJoins is_point joins values steps (length values + j) a b
  pub kept : (j : ℕ) → slice_get made j ≡ Some None → slice_index last j < k

-- some values whose last use is at this step are given up, and all else stays
pub record IsReleased {V : Type 0} (last : List ℕ) (at : ℕ) (old new : List (Option V)) : Type 0 where
  pub size : length new ≡ length old
  pub each : (j : ℕ) → (slice_get new j ≡ slice_get old j) ⊎ ((slice_get new j ≡ Some None) × (slice_index last j ≡ at))

-- the uses of a value are marked where it is a step's
abbrev pub marked : ℕ → ℕ → ℕ → List ℕ → List ℕ
marked n v at last = if nat_lt v n then last else slice_set last (v - n) at

abbrev pub marked_step : ℕ → Step → ℕ → List ℕ → List ℕ
marked_step n (Plus a b) at last = marked n b at (marked n a at last)
marked_step n (Times a b) at last = marked n b at (marked n a at last)
marked_step n (Star a) at last = marked n a at last

abbrev pub marked_answer : ℕ → Option ℕ → ℕ → List ℕ → List ℕ
marked_answer n None at last = last
marked_answer n (Some v) at last = marked n v at last

-- the uses of the first k steps are marked
abbrev pub UsesAreMarked : ℕ → List Step → ℕ → List ℕ → Type 0
UsesAreMarked n steps bound last = (j k : ℕ) (s : Step) → j < bound → slice_get steps j ≡ Some s → Names s (n + k) → j ≤ slice_index last k

-- the values of the first answers are marked as used behind all steps
abbrev pub AnswersAreMarked : ℕ → List (Option ℕ) → ℕ → ℕ → List ℕ → Type 0
AnswersAreMarked n answers bound count last = (j k : ℕ) → j < bound → slice_get answers j ≡ Some (Some (n + k)) → count ≤ slice_index last k

-- each value is right for its answer
abbrev pub EachAnswerJoins : {P V : Type 0} → (V → P → P → Type 0) → (ℕ → Option V) → List (Option ℕ) → List V → Type 0
EachAnswerJoins {P} {V} joins value answers xs = (k : ℕ) (o : Option ℕ) (x : V) → slice_get answers k ≡ Some o → slice_get xs k ≡ Some x → AnswerJoins joins value o x
