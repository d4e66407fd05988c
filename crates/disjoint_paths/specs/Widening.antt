-- The search for a second path beside a first one: each open line has a fan, and every line is far, on the first path or open.
use Rattle.std.specs.Prelude.{◌≡◌, ◌≢◌, ◌⊎◌, ℕ, ◌+◌, ◌<◌, ◌≤◌, Bool, true, false, List, length, map, take, slice_index, slice_index_or}
use Rattle.std.specs.List.{count_by}
use Rattle.il_core.specs.LineGraph.{IsIn}
use Rattle.flow_graph.specs.Search.{AreBelow}
use Rattle.disjoint_paths.specs.FirstPath.{IsInside}
use Rattle.disjoint_paths.specs.declared.widening.Role.{Role}
use Rattle.disjoint_paths.specs.declared.widening.Role.TheVariants.{Far, OnPath, Open}
use Rattle.disjoint_paths.specs.declared.widening.Origin.{Origin}
use Rattle.disjoint_paths.specs.declared.widening.Origin.TheVariants.{Tail, Step, Jump}
use Rattle.disjoint_paths.specs.declared.widening.Turn.{Turn}
use Rattle.disjoint_paths.specs.declared.widening.Turn.TheVariants.{Ends, Opens, Leaps, Stays}
use Rattle.disjoint_paths.specs.declared.widening.Opened.{Opened}

-- the open line of a number
abbrev pub opened_at : List Opened → ℕ → Opened
opened_at opened k = slice_index_or opened k (record { line = 0; origin = Tail; from = 0 })

abbrev pub line_of : Opened → ℕ
line_of o = o.line

abbrev pub lines_of : List Opened → List ℕ
lines_of opened = map line_of opened

-- a line that an arc from an earlier open line enters, neither open before nor on the first path
pub record IsStep (E : ℕ → ℕ → Type 0) (P : ℕ → Type 0) (t : ℕ) (path : List ℕ) (earlier : List Opened) (line from before : ℕ) : Type 0 where
  pub known : before < length earlier
  pub arc : E (opened_at earlier before).line line
  pub fresh : IsIn (lines_of earlier) line → ⊥
  pub off : IsIn path line → ⊥
  pub inside : IsInside P t line
  pub same : from ≡ (opened_at earlier before).from

-- a line of the first path, behind which an arc from an earlier open line leads to the first path at the index from; all lines of
-- the first path before it are open
pub record IsJump (E : ℕ → ℕ → Type 0) (P : ℕ → Type 0) (t : ℕ) (path : List ℕ) (earlier : List Opened) (line from before place : ℕ) : Type 0 where
  pub known : before < length earlier
  pub ahead : place < from
  pub within : from < length path
  pub is : slice_index path place ≡ line
  pub arc : E (opened_at earlier before).line (slice_index path from)
  pub reached : (opened_at earlier before).from ≤ place
  pub passed : (i : ℕ) → i < place → IsIn (lines_of earlier) (slice_index path i)

-- how a line came to be open
abbrev pub IsOpening : (ℕ → ℕ → Type 0) → (ℕ → Type 0) → ℕ → List ℕ → List Opened → ℕ → ℕ → Origin → Type 0
IsOpening E P t path earlier line from Tail = (line ≡ t) × (from ≡ 0)
IsOpening E P t path earlier line from (Step before) = IsStep E P t path earlier line from before
IsOpening E P t path earlier line from (Jump before place) = IsJump E P t path earlier line from before place

-- each open line came to be open from those before it
abbrev pub AreOpened : (ℕ → ℕ → Type 0) → (ℕ → Type 0) → ℕ → List ℕ → List Opened → Type 0
AreOpened E P t path opened = (k : ℕ) → k < length opened
    → IsOpening E P t path (take k opened) (opened_at opened k).line (opened_at opened k).from (opened_at opened k).origin

-- what a line of a role is, where the first path is open up to the index start
abbrev pub Suits : List ℕ → List ℕ → ℕ → ℕ → Role → Type 0
Suits path lines start v Far = (IsIn path v → ⊥) × (IsIn lines v → ⊥)
Suits path lines start v (OnPath i) = (i < length path) × (slice_index path i ≡ v) × (start ≤ i)
Suits path lines start v Open = IsIn lines v

abbrev pub role_at : List Role → ℕ → Role
role_at roles v = slice_index_or roles v Far

-- an arc from an open line may enter the first line of the first path that is not open, and open lines that are no targets
abbrev pub IsKept : (ℕ → Type 0) → List ℕ → List Opened → ℕ → ℕ → Type 0
IsKept P path opened start v = ((start < length path) × (slice_index path start ≡ v)) ⊎ (IsIn (lines_of opened) v × (P v → ⊥))

-- the state of a search over n lines; no other path comes to the first path behind the index limit
pub record IsWidening (E : ℕ → ℕ → Type 0) (P : ℕ → Type 0) (t : ℕ) (path : List ℕ) (n : ℕ) (roles : List Role) (opened : List Opened) (start limit : ℕ) : Type 0 where
  pub size : length roles ≡ n
  pub openings : AreOpened E P t path opened
  pub limits : (k : ℕ) → k < length opened → (opened_at opened k).from ≤ limit
  pub below : AreBelow n (lines_of opened)
  pub tail : IsIn (lines_of opened) t
  pub clear : (v : ℕ) → IsIn (lines_of opened) v → (v ≡ t) ⊎ (P v → ⊥)
  pub suits : (v : ℕ) → v < n → Suits path (lines_of opened) start v (role_at roles v)
  pub first : 0 < length path → (start < length path) × (slice_index path start ≢ t)
  pub begun : start ≤ length path
  pub passed : (i : ℕ) → i < start → IsIn (lines_of opened) (slice_index path i)

abbrev pub is_far : Role → Bool
is_far Far = true
is_far (OnPath i) = false
is_far Open = false

-- a later state of a search
pub record IsGrown (P : ℕ → Type 0) (path : List ℕ) (was : List Role) (before : List Opened) (from : ℕ) (roles : List Role) (opened : List Opened) (start : ℕ) : Type 0 where
  pub more : length before ≤ length opened
  pub same : (k : ℕ) → k < length before → opened_at opened k ≡ opened_at before k
  pub kept : (v : ℕ) → IsKept P path before from v → IsKept P path opened start v
  pub left : count_by is_far roles + length opened + from ≤ count_by is_far was + length before + start

-- a target at which a second path may end: line t itself, or a line that is neither open nor on the first path
abbrev pub IsEnd : (ℕ → Type 0) → ℕ → List ℕ → List Opened → ℕ → Type 0
IsEnd P t path opened v = P v × ((v ≡ t) ⊎ ((IsIn path v → ⊥) × (IsIn (lines_of opened) v → ⊥)))

-- what a search may do with a line that an arc from an open line enters
abbrev pub IsTurn : (ℕ → Type 0) → ℕ → List ℕ → List Opened → ℕ → ℕ → Turn → Type 0
IsTurn P t path opened start v Ends = IsEnd P t path opened v
IsTurn P t path opened start v Opens = (IsIn path v → ⊥) × (IsIn (lines_of opened) v → ⊥) × IsInside P t v
IsTurn P t path opened start v (Leaps place) = (place < length path) × (slice_index path place ≡ v) × (start ≤ place) × (v ≢ t)
IsTurn P t path opened start v Stays = IsIn (lines_of opened) v × (P v → ⊥)
