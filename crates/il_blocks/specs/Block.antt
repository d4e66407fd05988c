-- A block is opened by one statement and closed by a later one that fits it, with whole blocks between them. PROC, IF, ELSE
-- and LOOP open blocks; ELSE, ENDIF, ENDLOOP and ENDPROC close them.
use Rattle.std.specs.Prelude.{◌≡◌, ◌⊎◌, ◌<◌, ℕ, Bool, true, false, List, [], ◌∷◌, ◌++◌, take, slice_get, Option, Some, None}
use Rattle.std.specs.List.{list_any}
use Rattle.il_core.specs.Statement.{Statement, Placed, procedure, if_true, otherwise, end_if, loop, end_loop, exit, exit_when, end_procedure}
use Rattle.il_blocks.specs.declared.block.Kind.{Kind}
use Rattle.il_blocks.specs.declared.block.Kind.TheVariants as kind
use Rattle.il_blocks.specs.declared.block.Closer.{Closer}
use Rattle.il_blocks.specs.declared.block.Closer.TheVariants as closer

-- the block that a statement opens
abbrev pub opened_by : Statement → Option Kind
opened_by (procedure _) = Some kind.Procedure
opened_by (if_true _) = Some kind.Then
opened_by otherwise = Some kind.Otherwise
opened_by loop = Some kind.Round
opened_by _ = None

-- how a statement closes a block
abbrev pub closed_by : Statement → Option Closer
closed_by otherwise = Some closer.ByElse
closed_by end_if = Some closer.ByEndIf
closed_by end_loop = Some closer.ByEndLoop
closed_by end_procedure = Some closer.ByEndProc
closed_by _ = None

-- the closers that fit a block: ELSE what IF opens, ENDIF what IF or ELSE opens
abbrev pub fits : Closer → Kind → Bool
fits closer.ByElse kind.Then = true
fits closer.ByEndIf kind.Then = true
fits closer.ByEndIf kind.Otherwise = true
fits closer.ByEndLoop kind.Round = true
fits closer.ByEndProc kind.Procedure = true
fits _ _ = false

-- a block is opened or closed
pub data Bracket : Type 0 where
  opening : Kind → Bracket
  closing : Closer → Bracket

abbrev pub closings : Option Closer → List Bracket
closings None = []
closings (Some c) = closing c ∷ []

abbrev pub openings : Option Kind → List Bracket
openings None = []
openings (Some k) = opening k ∷ []

-- ELSE closes one block and opens another
abbrev pub brackets_of : Statement → List Bracket
brackets_of s = closings (closed_by s) ++ openings (opened_by s)

abbrev pub brackets : List Placed → List Bracket
brackets [] = []
brackets (s ∷ ss) = brackets_of s.says ++ brackets ss

-- blocks, one behind the other, each with the blocks inside it
pub data Nest : Type 0 where
  empty : Nest
  block : Kind → Nest → Closer → Nest → Nest

abbrev pub written : Nest → List Bracket
written empty = []
written (block k inner c after) = opening k ∷ (written inner ++ closing c ∷ written after)

-- each block is closed by a closer that fits it
abbrev pub IsFit : Nest → Type 0
IsFit empty = Unit {0}
IsFit (block k inner c after) = (fits c k ≡ true) × IsFit inner × IsFit after

-- whole blocks, one behind the other
pub record Whole (bs : List Bracket) : Type 0 where
  pub nest : Nest
  pub fit : IsFit nest
  pub is : written nest ≡ bs

-- behind the front these blocks are open, the innermost first
abbrev pub Opens : List Bracket → List Kind → Type 0
Opens front [] = Whole front
Opens front (k ∷ ks) = (before : List Bracket) × (inner : List Bracket) × Opens before ks × Whole inner × (front ≡ before ++ opening k ∷ inner)

abbrev pub is_round : Kind → Bool
is_round kind.Round = true
is_round _ = false

abbrev pub leaves : Statement → Bool
leaves exit = true
leaves (exit_when _) = true
leaves _ = false

-- a closer behind the front fits no innermost open block
abbrev pub ClosesNothing : List Bracket → Option Closer → Type 0
ClosesNothing front None = ⊥
ClosesNothing front (Some c) = (k : Kind) (ks : List Kind) → Opens front (k ∷ ks) → fits c k ≡ true → ⊥

-- an EXIT behind the front stands in no LOOP
abbrev pub LeavesNothing : List Bracket → Statement → Type 0
LeavesNothing front s = (leaves s ≡ true) × ((ks : List Kind) → Opens front ks → list_any is_round ks ≡ true → ⊥)

-- the statement numbered i closes no fitting innermost block, or is an EXIT in no LOOP. A second ELSE finds the block of the
-- first one, which it does not fit; where a block is open at ENDPROC, it is the innermost one there. This is read under IsFirst
-- alone: a front with a closer that fits nothing is no row of whole and open blocks, so nothing is open behind it, and all later
-- closers and EXITs are unmatched too, whatever blocks they stand in.
pub record IsUnmatched (stmts : List Placed) (i : ℕ) : Type 0 where
  pub stmt : Placed
  pub at : slice_get stmts i ≡ Some stmt
  pub loose : ClosesNothing (brackets (take i stmts)) (closed_by stmt.says) ⊎ LeavesNothing (brackets (take i stmts)) stmt.says

-- the first number at which a fault is, if any
abbrev pub IsFirst : (ℕ → Type 0) → Option ℕ → Type 0
IsFirst fault None = (i : ℕ) → fault i → ⊥
IsFirst fault (Some i) = fault i × ((j : ℕ) → j < i → fault j → ⊥)
