-- What the passes over statements find, from which the links are read: the line of each, the line of the next ENDPROC
-- behind each, the end of each block, and the LOOP of each EXIT and ENDLOOP.
use Rattle.std.specs.Prelude.{◌≡◌, ◌+◌, ◌<◌, ◌≤◌, ℕ, true, List, [], ◌∷◌, length, drop, slice_get, get_or, set, Option, Some, None, false}
use Rattle.il_core.specs.Statement.{Placed, Statement}
use Rattle.il_blocks.specs.declared.block.Kind.{Kind}
use Rattle.il_blocks.specs.declared.block.Closer.{Closer}
use Rattle.il_blocks.specs.declared.block.Closer.TheVariants as closer
use Rattle.il_blocks.specs.declared.block.OpenBlock.{OpenBlock}
use Rattle.il_blocks.specs.Block.{leaves, opened_by, closed_by}
use Rattle.il_blocks.specs.BlockStack.{innermost}
use Rattle.il_blocks.specs.BlockLink.{Pairs, Surrounds, line, end_line, names_line, HasTarget}
use Rattle.il_blocks.specs.declared.block_link.Tables.{Tables}
use Rattle.il_blocks.specs.BlockLabel.{IsTable}

-- the line of each statement, and behind them the next line
pub record AreLines (stmts : List Placed) (lines : List ℕ) : Type 0 where
  pub long : length lines ≡ length stmts + 1
  pub each : (i : ℕ) → i ≤ length stmts → get_or lines i 0 ≡ line stmts i

-- the line of the next ENDPROC
pub record AreReturns (stmts : List Placed) (returns : List ℕ) : Type 0 where
  pub long : length returns ≡ length stmts
  pub each : (i : ℕ) → i < length stmts → get_or returns i 0 ≡ end_line (line stmts i) (drop i stmts)

-- a block that the statement numbered i opens is closed by the one numbered j
abbrev pub IsEnd : List Placed → ℕ → ℕ → Type 0
IsEnd stmts i j = (s : Placed) (k : Kind) → slice_get stmts i ≡ Some s → opened_by s.says ≡ Some k → Pairs stmts i j

-- the statement numbered i is the LOOP of the one numbered x, if that is an EXIT or an ENDLOOP
pub record IsHead (stmts : List Placed) (x i : ℕ) : Type 0 where
  pub around : (s : Placed) → slice_get stmts x ≡ Some s → leaves s.says ≡ true → Surrounds stmts i x
  pub closed : (s : Placed) → slice_get stmts x ≡ Some s → closed_by s.says ≡ Some closer.ByEndLoop → Pairs stmts i x

-- the statements that belong together
pub record AreMates (stmts : List Placed) (ends heads : List ℕ) : Type 0 where
  pub ends_long : length ends ≡ length stmts
  pub heads_long : length heads ≡ length stmts
  pub ends_each : (i : ℕ) → i < length stmts → IsEnd stmts i (get_or ends i 0)
  pub heads_each : (i : ℕ) → i < length stmts → IsHead stmts i (get_or heads i 0)

-- the number of the innermost LOOP that is open, or 0
abbrev pub number : Option ℕ → ℕ
number None = 0
number (Some i) = i

abbrev pub head : List OpenBlock → ℕ
head es = number (innermost es)

-- the ends of blocks, with the statement numbered i for the innermost open one, where it closes one
abbrev pub noted : Option Closer → List OpenBlock → ℕ → List ℕ → List ℕ
noted None es i ends = ends
noted (Some c) [] i ends = ends
noted (Some c) (e ∷ _) i ends = set ends e.at i

-- the innermost open block has an entry among n
abbrev pub IsListed : List OpenBlock → ℕ → Type 0
IsListed [] n = Unit {0}
IsListed (e ∷ _) n = e.at < n

-- the tables of these statements
pub record AreTables (stmts : List Placed) (t : Tables) : Type 0 where
  pub lines : AreLines stmts t.lines.items
  pub returns : AreReturns stmts t.returns.items
  pub mates : AreMates stmts t.mates.ends.items t.mates.heads.items
  pub labels : IsTable stmts (length stmts) t.labels.entries

-- what the statement numbered i says
pub record SaysAt (stmts : List Placed) (i : ℕ) (s : Statement) : Type 0 where
  pub stmt : Placed
  pub at : slice_get stmts i ≡ Some stmt
  pub says : stmt.says ≡ s

-- the statement numbered i opens a block
pub record OpensAt (stmts : List Placed) (i : ℕ) : Type 0 where
  pub stmt : Placed
  pub at : slice_get stmts i ≡ Some stmt
  pub kind : Kind
  pub opens : opened_by stmt.says ≡ Some kind

-- the line to which a statement may jump, if it names one
abbrev pub MayName : List Placed → ℕ → Statement → Option ℕ → Type 0
MayName stmts i s None = names_line s ≡ false
MayName stmts i s (Some target) = HasTarget stmts i s target
