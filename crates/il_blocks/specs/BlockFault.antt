-- Statements are refused at the first of them whose block or label is unmatched.
use Rattle.std.specs.Prelude.{◌≡◌, ◌⊎◌, min, ℕ, List, slice_get, Option, Some, None, Result, Ok, Err}
use Rattle.il_core.specs.Statement.{Placed}
use Rattle.il_core.specs.declared.refusal.Code.TheVariants as code
use Rattle.il_core.specs.declared.refusal.Refusal.{Refusal}
use Rattle.il_core.specs.declared.refusal.TextEnd.{TextEnd}
use Rattle.il_core.specs.declared.refusal.TextEnd.TheVariants as end
use Rattle.il_blocks.specs.Block.{IsUnmatched, IsFirst}
use Rattle.il_blocks.specs.BlockLabel.{IsMislabelled}

-- the statement numbered i is unmatched by nesting, or it is a repeated LABEL or a GOTO without one
abbrev pub IsFault : List Placed → ℕ → Type 0
IsFault stmts i = IsUnmatched stmts i ⊎ IsMislabelled stmts i

-- the lesser of two numbers, if any
abbrev pub lesser : Option ℕ → Option ℕ → Option ℕ
lesser None b = b
lesser (Some i) None = Some i
lesser (Some i) (Some j) = Some (min i j)

-- the refusal of statements: their first fault
pub record IsRefusedAt (stmts : List Placed) (r : Refusal) : Type 0 where
  pub number : ℕ
  pub stmt : Placed
  pub at : slice_get stmts number ≡ Some stmt
  pub first : IsFirst (IsFault stmts) (Some number)
  pub code : r.code ≡ code.Unmatched
  pub place : r.place ≡ stmt.place
  pub name : r.name ≡ None

-- no statement is at fault
abbrev pub HasNoFault : List Placed → Type 0
HasNoFault stmts = IsFirst (IsFault stmts) None

abbrev pub Matches : List Placed → Result (Unit {0}) Refusal → Type 0
Matches stmts (Ok _) = HasNoFault stmts
Matches stmts (Err r) = IsRefusedAt stmts r

abbrev pub MatchGives : List Placed → Result (Unit {0}) TextEnd → Type 0
MatchGives stmts (Ok done) = Matches stmts (Ok done)
MatchGives stmts (Err (end.Refused r)) = Matches stmts (Err r)
MatchGives stmts (Err end.NoMemory) = Unit {0}

-- no list of statements has two answers
abbrev pub OneMatch : Type 0
OneMatch = (stmts : List Placed) (x y : Result (Unit {0}) Refusal) → Matches stmts x → Matches stmts y → x ≡ y
