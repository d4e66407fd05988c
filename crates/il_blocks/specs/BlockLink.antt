-- Lines are counted from 0 at PRE in each procedure. A line may name another, to which the machine may go from it: IF the
-- line behind its ELSE, or its ENDIF; ELSE its ENDIF; ENDLOOP its LOOP; EXIT the line behind the ENDLOOP of the innermost
-- LOOP around it; GOTO its LABEL; RETURN the line of the next ENDPROC.
use Rattle.std.specs.Prelude.{◌≡◌, ◌+◌, ◌<◌, ℕ, suc, Bool, true, false, List, [], ◌∷◌, length, take, drop, slice_get, Some, Result, Ok, Err, if◌then◌else◌}
use Rattle.std.specs.List.{list_any}
use Rattle.il_core.specs.Statement.{Statement, Placed, title, constant_is, range_type, wrap_type, enum_type, procedure, variable, post, if_true, otherwise, end_loop, exit, exit_when, goto, return, end_procedure, finish}
use Rattle.il_core.specs.declared.refusal.Refusal.{Refusal}
use Rattle.il_core.specs.declared.refusal.TextEnd.{TextEnd}
use Rattle.il_core.specs.declared.refusal.TextEnd.TheVariants as end
use Rattle.il_core.specs.declared.statement.Link.{Link}
use Rattle.il_core.specs.declared.statement.Link.TheVariants as link
use Rattle.il_blocks.specs.declared.block.Kind.{Kind}
use Rattle.il_blocks.specs.declared.block.Kind.TheVariants as kind
use Rattle.il_blocks.specs.declared.block.Closer.{Closer}
use Rattle.il_blocks.specs.Block.{Bracket, brackets, Whole, Opens, opened_by, closed_by, is_round}
use Rattle.il_blocks.specs.BlockLabel.{owner, IsLabel}
use Rattle.il_blocks.specs.BlockFault.{HasNoFault, IsRefusedAt}

-- the brackets of the statements behind the one numbered i and before the one numbered j
abbrev pub between : List Placed → ℕ → ℕ → List Bracket
between stmts i j = brackets (drop (suc i) (take j stmts))

-- the statement numbered j closes the block that the one numbered i opens
pub record Pairs (stmts : List Placed) (i j : ℕ) : Type 0 where
  pub opener : Placed
  pub from : slice_get stmts i ≡ Some opener
  pub kind : Kind
  pub opens : opened_by opener.says ≡ Some kind
  pub ender : Placed
  pub to : slice_get stmts j ≡ Some ender
  pub closer : Closer
  pub closes : closed_by ender.says ≡ Some closer
  pub before : i < j
  pub inner : Whole (between stmts i j)

-- the innermost LOOP around the statement numbered x is numbered i: between them no other is open
pub record Surrounds (stmts : List Placed) (i x : ℕ) : Type 0 where
  pub opener : Placed
  pub at : slice_get stmts i ≡ Some opener
  pub opens : opened_by opener.says ≡ Some kind.Round
  pub before : i < x
  pub kinds : List Kind
  pub inside : Opens (between stmts i x) kinds
  pub innermost : list_any is_round kinds ≡ false

-- whether a statement is a line of its procedure
abbrev pub has_line : Statement → Bool
has_line (title _) = false
has_line (constant_is _ _) = false
has_line (range_type _ _ _) = false
has_line (wrap_type _ _ _) = false
has_line (enum_type _ _) = false
has_line (procedure _) = false
has_line (variable _ _ _) = false
has_line (post _) = false
has_line finish = false
has_line _ = true

-- the next line behind a statement, where n is the next before it
abbrev pub line_behind : ℕ → Statement → ℕ
line_behind n (procedure _) = 0
line_behind n s = if has_line s then n + 1 else n

abbrev pub next_line : ℕ → List Placed → ℕ
next_line n [] = n
next_line n (s ∷ ss) = next_line (line_behind n s.says) ss

-- the line of the statement numbered i
abbrev pub line : List Placed → ℕ → ℕ
line stmts i = next_line 0 (take i stmts)

abbrev pub is_end : Statement → Bool
is_end end_procedure = true
is_end _ = false

-- the line of the first ENDPROC among statements, where n is the line of the first of them
abbrev pub end_line : ℕ → List Placed → ℕ
end_line n [] = n
end_line n (s ∷ ss) = if is_end s.says then n else end_line (line_behind n s.says) ss

abbrev pub is_else : Statement → Bool
is_else otherwise = true
is_else _ = false

-- the line at which an IF goes on where it is false: behind its ELSE, or at its ENDIF
pub record GoesOnAt (stmts : List Placed) (x target : ℕ) : Type 0 where
  pub end : ℕ
  pub pairs : Pairs stmts x end
  pub is : target ≡ (if is_else pairs.ender.says then line stmts end + 1 else line stmts end)

pub record LeavesTo (stmts : List Placed) (x target : ℕ) : Type 0 where
  pub loop : ℕ
  pub surrounds : Surrounds stmts loop x
  pub end : ℕ
  pub pairs : Pairs stmts loop end
  pub is : target ≡ line stmts end + 1

abbrev pub HasTarget : List Placed → ℕ → Statement → ℕ → Type 0
HasTarget stmts x (if_true _) target = GoesOnAt stmts x target
HasTarget stmts x otherwise target = (j : ℕ) × Pairs stmts x j × (target ≡ line stmts j)
HasTarget stmts x end_loop target = (i : ℕ) × Pairs stmts i x × (target ≡ line stmts i)
HasTarget stmts x exit target = LeavesTo stmts x target
HasTarget stmts x (exit_when _) target = LeavesTo stmts x target
HasTarget stmts x (goto name) target = (j : ℕ) × IsLabel stmts (owner stmts x) name j × (target ≡ line stmts j)
HasTarget stmts x return target = target ≡ end_line (line stmts x) (drop x stmts)
HasTarget stmts x _ target = ⊥

abbrev pub names_line : Statement → Bool
names_line (if_true _) = true
names_line otherwise = true
names_line end_loop = true
names_line exit = true
names_line (exit_when _) = true
names_line (goto _) = true
names_line return = true
names_line _ = false

abbrev pub IsLink : List Placed → ℕ → Statement → Link → Type 0
IsLink stmts x s link.NoLine = has_line s ≡ false
IsLink stmts x s (link.Plain own) = (has_line s ≡ true) × (names_line s ≡ false) × (own ≡ line stmts x)
IsLink stmts x s (link.Jump own target) = (own ≡ line stmts x) × HasTarget stmts x s target

-- one link for each statement
pub record AreLinks (stmts : List Placed) (links : List Link) : Type 0 where
  pub matched : HasNoFault stmts
  pub long : length links ≡ length stmts
  pub each : (x : ℕ) (s : Placed) (l : Link) → slice_get stmts x ≡ Some s → slice_get links x ≡ Some l → IsLink stmts x s.says l

abbrev pub Links : List Placed → Result (List Link) Refusal → Type 0
Links stmts (Ok links) = AreLinks stmts links
Links stmts (Err r) = IsRefusedAt stmts r

abbrev pub LinksGive : List Placed → Result (List Link) TextEnd → Type 0
LinksGive stmts (Ok links) = Links stmts (Ok links)
LinksGive stmts (Err (end.Refused r)) = Links stmts (Err r)
LinksGive stmts (Err end.NoMemory) = Unit {0}

-- no list of statements has two answers
abbrev pub OneLinks : Type 0
OneLinks = (stmts : List Placed) (x y : Result (List Link) Refusal) → Links stmts x → Links stmts y → x ≡ y
