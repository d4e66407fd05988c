-- The text with calls that statements in order and their links stand for, where they keep all rules of texts with calls.
use Rattle.std.specs.Prelude.{◌≡◌, ◌≤◌, ℕ, List, length, take, sum_by, slice_get, Some, None}
use Rattle.il_core.specs.Bounds.{AreSmall, place_bounds}
use Rattle.il_core.specs.Checked.{AreInOrder, IsChecked}
use Rattle.il_core.specs.Statement.{Placed, variable}
use Rattle.il_core.specs.declared.statement.Link.{Link}
use Rattle.il_core.specs.declared.statement.Mode.{Mode}
use Rattle.il_core.specs.declared.statement.TypeUse.{TypeUse}
use Rattle.il_syntax.specs.Order.{IsInOrder}
use Rattle.il_blocks.specs.BlockLink.{AreLinks}
use Rattle.il_types.specs.Built.{place_of}
use Rattle.il_built.specs.Holding.{Declares, setting_at}
use Rattle.il_called.specs.Called.{WrittenProcedure, WrittenText}
use Rattle.il_called.specs.CalledText.{CallsFit, IsCalledText}
use Rattle.il_called.specs.Expansion.{expansion_of, callees_of}
use Rattle.call_checks.specs.WellFormed.{AreWellFormed, without_calls}
use Rattle.call_rules.specs.CalledText.{called_text}
use Rattle.call_rules.specs.Limits.{lines_in, widths_of}
use Rattle.call_rules.specs.Rules.{Answers}

-- a text with few procedures, a profile, and places in order
pub record IsFramed (t : WrittenText) : Type 0 where
  pub some_procedures : 1 ≤ length t.procs
  pub few_procedures : length t.procs ≤ 64
  pub low_profile : 1 ≤ t.profile
  pub high_profile : t.profile ≤ 2
  pub in_order : (k : ℕ) (p : WrittenProcedure) → slice_get t.procs k ≡ Some p → AreInOrder p.places

abbrev pub TextsAreFramed : Type 0
TextsAreFramed = (stmts : List Placed) (links : List Link) → IsInOrder stmts → Answers stmts links None → IsFramed (called_text stmts links)

-- the calls of each procedure fit
abbrev pub CallsOfTextsFit : Type 0
CallsOfTextsFit = (stmts : List Placed) (links : List Link) → IsInOrder stmts → Answers stmts links None
    → (k : ℕ) (p : WrittenProcedure) → slice_get (called_text stmts links).procs k ≡ Some p → CallsFit (called_text stmts links).procs k p

-- the lines of each expansion are as many as its lines count as
abbrev pub WidthsAreLengths : Type 0
WidthsAreLengths = (stmts : List Placed) (links : List Link) → IsInOrder stmts → Answers stmts links None
    → (k : ℕ) (p : WrittenProcedure) → slice_get (called_text stmts links).procs k ≡ Some p
    → let callees = callees_of (take k (called_text stmts links).procs) in
    length (expansion_of callees k p).lines ≡ sum_by (lines_in (widths_of callees)) p.lines

-- the names of variables have at most 40 bytes
abbrev pub HaveShortNames : List Placed → Type 0
HaveShortNames stmts = (i : ℕ) (m : Mode) (name : List ℕ) (used : TypeUse) → Declares stmts i m name used → length name ≤ 40

-- the ranges of variables lie within 2 ^ 126 on either side of 0, both allowed
abbrev pub HaveSmallBounds : List Placed → Type 0
HaveSmallBounds stmts = (i : ℕ) (m : Mode) (name : List ℕ) (used : TypeUse) → Declares stmts i m name used
    → AreSmall (place_bounds (Some (place_of (setting_at stmts i) (variable m name used))))

-- where its procedures are well formed, it is a checked text with calls
abbrev pub FormedAreChecked : Type 0
FormedAreChecked = (stmts : List Placed) (links : List Link) → IsInOrder stmts → Answers stmts links None → HaveShortNames stmts
    → AreWellFormed (called_text stmts links).procs → IsCalledText (called_text stmts links)

-- with a SKIP for each call, each procedure is a checked procedure
abbrev pub UncalledAreChecked : Type 0
UncalledAreChecked = (stmts : List Placed) (links : List Link) → IsInOrder stmts → AreLinks stmts links → Answers stmts links None
    → (k : ℕ) (p : WrittenProcedure) → slice_get (called_text stmts links).procs k ≡ Some p → IsChecked (without_calls p)

-- statements that keep all rules stand for a checked text with calls
abbrev pub AcceptedAreChecked : Type 0
AcceptedAreChecked = (stmts : List Placed) (links : List Link) → IsInOrder stmts → AreLinks stmts links → Answers stmts links None → HaveShortNames stmts
    → HaveSmallBounds stmts → IsCalledText (called_text stmts links)
