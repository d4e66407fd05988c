-- In an accepted text no default is taken: each look-up of a name, without a default, finds what the text with calls has in its place.
use Rattle.std.specs.Prelude.{◌≡◌, ℕ, Bool, true, false, List, Some, slice_get}
use Rattle.il_core.specs.Checked.{old_copy}
use Rattle.il_core.specs.Run.{is_inout}
use Rattle.il_core.specs.Statement.{Statement, Placed, range_type, wrap_type, variable, pre, post, assign, if_true, otherwise, end_loop, exit, exit_when, goto, call, assert, return, end_procedure}
use Rattle.il_core.specs.Tree.{Tree}
use Rattle.il_core.specs.declared.line.Place.{Place}
use Rattle.il_core.specs.declared.statement.Link.{Link}
use Rattle.il_core.specs.declared.statement.Mode.{Mode}
use Rattle.il_core.specs.declared.statement.TypeUse.{TypeUse}
use Rattle.il_types.specs.Built.{range_between, place_of, place_number, copy_number, assigned_place, built}
use Rattle.il_types.specs.Names.{Setting, Spot, counts_at, declaration}
use Rattle.il_built.specs.CheckedText.{places_of, target_at, post_of, title_of}
use Rattle.il_built.specs.Holding.{setting_at}
use Rattle.il_inline.specs.Expanded.{WholeExpansion}
use Rattle.call_rules.specs.CalledText.{call_line}
use Rattle.acceptance.specs.Acceptance.{IsAccepted}
use Rattle.accept_laws.specs.LookUps.{range_found, place_found, number_found, expression_found, call_found, target_found, condition_found, title_found}

-- the names of an expression stand for what is built of them
abbrev pub IsFound : Setting → Tree → Type 0
IsFound s tree = expression_found s tree ≡ Some (built s tree)

-- the target of statement i is that of its link
abbrev pub HasFound : List Link → ℕ → Type 0
HasFound links i = target_found links i ≡ Some (target_at links i)

-- each look-up that is made for statement i finds something: for the ends of the range that it declares, for the type and the place of the
-- variable that it declares, for the variable that it assigns, for the names of its expression, for the line to which it may jump, for
-- the earlier procedure that it calls with what it gives to each of that one's parameters, for the POST of the procedure that it ends
abbrev pub FindsAll : Setting → List Link → ℕ → Statement → Type 0
FindsAll s links i (range_type _ least greatest) = range_found s false least greatest ≡ Some (range_between s false least greatest)
FindsAll s links i (wrap_type _ least greatest) = range_found s true least greatest ≡ Some (range_between s true least greatest)
FindsAll s links i (variable m name used) = place_found s (variable m name used) ≡ Some (place_of s (variable m name used))
FindsAll s links i (pre tree) = IsFound s tree
FindsAll s links i (post tree) = IsFound s tree
FindsAll s links i (assign name tree) = (number_found s name ≡ Some (assigned_place s name)) × IsFound s tree
FindsAll s links i (if_true tree) = IsFound s tree × HasFound links i
FindsAll s links i otherwise = HasFound links i
FindsAll s links i end_loop = HasFound links i
FindsAll s links i exit = HasFound links i
FindsAll s links i (exit_when tree) = IsFound s tree × HasFound links i
FindsAll s links i (goto _) = HasFound links i
FindsAll s links i (call name arguments) = call_found s name arguments ≡ Some (call_line s name arguments)
FindsAll s links i (assert tree) = IsFound s tree
FindsAll s links i return = HasFound links i
FindsAll s links i end_procedure = condition_found s.stmts s.owner ≡ Some (post_of s.stmts s.owner)
FindsAll s links i _ = Unit {0}

-- the number of each variable, and of the OLD copy of each INOUT one, is that of its own place
pub record AreNumbered (s : Setting) (places : List Place) : Type 0 where
  pub variables : (word : List ℕ) (spot : Spot) (m : Mode) (name : List ℕ) (used : TypeUse) → declaration s word ≡ Some (spot, variable m name used)
      → slice_get places (place_number s spot) ≡ Some (place_of (record s { at = spot.0 }) (variable m name used))
  pub copies : (word : List ℕ) (spot : Spot) (m : Mode) (name : List ℕ) (used : TypeUse) → declaration s word ≡ Some (spot, variable m name used)
      → is_inout m ≡ true → slice_get places (copy_number s spot) ≡ Some (old_copy (place_of (record s { at = spot.0 }) (variable m name used)))

-- a statement with an expression, or a CALL, whose arguments are expressions
abbrev pub reads : Statement → Bool
reads (pre _) = true
reads (post _) = true
reads (assign _ _) = true
reads (if_true _) = true
reads (exit_when _) = true
reads (call _ _) = true
reads (assert _) = true
reads _ = false

-- the text has its TITLE, each of its statements finds all, and what a name of an expression stands for has its place in the procedure
pub record TakesNoDefault (stmts : List Placed) (links : List Link) : Type 0 where
  pub title : title_found stmts ≡ Some (title_of stmts)
  pub each : (i : ℕ) (x : Placed) → slice_get stmts i ≡ Some x → FindsAll (setting_at stmts i) links i x.says
  pub numbered : (i : ℕ) (x : Placed) → slice_get stmts i ≡ Some x → reads x.says ≡ true
      → AreNumbered (setting_at stmts i) (places_of stmts (counts_at stmts i).procedures)

-- so it is in each accepted text, with its statements and their links
abbrev pub NoDefaultIsTaken : Type 0
NoDefaultIsTaken = (text : List ℕ) (x : WholeExpansion) (accepted : IsAccepted text x) → TakesNoDefault accepted.say.stmts accepted.say.accepted.links
