-- A line that fits in its procedure fits where it is moved, and where it is inlined.
use Rattle.std.proofs.Common.{◌≡◌, ◌≢◌, ℕ, ◌+◌, ◌<◌, sym, subst, false, Some, List, slice_get}
use Rattle.il_core.specs.Checked.{FitsAt, IsTarget, IsSoundAssignment, Suits}
use Rattle.il_core.specs.Expression.{Expression}
use Rattle.il_core.specs.Procedure.{Instruction, pre, assign, if_true, otherwise, end_if, loop, end_loop, exit, exit_when, label, goto, skip, assert, return, end_procedure}
use Rattle.il_core.specs.declared.line.Place.{Place}
use Rattle.il_core.specs.declared.statement.Mode.TheVariants.{Input}
use Rattle.il_called.specs.Expansion.{renumbered, moved, inlined}
use Rattle.call_checks.proofs.Renumbered.{Among, Gives, sound_kept, gives_kept}

-- a variable, not IN, that holds what a place of a kind holds
pub record IsOpen (wide : List Place) (k : ℕ) (place : Place) : Type 0 where
  pub other : Place
  pub there : slice_get wide k ≡ Some other
  pub variable : other.old ≡ false
  pub writable : other.mode ≢ Input
  pub same : other.flag ≡ place.flag

pub open_assigned : (wide : List Place) (k : ℕ) (place : Place) (e : Expression) → IsOpen wide k place → Gives wide place.flag e → IsSoundAssignment wide k e
open_assigned wide k place e o g = record {
  target = o.other;
  there = o.there;
  variable = o.variable;
  writable = o.writable;
  typed = subst (λ b. Suits b wide e) (sym o.same) g.typed;
  narrow = g.narrow;
}

-- how places and targets are renumbered: places keep their kinds and ranges, those that may be assigned still may, and targets stay targets
pub record Moves (f g : ℕ → ℕ) (places wide : List Place) (count total pc : ℕ) : Type 0 where
  pub among : Among f places wide
  pub opened : (k : ℕ) (place : Place) → slice_get places k ≡ Some place → place.old ≡ false → place.mode ≢ Input → IsOpen wide (f k) place
  pub next : pc + 1 < count → g pc + 1 < total
  pub target : (q : ℕ) → IsTarget count pc q → IsTarget total (g pc) (g q)

assignment_kept : (f g : ℕ → ℕ) (places wide : List Place) (count total pc p : ℕ) (e : Expression) → Moves f g places wide count total pc → IsSoundAssignment places p e
    → IsSoundAssignment wide (f p) (renumbered f e)
assignment_kept f g places wide count total pc p e m h =
    open_assigned wide (f p) h.target (renumbered f e) (m.opened p h.target h.there h.variable h.writable)
    (gives_kept f places wide m.among h.target.flag e (record { typed = h.typed; narrow = h.narrow }))

-- the first line stays the first one, and the last one the last
pub moved_fits : (f g : ℕ → ℕ) (places wide : List Place) (count total pc : ℕ) → Moves f g places wide count total pc → (pc ≡ 0 → g pc ≡ 0)
    → ((q : ℕ) → q + 1 ≡ count → g q + 1 ≡ total) → (i : Instruction) → FitsAt places count pc i → FitsAt wide total (g pc) (moved f g i)
moved_fits f g places wide count total pc m first last (pre e) h = (first h.0, sound_kept f places wide m.among e h.1)
moved_fits f g places wide count total pc m first last (assign p e) h = (m.next h.0, assignment_kept f g places wide count total pc p e m h.1)
moved_fits f g places wide count total pc m first last (if_true e q) h = (m.next h.0, m.target q h.1, sound_kept f places wide m.among e h.2)
moved_fits f g places wide count total pc m first last (otherwise q) h = m.target q h
moved_fits f g places wide count total pc m first last end_if h = m.next h
moved_fits f g places wide count total pc m first last loop h = m.next h
moved_fits f g places wide count total pc m first last (end_loop q) h = m.target q h
moved_fits f g places wide count total pc m first last (exit q) h = m.target q h
moved_fits f g places wide count total pc m first last (exit_when e q) h = (m.next h.0, m.target q h.1, sound_kept f places wide m.among e h.2)
moved_fits f g places wide count total pc m first last label h = m.next h
moved_fits f g places wide count total pc m first last (goto q) h = m.target q h
moved_fits f g places wide count total pc m first last skip h = m.next h
moved_fits f g places wide count total pc m first last (assert e) h = (m.next h.0, sound_kept f places wide m.among e h.1)
moved_fits f g places wide count total pc m first last (return q) h = (last q h.0, m.target q h.1)
moved_fits f g places wide count total pc m first last (end_procedure e) h = (last pc h.0, sound_kept f places wide m.among e h.1)

-- behind an inlined line stands another one
pub inlined_fits : (f g : ℕ → ℕ) (places wide : List Place) (count total pc : ℕ) → Moves f g places wide count total pc → g pc + 1 < total
    → (i : Instruction) → FitsAt places count pc i → FitsAt wide total (g pc) (inlined f g i)
inlined_fits f g places wide count total pc m inside (pre e) h = (inside, sound_kept f places wide m.among e h.1)
inlined_fits f g places wide count total pc m inside (assign p e) h = (inside, assignment_kept f g places wide count total pc p e m h.1)
inlined_fits f g places wide count total pc m inside (if_true e q) h = (inside, m.target q h.1, sound_kept f places wide m.among e h.2)
inlined_fits f g places wide count total pc m inside (otherwise q) h = m.target q h
inlined_fits f g places wide count total pc m inside end_if h = inside
inlined_fits f g places wide count total pc m inside loop h = inside
inlined_fits f g places wide count total pc m inside (end_loop q) h = m.target q h
inlined_fits f g places wide count total pc m inside (exit q) h = m.target q h
inlined_fits f g places wide count total pc m inside (exit_when e q) h = (inside, m.target q h.1, sound_kept f places wide m.among e h.2)
inlined_fits f g places wide count total pc m inside label h = inside
inlined_fits f g places wide count total pc m inside (goto q) h = m.target q h
inlined_fits f g places wide count total pc m inside skip h = inside
inlined_fits f g places wide count total pc m inside (assert e) h = (inside, sound_kept f places wide m.among e h.1)
inlined_fits f g places wide count total pc m inside (return q) h = m.target q h.1
inlined_fits f g places wide count total pc m inside (end_procedure e) h = (inside, sound_kept f places wide m.among e h.1)
