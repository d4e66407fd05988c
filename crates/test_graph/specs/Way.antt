-- A way through a line: its decisions and their literals in order, what it assigns, and the next line or halt.
use Rattle.std.specs.Prelude.{ℕ, Bool, true, false, ◌&&◌, Option, Some, None, List, [], ◌∷◌, ◌++◌, map, if◌then◌else◌, slice_set}
use Rattle.il_core.specs.Evaluation.{State}
use Rattle.il_core.specs.Machine.{Step}
use Rattle.il_core.specs.Procedure.{Procedure}
use Rattle.il_core.specs.declared.line.Next.{Next}
use Rattle.sym_terms.specs.Tree.{Tree}
use Rattle.sym_terms.specs.Value.{value_of}
use Rattle.sym_terms.specs.Substitution.{substituted}
use Rattle.sym_terms.specs.Comparison.{Comparison, comparison_holds, denied}
use Rattle.test_graph.specs.Decision.{Change, Decision, ask, done, decision_at}

pub record Way : Type 0 where
  pub path : List Bool
  pub literals : List Comparison
  pub change : Option Change
  pub next : Next

-- the way that has one decision more at its beginning: the literal of a decision that is false is the denied comparison
abbrev pub decided_true : Comparison → Way → Way
decided_true c w = record { path = true ∷ w.path; literals = c ∷ w.literals; change = w.change; next = w.next }

abbrev pub decided_false : Comparison → Way → Way
decided_false c w = record { path = false ∷ w.path; literals = denied c ∷ w.literals; change = w.change; next = w.next }

-- the ways through a line, those of a true side first
abbrev pub ways_of : Decision → List Way
ways_of (ask c met unmet) = map (decided_true c) (ways_of met) ++ map (decided_false c) (ways_of unmet)
ways_of (done change next) = record { path = []; literals = []; change = change; next = next } ∷ []

unfoldable pub line_paths : Procedure → ℕ → List Way
line_paths p pc = ways_of (decision_at p pc)

-- each of these comparisons holds
abbrev pub all_hold : List Comparison → State → Bool
all_hold [] s = true
all_hold (c ∷ cs) s = comparison_holds c s && all_hold cs s

-- the way that a state takes
abbrev pub way_taken : Decision → State → Way
way_taken (ask c met unmet) s = if comparison_holds c s then decided_true c (way_taken met s) else decided_false c (way_taken unmet s)
way_taken (done change next) s = record { path = []; literals = []; change = change; next = next }

-- the decisions that line pc takes from a state
unfoldable pub decisions : Procedure → ℕ → State → List Bool
decisions p pc s = (way_taken (decision_at p pc) s).path

-- the terms of the places behind a change, each over the places of the state in which the terms before it stood
abbrev pub changed : Option Change → List Tree → List Tree
changed None terms = terms
changed (Some c) terms = slice_set terms c.place (substituted terms c.term)

-- the state behind a change
abbrev pub state_behind : Option Change → State → State
state_behind None s = s
state_behind (Some c) s = slice_set s c.place (value_of c.term s)

-- where a way leads from a state
abbrev pub led_by : Way → State → Step
led_by w s = record { next = w.next; state = state_behind w.change s }
