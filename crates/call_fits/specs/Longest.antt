-- The longest name of a place in the expansion of a procedure: it tells how many bytes may be put in front of each name of such a place, so that
-- none has more than 40. A length above 40 stands for any other, since with bytes in front it is too long too.
use Rattle.std.specs.Prelude.{◌≡◌, ℕ, ◌+◌, ◌-◌, Bool, true, false, ◌&&◌, List, [], ◌∷◌, ◌++◌, length, decimal, nat_eq, nat_le, Option, Some, None, slice_get, if◌then◌else◌}
use Rattle.std.specs.List.{list_all}
use Rattle.std.specs.Option.{option_and_then}
use Rattle.il_core.specs.Statement.{Statement, procedure, variable, call}
use Rattle.il_core.specs.Tree.{Tree}
use Rattle.il_core.specs.declared.line.Place.{Place}
use Rattle.il_core.specs.declared.refusal.Code.TheVariants as code
use Rattle.il_types.specs.declared.rules.Found.{Found}
use Rattle.il_types.specs.Names.{Setting}
use Rattle.il_types.specs.Rules.{unless}
use Rattle.il_called.specs.Expansion.{Callee}
use Rattle.call_rules.specs.Callee.{procedure_named, parameters_named}
use Rattle.call_rules.specs.Fits.{fit_parameters}
use Rattle.call_fits.specs.declared.longest.Latest.{Latest}

-- with so many bytes in front no place has a name of more than 40 bytes
abbrev pub are_short_behind : ℕ → List Place → Bool
are_short_behind front places = list_all (λ p. nat_le (front + length p.name) 40) places

-- the same, told by the longest name
abbrev pub is_short_behind : ℕ → Option ℕ → Bool
is_short_behind front None = true
is_short_behind front (Some longest) = nat_le (front + longest) 40

pub record IsLongest (places : List Place) (longest : Option ℕ) : Type 0 where
  pub each : (front : ℕ) → are_short_behind front places ≡ is_short_behind front longest

-- a table of the longest names of procedures that may be called
abbrev pub AreLongest : List Callee → List (Option ℕ) → Type 0
AreLongest [] [] = Unit {0}
AreLongest [] (o ∷ os) = ⊥
AreLongest (c ∷ cs) [] = ⊥
AreLongest (c ∷ cs) (o ∷ os) = IsLongest c.expanded.places o × AreLongest cs os

-- how many bytes the call of a number puts in front of a name: a letter, its number and an underscore
abbrev pub front_length : ℕ → ℕ
front_length k = length (decimal k) + 2

abbrev pub with_front : ℕ → ℕ → ℕ
with_front front longest = if nat_le longest 40 then front + longest else longest

abbrev pub longer : Option ℕ → Option ℕ → Option ℕ
longer None second = second
longer (Some first) None = Some first
longer (Some first) (Some second) = Some (if nat_le first second then second else first)

-- the longest name that a call brings
abbrev pub brought : ℕ → Option ℕ → Option ℕ
brought front None = None
brought front (Some longest) = Some (with_front front longest)

-- the longest name of the earlier procedure that a name stands for
abbrev pub called : List (Option ℕ) → Setting → List ℕ → Option (Option ℕ)
called table s name = option_and_then (λ c. slice_get table (c - 1)) (procedure_named s name)

abbrev pub nothing_yet : Latest
nothing_yet = record { calls = 0; longest = None }

-- one call more; one of a procedure that is not there brings no name
abbrev pub with_call : Latest → Option (Option ℕ) → Latest
with_call x None = record x { calls = x.calls + 1 }
with_call x (Some longest) = record { calls = x.calls + 1; longest = longer x.longest (brought (front_length (x.calls + 1)) longest) }

-- one statement more; an OLD copy has the name of its variable
abbrev pub latest_behind : List (Option ℕ) → Setting → Latest → Statement → Latest
latest_behind table s x (procedure _) = nothing_yet
latest_behind table s x (variable _ name _) = record x { longest = longer x.longest (Some (length name)) }
latest_behind table s x (call name _) = with_call x (called table s name)
latest_behind table s x _ = x

-- the longest names of the procedures in front of the latest one, behind one statement more
abbrev pub table_behind : List (Option ℕ) → ℕ → Latest → Statement → List (Option ℕ)
table_behind table procedures x (procedure _) = if nat_eq procedures 0 then table else table ++ x.longest ∷ []
table_behind table procedures x _ = table

-- whether a CALL fits that so many calls of its procedure stand before
abbrev pub fits : List (Option ℕ) → Setting → ℕ → List ℕ → List Tree → Bool
fits table s calls name arguments = elim (called table s name) [
  | None ↦ false
  | Some longest ↦ fit_parameters (parameters_named s name) arguments && is_short_behind (front_length (calls + 1)) longest
]

abbrev pub misfit : List (Option ℕ) → Setting → ℕ → Statement → Option Found
misfit table s calls (call name arguments) = unless (fits table s calls name arguments) code.BadCall
misfit table s calls x = None
