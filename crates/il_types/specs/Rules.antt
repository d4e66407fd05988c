-- The rules of a text, in the order in which they are checked, each over the whole text: names declared once, names known, types,
-- modes, ranges, bounds and limits. The refusal of a text is that of the first rule that a statement breaks, at the first such statement.
use Rattle.std.specs.Prelude.{◌≡◌, ℕ, ◌<◌, Bool, ◌⊎◌, List, [], ◌∷◌, take, Option, Some, None, Result, Ok, Err, if◌then◌else◌, slice_get}
use Rattle.std.specs.Option.{option_and_then, option_map}
use Rattle.il_core.specs.Statement.{Statement, Placed}
use Rattle.il_core.specs.declared.refusal.Code.{Code}
use Rattle.il_core.specs.declared.refusal.Code.TheVariants as code
use Rattle.il_core.specs.declared.refusal.Refusal.{Refusal}
use Rattle.il_core.specs.declared.refusal.TextEnd.{TextEnd}
use Rattle.il_core.specs.declared.refusal.TextEnd.TheVariants as end
use Rattle.il_types.specs.declared.counts.Counts.{Counts}
use Rattle.il_types.specs.declared.rules.Found.{Found}
use Rattle.il_types.specs.declared.rules.Rule.{Rule}
use Rattle.il_types.specs.declared.rules.Rule.TheVariants as rule
use Rattle.il_types.specs.Counts.{counts_behind, too_many}
use Rattle.il_types.specs.Names.{Setting, Table, setting, entries, first_taken, front_of, counts_at}
use Rattle.il_types.specs.Unknown.{unknown}
use Rattle.il_types.specs.Typing.{is_typed}
use Rattle.il_types.specs.Modes.{is_allowed}
use Rattle.il_types.specs.Ranges.{has_range}
use Rattle.il_types.specs.Narrow.{is_narrow}

abbrev pub naming : Code → List ℕ → Found
naming c name = record { code = c; name = Some name }

abbrev pub unnamed : Code → Found
unnamed c = record { code = c; name = None }

abbrev pub unless : Bool → Code → Option Found
unless kept c = if kept then None else Some (unnamed c)

-- what a statement breaks of a rule, with the counts before it
abbrev pub fault : Rule → Setting → Counts → Statement → Option Found
fault rule.Known s c x = option_map (naming code.Unknown) (unknown s x)
fault rule.Typed s c x = unless (is_typed s x) code.Typing
fault rule.Allowed s c x = unless (is_allowed s x) code.Access
fault rule.Filled s c x = unless (has_range s x) code.EmptyRange
fault rule.Narrow s c x = unless (is_narrow s x) code.Wide
fault rule.Limited s c x = option_map (λ m. unnamed (code.TooMany m)) (too_many (counts_behind c x))

-- the refusal at a place for what was found
abbrev pub refusal_of : Found → ℕ → Refusal
refusal_of found place = record { code = found.code; place = place; name = found.name }

-- the first name of statement i that is taken
abbrev pub twice_at : List Placed → ℕ → Statement → Option (List ℕ)
twice_at stmts i x = first_taken (front_of (take i stmts)).table (entries (counts_at stmts i).procedures i x)

-- the faults of statement i
abbrev pub twice : List Placed → ℕ → Statement → Option Found
twice stmts i x = option_map (naming code.Twice) (twice_at stmts i x)

abbrev pub broken : Rule → Table → List Placed → ℕ → Statement → Option Found
broken r table stmts i x = fault r (setting table stmts (counts_at stmts i).procedures i) (counts_at stmts i) x

abbrev pub passes_with : Table → List Placed → List (ℕ → Statement → Option Found)
passes_with table stmts =
    broken rule.Known table stmts ∷ broken rule.Typed table stmts ∷ broken rule.Allowed table stmts
    ∷ broken rule.Filled table stmts ∷ broken rule.Narrow table stmts ∷ broken rule.Limited table stmts ∷ []

abbrev pub passes : List Placed → List (ℕ → Statement → Option Found)
passes stmts = twice stmts ∷ passes_with (front_of stmts).table stmts

abbrev pub at_stmt : (ℕ → Statement → Option Found) → List Placed → ℕ → Option Found
at_stmt pass stmts i = option_and_then (λ x. pass i x.says) (slice_get stmts i)

-- a pass refuses the text: its first fault
pub record ComesFirst (pass : ℕ → Statement → Option Found) (stmts : List Placed) (r : Refusal) : Type 0 where
  pub i : ℕ
  pub stmt : Placed
  pub at : slice_get stmts i ≡ Some stmt
  pub faulty : pass i stmt.says ≡ Some (record { code = r.code; name = r.name })
  pub place : r.place ≡ stmt.place
  pub before : (j : ℕ) → j < i → at_stmt pass stmts j ≡ None

abbrev pub ComesNowhere : (ℕ → Statement → Option Found) → List Placed → Type 0
ComesNowhere pass stmts = (i : ℕ) → at_stmt pass stmts i ≡ None

abbrev pub IsRefused : (ℕ → Statement → Option Found) → List Placed → Option Refusal → Type 0
IsRefused pass stmts None = ComesNowhere pass stmts
IsRefused pass stmts (Some r) = ComesFirst pass stmts r

-- what the loop over the names of a text answers: the table of all declarations, or the first name that is taken
abbrev pub Declares : List Placed → Result Table TextEnd → Type 0
Declares stmts (Ok table) = (table ≡ (front_of stmts).table) × ComesNowhere (twice stmts) stmts
Declares stmts (Err (end.Refused r)) = ComesFirst (twice stmts) stmts r
Declares stmts (Err end.NoMemory) = Unit {0}

-- the passes in order, each over the whole text
abbrev pub Refuses : List (ℕ → Statement → Option Found) → List Placed → Option Refusal → Type 0
Refuses [] stmts None = Unit {0}
Refuses [] stmts (Some r) = ⊥
Refuses (pass ∷ others) stmts None = ComesNowhere pass stmts × Refuses others stmts None
Refuses (pass ∷ others) stmts (Some r) = ComesFirst pass stmts r ⊎ (ComesNowhere pass stmts × Refuses others stmts (Some r))

-- the one answer to a text: its refusal by these rules, or none
abbrev pub Answers : List Placed → Option Refusal → Type 0
Answers stmts answer = Refuses (passes stmts) stmts answer

-- no text has two answers
abbrev pub OneAnswer : Type 0
OneAnswer = (stmts : List Placed) (a b : Option Refusal) → Answers stmts a → Answers stmts b → a ≡ b
