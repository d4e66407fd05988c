-- The rules of a text with calls, in the order in which they are checked, each over the whole text: names declared once, names known, types,
-- modes, ranges, bounds, limits, and calls that fit. The refusal of a text is that of the first rule that a statement breaks, at the first
-- such statement.
use Rattle.std.specs.Prelude.{◌≡◌, ℕ, List, [], ◌∷◌, ◌++◌, Option, Some, None, Result, Ok, Err}
use Rattle.il_core.specs.Statement.{Statement, Placed}
use Rattle.il_core.specs.declared.refusal.Refusal.{Refusal}
use Rattle.il_core.specs.declared.refusal.TextEnd.{TextEnd}
use Rattle.il_core.specs.declared.refusal.TextEnd.TheVariants as end
use Rattle.il_core.specs.declared.statement.Link.{Link}
use Rattle.il_types.specs.declared.rules.Found.{Found}
use Rattle.il_types.specs.declared.rules.Rule.TheVariants as rule
use Rattle.il_types.specs.Rules.{Refuses}
use Rattle.il_called.specs.Called.{HeldText, called_of}
use Rattle.call_rules.specs.CalledText.{called_text}
use Rattle.call_rules.specs.Calls.{fault_at}
use Rattle.call_rules.specs.Clash.{twice_at}
use Rattle.call_rules.specs.Fits.{misfit_at}
use Rattle.call_rules.specs.Limits.{excess_at}

-- the rules that look at a statement with the declarations that are in force there
abbrev pub passes_with_names : List Placed → List (ℕ → Statement → Option Found)
passes_with_names stmts = fault_at rule.Known stmts ∷ fault_at rule.Typed stmts ∷ fault_at rule.Allowed stmts ∷ fault_at rule.Filled stmts
    ∷ fault_at rule.Narrow stmts ∷ []

-- the rules that look at the expansions of earlier procedures too
abbrev pub passes_with_calls : List Placed → List Link → List (ℕ → Statement → Option Found)
passes_with_calls stmts links = excess_at stmts links ∷ misfit_at stmts links ∷ []

abbrev pub passes : List Placed → List Link → List (ℕ → Statement → Option Found)
passes stmts links = twice_at stmts links ∷ passes_with_names stmts ++ passes_with_calls stmts links

-- the one answer to a text with calls: its refusal by these rules, or none
abbrev pub Answers : List Placed → List Link → Option Refusal → Type 0
Answers stmts links answer = Refuses (passes stmts links) stmts answer

-- no text has two answers
abbrev pub OneAnswer : Type 0
OneAnswer = (stmts : List Placed) (links : List Link) (a b : Option Refusal) → Answers stmts links a → Answers stmts links b → a ≡ b

-- what the check of statements with their links answers: the text with calls where no rule is broken, else the refusal of the first rule
abbrev pub CheckGives : List Placed → List Link → Result HeldText TextEnd → Type 0
CheckGives stmts links (Ok t) = Answers stmts links None × (called_of t ≡ called_text stmts links)
CheckGives stmts links (Err (end.Refused refusal)) = Answers stmts links (Some refusal)
CheckGives stmts links (Err end.NoMemory) = Unit {0}
