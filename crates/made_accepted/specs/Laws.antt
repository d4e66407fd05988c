-- A made text is read as its statements, is accepted and is not refused.
use Rattle.std.specs.Prelude.{ℕ, ◌≤◌, List, length, Ok, None}
use Rattle.il_core.specs.declared.token.Token.{Token}
use Rattle.il_lexer.specs.Reading.{IsReading}
use Rattle.il_blocks.specs.BlockFault.{HasNoFault}
use Rattle.il_types.specs.Rules.{Answers}
use Rattle.il_syntax.specs.Parse.{Parses}
use Rattle.il_inline.specs.Expanded.{WholeExpansion}
use Rattle.call_free.specs.Laws.{HasNoCall}
use Rattle.il_core.specs.declared.refusal.Refusal.{Refusal}
use Rattle.acceptance.specs.Acceptance.{Accepts, HasRefusal}
use Rattle.made_text.specs.Made.{made_text}
use Rattle.made_accepted.specs.Statements.{statements}

-- the text has tokens, and they are these statements in order
pub record IsSaid (n : ℕ) : Type 0 where
  pub tokens : List Token
  pub read : IsReading (made_text n) (Ok tokens)
  pub parsed : Parses (length (made_text n)) tokens (Ok (statements n))

abbrev pub HaveMadeStatements : Type 0
HaveMadeStatements = (n : ℕ) → 1 ≤ n → n ≤ 200 → IsSaid n

-- the statements of a made text have no fault of blocks and labels, break no rule, and have no CALL
abbrev pub HaveNoFault : Type 0
HaveNoFault = (n : ℕ) → 1 ≤ n → n ≤ 200 → HasNoFault (statements n) × Answers (statements n) None × HasNoCall (statements n)

-- a made text is accepted, with an expansion
abbrev pub AreAccepted : Type 0
AreAccepted = (n : ℕ) → 1 ≤ n → n ≤ 200 → (x : WholeExpansion) × Accepts (made_text n) x

-- no made text is refused
abbrev pub AreNotRefused : Type 0
AreNotRefused = (n : ℕ) → 1 ≤ n → n ≤ 200 → (refusal : Refusal) → HasRefusal (made_text n) refusal → ⊥
