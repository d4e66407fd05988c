-- A text is accepted where its tokens are statements in order whose blocks and labels are matched and which break no rule; it then has the
-- expansion of the text with calls that they stand for. It is refused at its first fault: each kind of fault is looked for over the whole text
-- before the next.
use Rattle.std.specs.Prelude.{◌≡◌, ℕ, ◌⊎◌, List, length, None, Some, Result, Ok, Err}
use Rattle.il_core.specs.Statement.{Placed}
use Rattle.il_core.specs.declared.token.Token.{Token}
use Rattle.il_core.specs.declared.refusal.Refusal.{Refusal}
use Rattle.il_core.specs.declared.refusal.TextEnd.{TextEnd}
use Rattle.il_core.specs.declared.refusal.TextEnd.TheVariants as end
use Rattle.il_core.specs.declared.statement.Link.{Link}
use Rattle.il_lexer.specs.Reading.{IsReading}
use Rattle.il_syntax.specs.Parse.{Parses}
use Rattle.il_blocks.specs.BlockFault.{IsRefusedAt}
use Rattle.il_blocks.specs.BlockLink.{AreLinks}
use Rattle.il_inline.specs.Expanded.{IsExpandedText, WholeExpansion, whole_expansion, whole_of}
use Rattle.il_inline.specs.declared.expanded.Expanded.{Expanded}
use Rattle.call_rules.specs.CalledText.{called_text}
use Rattle.call_rules.specs.Rules as rules

-- the refusal of statements: the first of blocks and labels, else with their links the first of the rules
abbrev pub RefusesStatements : List Placed → Refusal → Type 0
RefusesStatements stmts refusal = IsRefusedAt stmts refusal ⊎ ((links : List Link) × AreLinks stmts links × rules.Answers stmts links (Some refusal))

-- the refusal of the tokens of a text of so many bytes: of their forms and order, else of the statements that they are
abbrev pub RefusesTokens : ℕ → List Token → Refusal → Type 0
RefusesTokens text_len tokens refusal =
    Parses text_len tokens (Err refusal) ⊎ ((stmts : List Placed) × Parses text_len tokens (Ok stmts) × RefusesStatements stmts refusal)

-- the first refusal of a text: of its bytes and tokens, else of what its tokens are
abbrev pub IsFirstRefusal : List ℕ → Refusal → Type 0
IsFirstRefusal text refusal =
    IsReading text (Err refusal) ⊎ ((tokens : List Token) × IsReading text (Ok tokens) × RefusesTokens (length text) tokens refusal)

-- statements without a fault, with their links and the expansion of the text with calls that they stand for
pub record AreAccepted (stmts : List Placed) (x : WholeExpansion) : Type 0 where
  pub links : List Link
  pub linked : AreLinks stmts links
  pub kept : rules.Answers stmts links None
  pub text_is : x ≡ whole_expansion (called_text stmts links)

-- tokens that are statements without a fault
pub record Say (text_len : ℕ) (tokens : List Token) (x : WholeExpansion) : Type 0 where
  pub stmts : List Placed
  pub parsed : Parses text_len tokens (Ok stmts)
  pub accepted : AreAccepted stmts x

-- the text is accepted, and this is its expansion
pub record IsAccepted (text : List ℕ) (x : WholeExpansion) : Type 0 where
  pub tokens : List Token
  pub read : IsReading text (Ok tokens)
  pub say : Say (length text) tokens x

unfoldable pub Accepts : List ℕ → WholeExpansion → Type 0
Accepts text x = IsAccepted text x

unfoldable pub HasRefusal : List ℕ → Refusal → Type 0
HasRefusal text refusal = IsFirstRefusal text refusal

-- the one answer to a text
abbrev pub Answers : List ℕ → Result WholeExpansion Refusal → Type 0
Answers text (Ok x) = Accepts text x
Answers text (Err refusal) = HasRefusal text refusal

-- no text has two answers: no two expansions, no expansion and a refusal, no two refusals
abbrev pub OneAnswer : Type 0
OneAnswer = (text : List ℕ) (a b : Result WholeExpansion Refusal) → Answers text a → Answers text b → a ≡ b

-- what is answered belongs to the text, and the parts of an expansion fit together; want of memory is free
abbrev pub AcceptGives : List ℕ → Result Expanded TextEnd → Type 0
AcceptGives text (Ok e) = Accepts text (whole_of e) × IsExpandedText e
AcceptGives text (Err (end.Refused refusal)) = HasRefusal text refusal
AcceptGives text (Err end.NoMemory) = Unit {0}

-- what statements answer
abbrev pub StatementsGive : List Placed → Result Expanded TextEnd → Type 0
StatementsGive stmts (Ok e) = AreAccepted stmts (whole_of e) × IsExpandedText e
StatementsGive stmts (Err (end.Refused refusal)) = RefusesStatements stmts refusal
StatementsGive stmts (Err end.NoMemory) = Unit {0}

-- what tokens answer
abbrev pub TokensGive : ℕ → List Token → Result Expanded TextEnd → Type 0
TokensGive text_len tokens (Ok e) = Say text_len tokens (whole_of e) × IsExpandedText e
TokensGive text_len tokens (Err (end.Refused refusal)) = RefusesTokens text_len tokens refusal
TokensGive text_len tokens (Err end.NoMemory) = Unit {0}
