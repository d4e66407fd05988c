-- Each text is accepted or has a first refusal: each step from the text to its expansion has a result or a refusal.
use Rattle.std.proofs.Common.{◌⊎◌, ℕ, inl, inr, refl, List, length, Option, Some, None, Result, Ok, Err}
use Rattle.il_core.specs.Statement.{Placed}
use Rattle.il_core.specs.declared.refusal.Refusal.{Refusal}
use Rattle.il_core.specs.declared.statement.Link.{Link}
use Rattle.il_core.specs.declared.token.Token.{Token}
use Rattle.il_syntax.specs.Order.{IsInOrder}
use Rattle.il_syntax.specs.Parse.{Parses}
use Rattle.il_lexer.specs.Reading.{IsReading}
use Rattle.il_blocks.specs.BlockLink.{AreLinks, Links}
use Rattle.il_inline.specs.Expanded.{WholeExpansion, whole_expansion}
use Rattle.call_rules.specs.CalledText.{called_text}
use Rattle.call_rules.specs.Rules as rules
use Rattle.acceptance.specs.Acceptance.{AreAccepted, Say, RefusesStatements, RefusesTokens, IsAccepted, IsFirstRefusal, Accepts, HasRefusal}
use Rattle.accept_laws.specs.Decided.{Decided}
use Rattle.accept_laws.proofs.DecidedTokens.{reading_decided}
use Rattle.accept_laws.proofs.DecidedStatements.{parse_decided}
use Rattle.accept_laws.proofs.DecidedBlocks.{links_decided}
use Rattle.accept_laws.proofs.DecidedRules.{rules_decided}

-- statements in order
stmts_decided : (stmts : List Placed) → IsInOrder stmts → ((x : WholeExpansion) × AreAccepted stmts x) ⊎ ((refusal : Refusal) × RefusesStatements stmts refusal)
stmts_decided stmts o = let r = links_decided stmts o in linked r.0 r.1
  where
    ruled : (links : List Link) → AreLinks stmts links → (answer : Option Refusal) → rules.Answers stmts links answer
        → ((x : WholeExpansion) × AreAccepted stmts x) ⊎ ((refusal : Refusal) × RefusesStatements stmts refusal)
    ruled links h None a = inl (whole_expansion (called_text stmts links), record { links = links; linked = h; kept = a; text_is = refl })
    ruled links h (Some refusal) a = inr (refusal, inr (links, h, a))

    linked : (r : Result (List Link) Refusal) → Links stmts r → ((x : WholeExpansion) × AreAccepted stmts x) ⊎ ((refusal : Refusal) × RefusesStatements stmts refusal)
    linked (Ok links) h = let a = rules_decided stmts links in ruled links h a.0 a.1
    linked (Err refusal) h = inr (refusal, inl h)

-- tokens of a text of so many bytes
tokens_decided : (n : ℕ) (tokens : List Token) → ((x : WholeExpansion) × Say n tokens x) ⊎ ((refusal : Refusal) × RefusesTokens n tokens refusal)
tokens_decided n tokens = let r = parse_decided n tokens in parsed r.0 r.1
  where
    checked : (stmts : List Placed) → Parses n tokens (Ok stmts) → ((x : WholeExpansion) × AreAccepted stmts x) ⊎ ((refusal : Refusal) × RefusesStatements stmts refusal)
        → ((x : WholeExpansion) × Say n tokens x) ⊎ ((refusal : Refusal) × RefusesTokens n tokens refusal)
    checked stmts h (inl a) = inl (a.0, record { stmts = stmts; parsed = h; accepted = a.1 })
    checked stmts h (inr r) = inr (r.0, inr (stmts, h, r.1))

    parsed : (r : Result (List Placed) Refusal) → Parses n tokens r → ((x : WholeExpansion) × Say n tokens x) ⊎ ((refusal : Refusal) × RefusesTokens n tokens refusal)
    parsed (Ok stmts) h = checked stmts h (stmts_decided stmts h.1)
    parsed (Err refusal) h = inr (refusal, inl h)

-- a text
answered : (text : List ℕ) → ((x : WholeExpansion) × IsAccepted text x) ⊎ ((refusal : Refusal) × IsFirstRefusal text refusal)
answered text = let r = reading_decided text in read r.0 r.1
  where
    said : (tokens : List Token) → IsReading text (Ok tokens) → ((x : WholeExpansion) × Say (length text) tokens x) ⊎ ((refusal : Refusal) × RefusesTokens (length text) tokens refusal)
        → ((x : WholeExpansion) × IsAccepted text x) ⊎ ((refusal : Refusal) × IsFirstRefusal text refusal)
    said tokens h (inl s) = inl (s.0, record { tokens = tokens; read = h; say = s.1 })
    said tokens h (inr r) = inr (r.0, inr (tokens, h, r.1))

    read : (r : Result (List Token) Refusal) → IsReading text r → ((x : WholeExpansion) × IsAccepted text x) ⊎ ((refusal : Refusal) × IsFirstRefusal text refusal)
    read (Ok tokens) h = said tokens h (tokens_decided (length text) tokens)
    read (Err refusal) h = inr (refusal, inl h)

pub decided : Decided
unfolding Accepts HasRefusal
decided text = answered text
