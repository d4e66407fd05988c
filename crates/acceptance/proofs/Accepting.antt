-- What is answered of matched statements is what the statements answer, and no text has two answers: each step from the text to its expansion
-- has one result or one refusal.
use Rattle.std.proofs.Common.{◌≡◌, ℕ, ◌∙◌, sym, ap, subst, inl, inr, List, length, Option, Some, None, Result, Ok, Err}
use Rattle.il_core.specs.Statement.{Placed}
use Rattle.il_core.specs.Text.{Text}
use Rattle.il_core.specs.declared.refusal.Refusal.{Refusal}
use Rattle.il_core.specs.declared.refusal.TextEnd.{TextEnd}
use Rattle.il_core.specs.declared.refusal.TextEnd.TheVariants as end
use Rattle.il_core.specs.declared.statement.Link.{Link}
use Rattle.il_core.specs.declared.token.Token.{Token}
use Rattle.il_lexer.specs.Reading.{IsReading, OneReading}
use Rattle.il_syntax.specs.Parse.{Parses, OneParse}
use Rattle.il_blocks.specs.BlockFault.{HasNoFault, IsRefusedAt}
use Rattle.il_blocks.specs.BlockLink.{AreLinks, OneLinks}
use Rattle.il_called.specs.Called.{WrittenText}
use Rattle.il_called.specs.declared.called.Origin.{Origin}
use Rattle.il_called.specs.declared.called.CallSpan.{CallSpan}
use Rattle.il_inline.specs.Expanded.{IsExpanded, WholeExpansion, whole_expansion, whole_of}
use Rattle.il_inline.specs.declared.expanded.Expanded.{Expanded}
use Rattle.call_rules.specs.CalledText.{called_text}
use Rattle.call_rules.specs.Rules as rules
use Rattle.acceptance.specs.Acceptance.{RefusesStatements, RefusesTokens, IsFirstRefusal, AreAccepted, Say, IsAccepted, Accepts, HasRefusal, StatementsGive, OneAnswer}

-- an expansion, by its parts
abbrev whole : Text → List (List Origin) → List (List CallSpan) → WholeExpansion
whole text origins spans = record { text = text; origins = origins; spans = spans }

-- what is expanded holds the expansion
is_whole : (t : WrittenText) (e : Expanded) → IsExpanded t e → whole_of e ≡ whole_expansion t
is_whole t e h =
    let w = whole_expansion t in
    ap (λ x. whole x e.origins e.spans) h.text ∙ (ap (λ x. whole w.text x e.spans) h.origins ∙ ap (λ x. whole w.text w.origins x) h.spans)

-- statements that break no rule are accepted with the expansion of the text with calls that they are
pub are_accepted : (stmts : List Placed) (l links : List Link) (t : WrittenText) (e : Expanded) → l ≡ links → AreLinks stmts links → rules.Answers stmts l None
    → t ≡ called_text stmts l → IsExpanded t e → AreAccepted stmts (whole_of e)
are_accepted stmts l links t e same linked kept text_is h = record {
  links = links;
  linked = linked;
  kept = subst (λ x. rules.Answers stmts x None) same kept;
  text_is = is_whole t e h ∙ ap whole_expansion (text_is ∙ ap (called_text stmts) same);
}

-- statements that the rules refuse are refused
pub are_refused : (stmts : List Placed) (l links : List Link) (why : TextEnd) → l ≡ links → AreLinks stmts links → rules.CheckGives stmts l (Err why) → StatementsGive stmts (Err why)
are_refused stmts l links (end.Refused refusal) same linked g = inr (links, linked, subst (λ x. rules.Answers stmts x (Some refusal)) same g)
are_refused stmts l links end.NoMemory same linked g = tt

-- statements without a fault of blocks and labels are not refused for one
no_fault_or_refusal : (stmts : List Placed) (refusal : Refusal) → HasNoFault stmts → IsRefusedAt stmts refusal → ⊥
no_fault_or_refusal stmts refusal h k = h k.number k.first.0

module _ (lexed : OneReading) (parsed : OneParse) (linked : OneLinks) (ruled : rules.OneAnswer) where
  -- a text has one list of tokens
  tokens_once : (text : List ℕ) (x y : List Token) → IsReading text (Ok x) → IsReading text (Ok y) → x ≡ y
  tokens_once text x y h k =
      let same : ◌≡◌ {A = Result (List Token) Refusal} (Ok x) (Ok y) = lexed text (Ok x) (Ok y) h k in
      cc

  -- a text that has tokens is not refused for them
  tokens_or_refusal : (text : List ℕ) (x : List Token) (refusal : Refusal) → IsReading text (Ok x) → IsReading text (Err refusal) → ⊥
  tokens_or_refusal text x refusal h k =
      let same : ◌≡◌ {A = Result (List Token) Refusal} (Ok x) (Err refusal) = lexed text (Ok x) (Err refusal) h k in
      cc

  -- the bytes and tokens of a text have one refusal
  reading_once : (text : List ℕ) (a b : Refusal) → IsReading text (Err a) → IsReading text (Err b) → a ≡ b
  reading_once text a b h k =
      let same : ◌≡◌ {A = Result (List Token) Refusal} (Err a) (Err b) = lexed text (Err a) (Err b) h k in
      cc

  -- tokens are one list of statements
  stmts_once : (n : ℕ) (tokens : List Token) (x y : List Placed) → Parses n tokens (Ok x) → Parses n tokens (Ok y) → x ≡ y
  stmts_once n tokens x y h k =
      let same : ◌≡◌ {A = Result (List Placed) Refusal} (Ok x) (Ok y) = parsed n tokens (Ok x) (Ok y) h k in
      cc

  -- tokens that are statements are not refused for their forms and order
  stmts_or_refusal : (n : ℕ) (tokens : List Token) (x : List Placed) (refusal : Refusal) → Parses n tokens (Ok x) → Parses n tokens (Err refusal) → ⊥
  stmts_or_refusal n tokens x refusal h k =
      let same : ◌≡◌ {A = Result (List Placed) Refusal} (Ok x) (Err refusal) = parsed n tokens (Ok x) (Err refusal) h k in
      cc

  -- the forms and the order of tokens have one refusal
  parse_once : (n : ℕ) (tokens : List Token) (a b : Refusal) → Parses n tokens (Err a) → Parses n tokens (Err b) → a ≡ b
  parse_once n tokens a b h k =
      let same : ◌≡◌ {A = Result (List Placed) Refusal} (Err a) (Err b) = parsed n tokens (Err a) (Err b) h k in
      cc

  -- statements have one list of links
  links_once : (stmts : List Placed) (x y : List Link) → AreLinks stmts x → AreLinks stmts y → x ≡ y
  links_once stmts x y h k =
      let same : ◌≡◌ {A = Result (List Link) Refusal} (Ok x) (Ok y) = linked stmts (Ok x) (Ok y) h k in
      cc

  -- the blocks and labels of statements have one refusal
  match_once : (stmts : List Placed) (a b : Refusal) → IsRefusedAt stmts a → IsRefusedAt stmts b → a ≡ b
  match_once stmts a b h k =
      let same : ◌≡◌ {A = Result (List Link) Refusal} (Err a) (Err b) = linked stmts (Err a) (Err b) h k in
      cc

  -- statements with their links have one answer by the rules
  ruled_once : (stmts : List Placed) (l links : List Link) (a b : Option Refusal) → AreLinks stmts l → AreLinks stmts links → rules.Answers stmts l a → rules.Answers stmts links b
      → a ≡ b
  ruled_once stmts l links a b h k f g = ruled stmts links a b (subst (λ x. rules.Answers stmts x a) (links_once stmts l links h k) f) g

  -- statements have one expansion
  text_once : (stmts : List Placed) (x y : WholeExpansion) → AreAccepted stmts x → AreAccepted stmts y → x ≡ y
  text_once stmts x y a b = a.text_is ∙ ap (λ l. whole_expansion (called_text stmts l)) (links_once stmts a.links b.links a.linked b.linked) ∙ sym b.text_is

  -- statements that have an expansion are not refused
  text_or_refusal : (stmts : List Placed) (t : WholeExpansion) (refusal : Refusal) → AreAccepted stmts t → RefusesStatements stmts refusal → ⊥
  text_or_refusal stmts t refusal a (inl h) = no_fault_or_refusal stmts refusal a.linked.matched h
  text_or_refusal stmts t refusal a (inr h) =
      let same : ◌≡◌ {A = Option Refusal} None (Some refusal) = ruled_once stmts a.links h.0 None (Some refusal) a.linked h.1 a.kept h.2 in
      cc

  -- statements have one refusal
  statements_once : (stmts : List Placed) (a b : Refusal) → RefusesStatements stmts a → RefusesStatements stmts b → a ≡ b
  statements_once stmts a b (inl h) (inl k) = match_once stmts a b h k
  statements_once stmts a b (inl h) (inr k) = absurd (no_fault_or_refusal stmts a k.1.matched h)
  statements_once stmts a b (inr h) (inl k) = absurd (no_fault_or_refusal stmts b h.1.matched k)
  statements_once stmts a b (inr h) (inr k) =
      let same : ◌≡◌ {A = Option Refusal} (Some a) (Some b) = ruled_once stmts h.0 k.0 (Some a) (Some b) h.1 k.1 h.2 k.2 in
      cc

  -- tokens have one expansion
  said_once : (n : ℕ) (tokens : List Token) (x y : WholeExpansion) → Say n tokens x → Say n tokens y → x ≡ y
  said_once n tokens x y a b =
      text_once b.stmts x y (subst (λ l. AreAccepted l x) (stmts_once n tokens a.stmts b.stmts a.parsed b.parsed) a.accepted) b.accepted

  -- tokens that have an expansion are not refused
  said_or_refusal : (n : ℕ) (tokens : List Token) (t : WholeExpansion) (refusal : Refusal) → Say n tokens t → RefusesTokens n tokens refusal → ⊥
  said_or_refusal n tokens t refusal a (inl h) = stmts_or_refusal n tokens a.stmts refusal a.parsed h
  said_or_refusal n tokens t refusal a (inr h) =
      text_or_refusal h.0 t refusal (subst (λ l. AreAccepted l t) (stmts_once n tokens a.stmts h.0 a.parsed h.1) a.accepted) h.2

  -- tokens have one refusal
  refusal_of_tokens_once : (n : ℕ) (tokens : List Token) (a b : Refusal) → RefusesTokens n tokens a → RefusesTokens n tokens b → a ≡ b
  refusal_of_tokens_once n tokens a b (inl h) (inl k) = parse_once n tokens a b h k
  refusal_of_tokens_once n tokens a b (inl h) (inr k) = absurd (stmts_or_refusal n tokens k.0 a k.1 h)
  refusal_of_tokens_once n tokens a b (inr h) (inl k) = absurd (stmts_or_refusal n tokens h.0 b h.1 k)
  refusal_of_tokens_once n tokens a b (inr h) (inr k) =
      statements_once k.0 a b (subst (λ l. RefusesStatements l a) (stmts_once n tokens h.0 k.0 h.1 k.1) h.2) k.2

  -- a text has one expansion
  accepted_once : (text : List ℕ) (x y : WholeExpansion) → IsAccepted text x → IsAccepted text y → x ≡ y
  accepted_once text x y a b =
      said_once (length text) b.tokens x y (subst (λ l. Say (length text) l x) (tokens_once text a.tokens b.tokens a.read b.read) a.say) b.say

  -- a text that has an expansion is not refused
  accepted_or_refusal : (text : List ℕ) (t : WholeExpansion) (refusal : Refusal) → IsAccepted text t → IsFirstRefusal text refusal → ⊥
  accepted_or_refusal text t refusal a (inl h) = tokens_or_refusal text a.tokens refusal a.read h
  accepted_or_refusal text t refusal a (inr h) =
      said_or_refusal (length text) h.0 t refusal (subst (λ l. Say (length text) l t) (tokens_once text a.tokens h.0 a.read h.1) a.say) h.2

  -- a text has one refusal
  refusal_once : (text : List ℕ) (a b : Refusal) → IsFirstRefusal text a → IsFirstRefusal text b → a ≡ b
  refusal_once text a b (inl h) (inl k) = reading_once text a b h k
  refusal_once text a b (inl h) (inr k) = absurd (tokens_or_refusal text k.0 a k.1 h)
  refusal_once text a b (inr h) (inl k) = absurd (tokens_or_refusal text h.0 b h.1 k)
  refusal_once text a b (inr h) (inr k) =
      refusal_of_tokens_once (length text) k.0 a b (subst (λ l. RefusesTokens (length text) l a) (tokens_once text h.0 k.0 h.1 k.1) h.2) k.2

  -- no text has two answers
  pub answer_once : OneAnswer
  unfolding Accepts HasRefusal
  answer_once text (Ok a) (Ok b) h k = ap Ok (accepted_once text a b h k)
  answer_once text (Ok a) (Err b) h k = absurd (accepted_or_refusal text a b h k)
  answer_once text (Err a) (Ok b) h k = absurd (accepted_or_refusal text b a k h)
  answer_once text (Err a) (Err b) h k = ap Err (refusal_once text a b h k)
