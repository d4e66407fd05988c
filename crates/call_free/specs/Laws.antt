-- Texts without a CALL are judged as before there were calls, and what is made of them is the checked text as before.
use Rattle.std.specs.Prelude.{◌≡◌, ◌↔◌, ℕ, Bool, true, false, List, [], Option, Some, None, slice_get}
use Rattle.il_core.specs.Statement.{Statement, Placed, call}
use Rattle.il_core.specs.declared.refusal.Refusal.{Refusal}
use Rattle.il_core.specs.declared.statement.Link.{Link}
use Rattle.il_syntax.specs.Order.{IsInOrder}
use Rattle.il_blocks.specs.BlockLink.{AreLinks}
use Rattle.il_types.specs.Rules as types
use Rattle.il_built.specs.CheckedText.{checked_text}
use Rattle.il_called.specs.Expansion.{origin_at}
use Rattle.il_called.specs.declared.called.CallSpan.{CallSpan}
use Rattle.il_called.specs.declared.called.Origin.{Origin}
use Rattle.il_inline.specs.Expanded.{WholeExpansion, whole_expansion}
use Rattle.call_rules.specs.CalledText.{called_text}
use Rattle.call_rules.specs.Rules.{Answers}

abbrev pub is_call : Statement → Bool
is_call (call _ _) = true
is_call _ = false

-- no statement is a CALL
abbrev pub HasNoCall : List Placed → Type 0
HasNoCall stmts = (i : ℕ) (x : Placed) → slice_get stmts i ≡ Some x → is_call x.says ≡ false

-- the rules of texts with calls answer what those of texts without calls answer
abbrev pub AnswersAlike : Type 0
AnswersAlike = (stmts : List Placed) (links : List Link) (answer : Option Refusal) → HasNoCall stmts → Answers stmts links answer ↔ types.Answers stmts answer

-- an expanded text is what statements and their links stand for without calls: no lines stand for a call, and each line comes from itself
pub record IsItself (stmts : List Placed) (links : List Link) (e : WholeExpansion) : Type 0 where
  pub text : e.text ≡ checked_text stmts links
  pub spans : (k : ℕ) (spans : List CallSpan) → slice_get e.spans k ≡ Some spans → spans ≡ []
  pub origins : (k n : ℕ) (from : List Origin) (o : Origin) → slice_get e.origins k ≡ Some from → slice_get from n ≡ Some o → o ≡ origin_at k n

-- the expansion of a text without a CALL that keeps all rules is itself
abbrev pub StandsForItself : Type 0
StandsForItself = (stmts : List Placed) (links : List Link) → IsInOrder stmts → AreLinks stmts links → types.Answers stmts None → HasNoCall stmts
    → IsItself stmts links (whole_expansion (called_text stmts links))
