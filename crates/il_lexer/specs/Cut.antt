-- A text is cut from its front into steps; its tokens are those of the steps that end with the text, each with its span.
use Rattle.std.specs.Prelude.{◌≡◌, ℕ, ◌+◌, ◌<◌, ◌≤◌, List, [], ◌∷◌, ◌++◌, length, drop, Option, Some, None}
use Rattle.il_core.specs.declared.token.Token.{Token}
use Rattle.il_core.specs.declared.token.TokenKind.{TokenKind}
use Rattle.il_core.specs.declared.refusal.Code.TheVariants.{Lexical}
use Rattle.il_core.specs.declared.refusal.TextEnd.{TextEnd}
use Rattle.il_core.specs.declared.refusal.TextEnd.TheVariants.{Refused, NoMemory}
use Rattle.il_lexer.specs.Step.{IsStep}
use Rattle.il_lexer.specs.declared.step.Step.{Step}

-- the steps lead from the front of the text to this rest of it
abbrev pub Cuts : List ℕ → List Step → List ℕ → Type 0
Cuts text [] rest = rest ≡ text
Cuts text (step ∷ steps) rest = IsStep text step × Cuts (drop step.len text) steps rest

-- the token of a step that begins at this place, if it is no blank
abbrev pub token_of : ℕ → ℕ → Option TokenKind → List Token
token_of at len None = []
token_of at len (Some kind) = record { kind = kind; first = at; after = at + len } ∷ []

-- the tokens of steps of which the first begins at this place
abbrev pub tokens_from : ℕ → List Step → List Token
tokens_from at [] = []
tokens_from at (step ∷ steps) = token_of at step.len step.kind ++ tokens_from (at + step.len) steps

abbrev pub AreTokens : List ℕ → List Token → Type 0
AreTokens text tokens = (steps : List Step) × Cuts text steps [] × (tokens ≡ tokens_from 0 steps)

-- the first place at which neither blank nor token stands
pub record IsStuck (text : List ℕ) (place : ℕ) : Type 0 where
  pub steps : List Step
  pub rest : List ℕ
  pub cut : Cuts text steps rest
  pub more : 0 < length rest
  pub no_step : (step : Step) → IsStep rest step → ⊥
  pub at : place + length rest ≡ length text

-- why a text is not cut to its end: it is stuck, or memory ran out
abbrev pub IsCutEnd : List ℕ → TextEnd → Type 0
IsCutEnd text (Refused refusal) = IsStuck text refusal.place × (refusal.code ≡ Lexical) × (refusal.name ≡ None)
IsCutEnd text NoMemory = Unit {0}

-- the spans are not empty and follow one another, from the one place to the other
abbrev pub AreInOrder : ℕ → List Token → ℕ → Type 0
AreInOrder from [] end = from ≤ end
AreInOrder from (token ∷ tokens) end = (from ≤ token.first) × (token.first < token.after) × AreInOrder token.after tokens end
