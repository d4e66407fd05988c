-- The tokens that spell a statement are those of one of its forms and a `;`.
use Rattle.std.specs.Prelude.{◌≡◌, ℕ, ◌<◌, ◌≤◌, ◌^◌, ℤ, pos, neg_ℤ, ◌⊎◌, List, [], ◌∷◌, ◌++◌}
use Rattle.std.specs.List.{flat_map}
use Rattle.il_core.specs.Statement.{Statement, title, constant_is, range_type, wrap_type, enum_type, procedure, variable, pre, post, assign, if_true, otherwise, end_if, loop, end_loop, exit, exit_when, label, goto, call, skip, assert, return, end_procedure, finish}
use Rattle.il_core.specs.declared.statement.Bound.{Bound}
use Rattle.il_core.specs.declared.statement.Bound.TheVariants as bound
use Rattle.il_core.specs.declared.statement.Mode.{Mode}
use Rattle.il_core.specs.declared.statement.Mode.TheVariants as mode
use Rattle.il_core.specs.declared.statement.TypeUse.{TypeUse}
use Rattle.il_core.specs.declared.statement.TypeUse.TheVariants as type
use Rattle.il_core.specs.declared.token.Keyword.{Keyword}
use Rattle.il_core.specs.declared.token.Keyword.TheVariants as k
use Rattle.il_core.specs.declared.token.Symbol.TheVariants as s
use Rattle.il_core.specs.declared.token.TokenKind.{TokenKind}
use Rattle.il_core.specs.declared.token.TokenKind.TheVariants.{Key, Ident, Number, Symbol}
use Rattle.il_syntax.specs.Expression.{IsExpression}
use Rattle.il_syntax.specs.Arguments.{AreArguments}

-- a value is a number, or `-` and a number, within 64 bits
abbrev pub IsValue : List TokenKind → ℤ → Type 0
IsValue tokens value = ((n : ℕ) × (n < 2 ^ 63) × (tokens ≡ Number n ∷ []) × (value ≡ pos n)) ⊎ ((n : ℕ) × (n ≤ 2 ^ 63) × (tokens ≡ Symbol s.Minus ∷ Number n ∷ []) × (value ≡ neg_ℤ (pos n)))

-- a bound is a value or a name
abbrev pub IsBound : List TokenKind → Bound → Type 0
IsBound tokens (bound.Number value) = IsValue tokens value
IsBound tokens (bound.Constant name) = tokens ≡ Ident name ∷ []

-- a range is a bound, `..` and a bound
pub record IsRange (tokens : List TokenKind) (least greatest : Bound) : Type 0 where
  pub front : List TokenKind
  pub behind : List TokenKind
  pub from : IsBound front least
  pub to : IsBound behind greatest
  pub spelt : tokens ≡ front ++ Symbol s.Dots ∷ behind

-- a type is BOOL, a name, a range, or WRAP and a range
abbrev pub IsType : List TokenKind → TypeUse → Type 0
IsType tokens type.Bool = tokens ≡ Key k.KwBool ∷ []
IsType tokens (type.Named name) = tokens ≡ Ident name ∷ []
IsType tokens (type.Range least greatest) = IsRange tokens least greatest
IsType tokens (type.Wrap least greatest) = (range : List TokenKind) × (tokens ≡ Key k.KwWrap ∷ range) × IsRange range least greatest

-- names with commas between them, at least one
abbrev pub listed : List ℕ → List (List ℕ) → List TokenKind
listed first others = Ident first ∷ flat_map (λ other. Symbol s.Comma ∷ Ident other ∷ []) others

abbrev pub mode_word : Mode → Keyword
mode_word mode.Input = k.KwIn
mode_word mode.InOut = k.KwInout
mode_word mode.Output = k.KwOut
mode_word mode.Local = k.KwLocal

-- these tokens, without the `;`, spell the statement
abbrev pub Spells : Statement → List TokenKind → Type 0
Spells (title name) tokens = tokens ≡ Key k.KwTitle ∷ Ident name ∷ []
Spells (constant_is name value) tokens = (v : List TokenKind) × (tokens ≡ Key k.KwConst ∷ Ident name ∷ Symbol s.Equal ∷ v) × IsValue v value
Spells (range_type name least greatest) tokens = (r : List TokenKind) × (tokens ≡ Key k.KwType ∷ Ident name ∷ Symbol s.Equal ∷ r) × IsRange r least greatest
Spells (wrap_type name least greatest) tokens = (r : List TokenKind) × (tokens ≡ Key k.KwType ∷ Ident name ∷ Symbol s.Equal ∷ Key k.KwWrap ∷ r) × IsRange r least greatest
Spells (enum_type name values) tokens = (first : List ℕ) × (others : List (List ℕ)) × (values ≡ first ∷ others) × (tokens ≡ Key k.KwType ∷ Ident name ∷ Symbol s.Equal ∷ Symbol s.LeftParen ∷ (listed first others ++ Symbol s.RightParen ∷ []))
Spells (procedure name) tokens = tokens ≡ Key k.KwProc ∷ Ident name ∷ []
Spells (variable mode name type) tokens = (t : List TokenKind) × (tokens ≡ Key (mode_word mode) ∷ Ident name ∷ Symbol s.Colon ∷ t) × IsType t type
Spells (pre tree) tokens = (e : List TokenKind) × (tokens ≡ Key k.KwPre ∷ e) × IsExpression e tree
Spells (post tree) tokens = (e : List TokenKind) × (tokens ≡ Key k.KwPost ∷ e) × IsExpression e tree
Spells (assign name tree) tokens = (e : List TokenKind) × (tokens ≡ Ident name ∷ Symbol s.Becomes ∷ e) × IsExpression e tree
Spells (if_true tree) tokens = (e : List TokenKind) × (tokens ≡ Key k.KwIf ∷ e) × IsExpression e tree
Spells otherwise tokens = tokens ≡ Key k.KwElse ∷ []
Spells end_if tokens = tokens ≡ Key k.KwEndif ∷ []
Spells loop tokens = tokens ≡ Key k.KwLoop ∷ []
Spells end_loop tokens = tokens ≡ Key k.KwEndloop ∷ []
Spells exit tokens = tokens ≡ Key k.KwExit ∷ []
Spells (exit_when tree) tokens = (e : List TokenKind) × (tokens ≡ Key k.KwExit ∷ Key k.KwWhen ∷ e) × IsExpression e tree
Spells (label name) tokens = tokens ≡ Key k.KwLabel ∷ Ident name ∷ []
Spells (goto name) tokens = tokens ≡ Key k.KwGoto ∷ Ident name ∷ []
Spells (call name trees) tokens = (a : List TokenKind) × (tokens ≡ Key k.KwCall ∷ Ident name ∷ a) × AreArguments a trees
Spells skip tokens = tokens ≡ Key k.KwSkip ∷ []
Spells (assert tree) tokens = (e : List TokenKind) × (tokens ≡ Key k.KwAssert ∷ e) × IsExpression e tree
Spells return tokens = tokens ≡ Key k.KwReturn ∷ []
Spells end_procedure tokens = tokens ≡ Key k.KwEndproc ∷ []
Spells finish tokens = tokens ≡ Key k.KwFinish ∷ []

-- these tokens, with the `;`, are the statement
pub record Derives (statement : Statement) (tokens : List TokenKind) : Type 0 where
  pub body : List TokenKind
  pub spelt : Spells statement body
  pub ended : tokens ≡ body ++ Symbol s.Semicolon ∷ []
