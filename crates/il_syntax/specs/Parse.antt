-- The statements of a text are those that its tokens spell, cut behind each `;`, and they stand in order. A text is refused
-- at the first piece that is no statement, and where there is none, at the first place where the order breaks.
use Rattle.std.specs.Prelude.{◌≡◌, ℕ, Bool, true, false, ◌⊎◌, List, [], ◌∷◌, map, Result, Ok, Err, None, if◌then◌else◌}
use Rattle.il_core.specs.Statement.{Statement, Placed, placed}
use Rattle.il_core.specs.declared.refusal.Code.TheVariants as code
use Rattle.il_core.specs.declared.refusal.Refusal.{Refusal}
use Rattle.il_core.specs.declared.refusal.TextEnd.{TextEnd}
use Rattle.il_core.specs.declared.refusal.TextEnd.TheVariants as end
use Rattle.il_core.specs.declared.statement.Stmt.{Stmt}
use Rattle.il_core.specs.declared.token.Symbol.TheVariants as s
use Rattle.il_core.specs.declared.token.Token.{Token}
use Rattle.il_core.specs.declared.token.TokenKind.{TokenKind}
use Rattle.il_core.specs.declared.token.TokenKind.TheVariants as kind
use Rattle.il_syntax.specs.Expression.{kinds}
use Rattle.il_syntax.specs.Form.{Derives}
use Rattle.il_syntax.specs.Order.{IsInOrder, BreaksAt}

abbrev pub is_semicolon : TokenKind → Bool
is_semicolon (kind.Symbol s.Semicolon) = true
is_semicolon _ = false

-- a token before pieces that it does not end
abbrev pub joined : Token → List (List Token) → List (List Token)
joined t [] = (t ∷ []) ∷ []
joined t (piece ∷ others) = (t ∷ piece) ∷ others

-- the tokens cut behind each `;`. What is left behind the last `;` is a piece as well, and no statement.
abbrev pub pieces : List Token → List (List Token)
pieces [] = []
pieces (t ∷ ts) = if is_semicolon t.kind then (t ∷ []) ∷ pieces ts else joined t (pieces ts)

-- the place of the first byte of a piece
abbrev pub place_of : List Token → ℕ
place_of [] = 0
place_of (t ∷ _) = t.first

pub record IsStatement (piece : List Token) (stmt : Placed) : Type 0 where
  pub derived : Derives stmt.says (kinds piece)
  pub place : stmt.place ≡ place_of piece

-- each piece is the statement beside it
abbrev pub AreStatements : List (List Token) → List Placed → Type 0
AreStatements [] [] = Unit {0}
AreStatements (piece ∷ others) (stmt ∷ stmts) = IsStatement piece stmt × AreStatements others stmts
AreStatements _ _ = ⊥

abbrev pub HasNoForm : List Token → Type 0
HasNoForm piece = (statement : Statement) → Derives statement (kinds piece) → ⊥

-- the first piece that is no statement is at the place
abbrev pub FailsAt : List (List Token) → ℕ → Type 0
FailsAt [] place = ⊥
FailsAt (piece ∷ others) place = (HasNoForm piece × (place ≡ place_of piece)) ⊎ ((statement : Statement) × Derives statement (kinds piece) × FailsAt others place)

-- the refusal of a text
abbrev pub Refuses : ℕ → List Token → Refusal → Type 0
Refuses text_len tokens r = (r.name ≡ None) × (((r.code ≡ code.Syntax) × FailsAt (pieces tokens) r.place) ⊎ ((r.code ≡ code.Order) × ((stmts : List Placed) × AreStatements (pieces tokens) stmts × BreaksAt text_len stmts r.place)))

-- the one answer to a text: its statements or its refusal
abbrev pub Parses : ℕ → List Token → Result (List Placed) Refusal → Type 0
Parses text_len tokens (Ok stmts) = AreStatements (pieces tokens) stmts × IsInOrder stmts
Parses text_len tokens (Err r) = Refuses text_len tokens r

abbrev pub ParseGives : ℕ → List Token → Result (List Stmt) TextEnd → Type 0
ParseGives text_len tokens (Ok stmts) = Parses text_len tokens (Ok (map placed stmts))
ParseGives text_len tokens (Err (end.Refused r)) = Parses text_len tokens (Err r)
ParseGives text_len tokens (Err end.NoMemory) = Unit {0}

-- no list of tokens has two answers
abbrev pub OneParse : Type 0
OneParse = (text_len : ℕ) (tokens : List Token) (x y : Result (List Placed) Refusal) → Parses text_len tokens x → Parses text_len tokens y → x ≡ y
