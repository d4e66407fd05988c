-- The reading of the tokens of one statement, without its `;`, from left to right.
use Rattle.std.specs.Prelude.{◌≡◌, ℕ, Bool, true, false, nat_lt, nat_le, ◌^◌, ◌&&◌, ℤ, pos, neg_ℤ, List, [], ◌∷◌, Option, Some, None, Result, Ok, Err, if◌then◌else◌}
use Rattle.std.specs.Option.{option_map}
use Rattle.il_core.specs.Statement.{Statement, statement_of, title, constant_is, range_type, wrap_type, enum_type, procedure, variable, pre, post, assign, if_true, otherwise, end_if, loop, end_loop, exit, exit_when, label, goto, call, skip, assert, return, end_procedure, finish}
use Rattle.il_core.specs.Tree.{Tree}
use Rattle.il_core.specs.declared.statement.Bound.{Bound}
use Rattle.il_core.specs.declared.statement.Bound.TheVariants as bound
use Rattle.il_core.specs.declared.statement.Form.{Form}
use Rattle.il_core.specs.declared.statement.Mode.{Mode}
use Rattle.il_core.specs.declared.statement.Mode.TheVariants as mode
use Rattle.il_core.specs.declared.statement.TypeUse.{TypeUse}
use Rattle.il_core.specs.declared.statement.TypeUse.TheVariants as type
use Rattle.il_core.specs.declared.token.Keyword.{Keyword}
use Rattle.il_core.specs.declared.token.Keyword.TheVariants as k
use Rattle.il_core.specs.declared.token.Symbol.TheVariants as s
use Rattle.il_core.specs.declared.token.TokenKind.{TokenKind}
use Rattle.il_core.specs.declared.token.TokenKind.TheVariants as kind
use Rattle.il_syntax.specs.declared.expression.ExpressionEnd.{ExpressionEnd}
use Rattle.il_syntax.specs.declared.expression.ExpressionEnd.TheVariants as end
use Rattle.il_syntax.specs.Expression.{IsExpression, ExpressionIs}
use Rattle.il_syntax.specs.Arguments.{AreArguments, ArgumentsGive}

infixl 10 ◌>>=◌
abbrev pub ◌>>=◌ : {A B : Type 0} → Option A → (A → Option B) → Option B
None >>= f = None
(Some x) >>= f = f x

abbrev pub name_in : TokenKind → Option (List ℕ)
name_in (kind.Ident name) = Some name
name_in _ = None

abbrev pub number_in : TokenKind → Option ℕ
number_in (kind.Number n) = Some n
number_in _ = None

abbrev pub is_equal : TokenKind → Bool
is_equal (kind.Symbol s.Equal) = true
is_equal _ = false

abbrev pub is_colon : TokenKind → Bool
is_colon (kind.Symbol s.Colon) = true
is_colon _ = false

abbrev pub is_becomes : TokenKind → Bool
is_becomes (kind.Symbol s.Becomes) = true
is_becomes _ = false

abbrev pub is_dots : TokenKind → Bool
is_dots (kind.Symbol s.Dots) = true
is_dots _ = false

abbrev pub is_minus : TokenKind → Bool
is_minus (kind.Symbol s.Minus) = true
is_minus _ = false

abbrev pub is_comma : TokenKind → Bool
is_comma (kind.Symbol s.Comma) = true
is_comma _ = false

abbrev pub is_left : TokenKind → Bool
is_left (kind.Symbol s.LeftParen) = true
is_left _ = false

abbrev pub is_right : TokenKind → Bool
is_right (kind.Symbol s.RightParen) = true
is_right _ = false

abbrev pub is_bool : TokenKind → Bool
is_bool (kind.Key k.KwBool) = true
is_bool _ = false

abbrev pub is_wrap : TokenKind → Bool
is_wrap (kind.Key k.KwWrap) = true
is_wrap _ = false

abbrev pub is_when : TokenKind → Bool
is_when (kind.Key k.KwWhen) = true
is_when _ = false

-- what stands behind a first token that passes
abbrev pub behind : (TokenKind → Bool) → List TokenKind → Option (List TokenKind)
behind test [] = None
behind test (first ∷ rest) = if test first then Some rest else None

-- a name, and what stands behind it
abbrev pub name_at : List TokenKind → Option (List ℕ × List TokenKind)
name_at [] = None
name_at (first ∷ rest) = option_map (λ name. (name, rest)) (name_in first)

-- a name and a token that passes, and what stands behind them
abbrev pub name_before : (TokenKind → Bool) → List TokenKind → Option (List ℕ × List TokenKind)
name_before test tokens = name_at tokens >>= λ x. option_map (λ rest. (x.0, rest)) (behind test x.1)

abbrev pub is_end : List TokenKind → Bool
is_end [] = true
is_end (_ ∷ _) = false

-- what is read where all of the tokens are
abbrev pub at_end : {A : Type 0} → A × List TokenKind → Option A
at_end x = if is_end x.1 then Some x.0 else None

abbrev pub positive : ℕ → Option ℤ
positive n = if nat_lt n (2 ^ 63) then Some (pos n) else None

abbrev pub negative : ℕ → Option ℤ
negative n = if nat_le n (2 ^ 63) then Some (neg_ℤ (pos n)) else None

-- a number by its sign, and what stands behind it
abbrev pub number_at : (ℕ → Option ℤ) → List TokenKind → Option (ℤ × List TokenKind)
number_at signed [] = None
number_at signed (first ∷ rest) = number_in first >>= λ n. option_map (λ value. (value, rest)) (signed n)

-- a value, and what stands behind it
abbrev pub value_at : List TokenKind → Option (ℤ × List TokenKind)
value_at [] = None
value_at (first ∷ rest) = if is_minus first then number_at negative rest else number_at positive (first ∷ rest)

abbrev pub bound_of_name : List ℕ × List TokenKind → Bound × List TokenKind
bound_of_name x = (bound.Constant x.0, x.1)

abbrev pub bound_of_value : ℤ × List TokenKind → Bound × List TokenKind
bound_of_value x = (bound.Number x.0, x.1)

abbrev pub or_else : {A : Type 0} → Option A → Option A → Option A
or_else None other = other
or_else (Some x) other = Some x

-- a bound, and what stands behind it
abbrev pub bound_at : List TokenKind → Option (Bound × List TokenKind)
bound_at tokens = or_else (option_map bound_of_name (name_at tokens)) (option_map bound_of_value (value_at tokens))

abbrev pub range_of : List TokenKind → Option (Bound × Bound)
range_of tokens = bound_at tokens >>= λ least. behind is_dots least.1 >>= λ rest. bound_at rest >>= λ greatest. at_end ((least.0, greatest.0), greatest.1)

abbrev pub name_of : List TokenKind → Option (List ℕ)
name_of tokens = name_at tokens >>= at_end

abbrev pub value_of : List TokenKind → Option ℤ
value_of tokens = value_at tokens >>= at_end

abbrev pub wrap_of : Bound × Bound → TypeUse
wrap_of x = type.Wrap x.0 x.1

abbrev pub range_use : Bound × Bound → TypeUse
range_use x = type.Range x.0 x.1

-- BOOL or a name
abbrev pub word_type : TokenKind → Option TypeUse
word_type word = if is_bool word then Some type.Bool else option_map (λ name. type.Named name) (name_in word)

abbrev pub type_of : List TokenKind → Option TypeUse
type_of [] = None
type_of (first ∷ rest) = if is_end rest then word_type first
    else (if is_wrap first then option_map wrap_of (range_of rest) else option_map range_use (range_of (first ∷ rest)))

-- names with commas between them, up to a parenthesis
abbrev pub names_of : List TokenKind → Option (List (List ℕ))
names_of [] = None
names_of (word ∷ []) = None
names_of (word ∷ mark ∷ rest) = name_in word >>= λ name. if is_comma mark then option_map (λ names. name ∷ names) (names_of rest)
    else (if is_right mark && is_end rest then Some (name ∷ []) else None)

-- what is read: nothing, a statement, a statement around an expression, or one around the arguments of a call
pub data Reading : Type 0 where
  nothing : Reading
  whole : Statement → Reading
  around : (Tree → Statement) → List TokenKind → Reading
  around_all : (List Tree → Statement) → List TokenKind → Reading

abbrev pub reading_of : Option Statement → Reading
reading_of None = nothing
reading_of (Some statement) = whole statement

abbrev pub range_type_of : List ℕ → Bound × Bound → Statement
range_type_of name x = range_type name x.0 x.1

abbrev pub wrap_type_of : List ℕ → Bound × Bound → Statement
wrap_type_of name x = wrap_type name x.0 x.1

-- the definition of a type
abbrev pub definition : List ℕ → List TokenKind → Option Statement
definition name [] = None
definition name (first ∷ rest) = if is_left first then option_map (λ values. enum_type name values) (names_of rest)
    else (if is_wrap first then option_map (wrap_type_of name) (range_of rest) else option_map (range_type_of name) (range_of (first ∷ rest)))

abbrev pub constant_of : List TokenKind → Option Statement
constant_of tokens = name_before is_equal tokens >>= λ x. option_map (λ value. constant_is x.0 value) (value_of x.1)

abbrev pub type_definition : List TokenKind → Option Statement
type_definition tokens = name_before is_equal tokens >>= λ x. definition x.0 x.1

abbrev pub variable_of : Mode → List TokenKind → Option Statement
variable_of mode tokens = name_before is_colon tokens >>= λ x. option_map (λ type. variable mode x.0 type) (type_of x.1)

abbrev pub named : (List ℕ → Statement) → List TokenKind → Reading
named make tokens = reading_of (option_map make (name_of tokens))

abbrev pub alone : Statement → List TokenKind → Reading
alone statement tokens = if is_end tokens then whole statement else nothing

abbrev pub exit_of : List TokenKind → Reading
exit_of [] = whole exit
exit_of (first ∷ rest) = if is_when first then around exit_when rest else nothing

abbrev pub assignment : List ℕ → List TokenKind → Reading
assignment name [] = nothing
assignment name (first ∷ rest) = if is_becomes first then around (assign name) rest else nothing

-- the name that is called, and the arguments behind it
abbrev pub call_with : Option (List ℕ × List TokenKind) → Reading
call_with None = nothing
call_with (Some x) = around_all (call x.0) x.1

-- what stands behind a first keyword
abbrev pub keyed : Keyword → List TokenKind → Reading
keyed k.KwTitle tokens = named title tokens
keyed k.KwConst tokens = reading_of (constant_of tokens)
keyed k.KwType tokens = reading_of (type_definition tokens)
keyed k.KwProc tokens = named procedure tokens
keyed k.KwIn tokens = reading_of (variable_of mode.Input tokens)
keyed k.KwInout tokens = reading_of (variable_of mode.InOut tokens)
keyed k.KwOut tokens = reading_of (variable_of mode.Output tokens)
keyed k.KwLocal tokens = reading_of (variable_of mode.Local tokens)
keyed k.KwPre tokens = around pre tokens
keyed k.KwPost tokens = around post tokens
keyed k.KwIf tokens = around if_true tokens
keyed k.KwElse tokens = alone otherwise tokens
keyed k.KwEndif tokens = alone end_if tokens
keyed k.KwLoop tokens = alone loop tokens
keyed k.KwEndloop tokens = alone end_loop tokens
keyed k.KwExit tokens = exit_of tokens
keyed k.KwLabel tokens = named label tokens
keyed k.KwGoto tokens = named goto tokens
keyed k.KwCall tokens = call_with (name_at tokens)
keyed k.KwSkip tokens = alone skip tokens
keyed k.KwAssert tokens = around assert tokens
keyed k.KwReturn tokens = alone return tokens
keyed k.KwEndproc tokens = alone end_procedure tokens
keyed k.KwFinish tokens = alone finish tokens
keyed _ tokens = nothing

abbrev pub reading : List TokenKind → Reading
reading [] = nothing
reading (kind.Key word ∷ rest) = keyed word rest
reading (kind.Ident name ∷ rest) = assignment name rest
reading (_ ∷ _) = nothing

-- a result that is what is read
abbrev pub Answers : Reading → Result Form ExpressionEnd → Type 0
Answers nothing (Ok _) = ⊥
Answers nothing (Err _) = Unit {0}
Answers (whole statement) (Ok form) = statement_of form ≡ statement
Answers (whole statement) (Err end.NoForm) = ⊥
Answers (whole statement) (Err end.NoMemory) = Unit {0}
Answers (around make tokens) (Ok form) = (tree : Tree) × IsExpression tokens tree × (statement_of form ≡ make tree)
Answers (around make tokens) (Err e) = ExpressionIs tokens (Err e)
Answers (around_all make tokens) (Ok form) = (trees : List Tree) × AreArguments tokens trees × (statement_of form ≡ make trees)
Answers (around_all make tokens) (Err e) = ArgumentsGive tokens (Err e)
