-- What spells a statement is read as that statement.
use Rattle.std.proofs.Common.{◌≡◌, ℕ, ◌<◌, ◌≤◌, ◌^◌, inl, inr, List, [], ◌∷◌, ◌++◌, refl, sym, ◌∙◌, ap, append-nil, rules}
use Rattle.std.specs.Prelude.{Some, ℤ, pos, neg_ℤ}
use Rattle.std.specs.Option.{option_map}
use Rattle.il_core.specs.Tree.{Tree}
use Rattle.il_core.specs.Statement.{Statement, title, constant_is, range_type, wrap_type, enum_type, procedure, variable, pre, post, assign, if_true, otherwise, end_if, loop, end_loop, exit, exit_when, label, goto, call, skip, assert, return, end_procedure, finish}
use Rattle.il_core.specs.declared.statement.Bound.{Bound}
use Rattle.il_core.specs.declared.statement.Bound.TheVariants as bound
use Rattle.il_core.specs.declared.statement.Mode.TheVariants as mode
use Rattle.il_core.specs.declared.statement.TypeUse.{TypeUse}
use Rattle.il_core.specs.declared.statement.TypeUse.TheVariants as type
use Rattle.il_core.specs.declared.token.Keyword.TheVariants as k
use Rattle.il_core.specs.declared.token.Symbol.TheVariants as s
use Rattle.il_core.specs.declared.token.TokenKind.{TokenKind}
use Rattle.il_core.specs.declared.token.TokenKind.TheVariants.{Key, Symbol}
use Rattle.il_syntax.specs.Expression.{IsExpression}
use Rattle.il_syntax.specs.Arguments.{AreArguments}
use Rattle.il_syntax.specs.Form.{IsValue, IsBound, IsRange, IsType, listed, Spells}
use Rattle.il_syntax.specs.FormReading.{Reading, nothing, whole, around, around_all, reading, positive, negative, value_of, bound_at, range_of, range_use, range_type_of, type_of, names_of, definition}

-- the statement is what is read
abbrev pub Agrees : Statement → Reading → Type 0
Agrees s nothing = ⊥
Agrees s (whole t) = s ≡ t
Agrees s (around make tokens) = (tree : Tree) × IsExpression tokens tree × (s ≡ make tree)
Agrees s (around_all make tokens) = (trees : List Tree) × AreArguments tokens trees × (s ≡ make trees)

positive_read : (n : ℕ) → n < 2 ^ 63 → positive n ≡ Some (pos n)
positive_read n h = search rules

negative_read : (n : ℕ) → n ≤ 2 ^ 63 → negative n ≡ Some (neg_ℤ (pos n))
negative_read n h = search rules

value_read : (tokens : List TokenKind) (value : ℤ) → IsValue tokens value → value_of tokens ≡ Some value
value_read tokens value (inl (n, small, e, f)) = rw (e, positive_read n small, f) refl
value_read tokens value (inr (n, small, e, f)) = rw (e, negative_read n small, f) refl

bound_read : (b : Bound) (front rest : List TokenKind) → IsBound front b → bound_at (front ++ rest) ≡ Some (b, rest)
bound_read (bound.Number value) front rest (inl (n, small, e, f)) = rw (e, positive_read n small, f) refl
bound_read (bound.Number value) front rest (inr (n, small, e, f)) = rw (e, negative_read n small, f) refl
bound_read (bound.Constant name) front rest e = rw e refl

last_bound_read : (b : Bound) (tokens : List TokenKind) → IsBound tokens b → bound_at tokens ≡ Some (b, [])
last_bound_read b tokens h = ap bound_at (sym (append-nil tokens)) ∙ bound_read b tokens [] h

range_read : (tokens : List TokenKind) (least greatest : Bound) → IsRange tokens least greatest → range_of tokens ≡ Some (least, greatest)
range_read tokens least greatest h = rw (h.spelt, bound_read least h.front (Symbol s.Dots ∷ h.behind) h.from, last_bound_read greatest h.behind h.to) refl

-- a bound begins with no keyword and no parenthesis
bound_begins_type : (b : Bound) (front rest : List TokenKind) (more : TokenKind) → IsBound front b → type_of (front ++ more ∷ rest) ≡ option_map range_use (range_of (front ++ more ∷ rest))
bound_begins_type (bound.Number value) front rest more (inl (n, small, e, f)) = rw e refl
bound_begins_type (bound.Number value) front rest more (inr (n, small, e, f)) = rw e refl
bound_begins_type (bound.Constant name) front rest more e = rw e refl

bound_begins_definition : (name : List ℕ) (b : Bound) (front rest : List TokenKind) → IsBound front b → definition name (front ++ rest) ≡ option_map (range_type_of name) (range_of (front ++ rest))
bound_begins_definition name (bound.Number value) front rest (inl (n, small, e, f)) = rw e refl
bound_begins_definition name (bound.Number value) front rest (inr (n, small, e, f)) = rw e refl
bound_begins_definition name (bound.Constant word) front rest e = rw e refl

range_type_read : (tokens : List TokenKind) (least greatest : Bound) → IsRange tokens least greatest → type_of tokens ≡ Some (type.Range least greatest)
range_type_read tokens least greatest h =
    ap type_of h.spelt ∙ bound_begins_type least h.front h.behind (Symbol s.Dots) h.from ∙ ap (λ ts. option_map range_use (range_of ts)) (sym h.spelt)
    ∙ ap (option_map range_use) (range_read tokens least greatest h)

range_definition_read : (name : List ℕ) (tokens : List TokenKind) (least greatest : Bound) → IsRange tokens least greatest → definition name tokens ≡ Some (range_type name least greatest)
range_definition_read name tokens least greatest h =
    ap (definition name) h.spelt ∙ bound_begins_definition name least h.front (Symbol s.Dots ∷ h.behind) h.from ∙ ap (λ ts. option_map (range_type_of name) (range_of ts)) (sym h.spelt)
    ∙ ap (option_map (range_type_of name)) (range_read tokens least greatest h)

-- behind WRAP there is a token
wrap_type_read : (range : List TokenKind) (least greatest : Bound) → range_of range ≡ Some (least, greatest) → type_of (Key k.KwWrap ∷ range) ≡ Some (type.Wrap least greatest)
wrap_type_read [] least greatest e = cc
wrap_type_read (first ∷ rest) least greatest e = rw e refl

type_read : (t : TypeUse) (tokens : List TokenKind) → IsType tokens t → type_of tokens ≡ Some t
type_read type.Bool tokens e = rw e refl
type_read (type.Named name) tokens e = rw e refl
type_read (type.Range least greatest) tokens h = range_type_read tokens least greatest h
type_read (type.Wrap least greatest) tokens (range, e, h) = rw e (wrap_type_read range least greatest (range_read range least greatest h))

names_read : (first : List ℕ) (others : List (List ℕ)) → names_of (listed first others ++ Symbol s.RightParen ∷ []) ≡ Some (first ∷ others)
names_read first [] = refl
names_read first (other ∷ others) = ap (option_map (λ names. first ∷ names)) (names_read other others)

-- what spells a statement is read as it
pub spelt_reads : (statement : Statement) (tokens : List TokenKind) → Spells statement tokens → Agrees statement (reading tokens)
spelt_reads (title name) tokens e = rw e refl
spelt_reads (constant_is name value) tokens (v, e, h) = rw (e, value_read v value h) refl
spelt_reads (range_type name least greatest) tokens (r, e, h) = rw (e, range_definition_read name r least greatest h) refl
spelt_reads (wrap_type name least greatest) tokens (r, e, h) = rw (e, range_read r least greatest h) refl
spelt_reads (enum_type name values) tokens (first, others, f, e) = rw (e, names_read first others, f) refl
spelt_reads (procedure name) tokens e = rw e refl
spelt_reads (variable mode.Input name t) tokens (ts, e, h) = rw (e, type_read t ts h) refl
spelt_reads (variable mode.InOut name t) tokens (ts, e, h) = rw (e, type_read t ts h) refl
spelt_reads (variable mode.Output name t) tokens (ts, e, h) = rw (e, type_read t ts h) refl
spelt_reads (variable mode.Local name t) tokens (ts, e, h) = rw (e, type_read t ts h) refl
spelt_reads (pre tree) tokens (ts, e, h) = rw e (tree, h, refl)
spelt_reads (post tree) tokens (ts, e, h) = rw e (tree, h, refl)
spelt_reads (assign name tree) tokens (ts, e, h) = rw e (tree, h, refl)
spelt_reads (if_true tree) tokens (ts, e, h) = rw e (tree, h, refl)
spelt_reads otherwise tokens e = rw e refl
spelt_reads end_if tokens e = rw e refl
spelt_reads loop tokens e = rw e refl
spelt_reads end_loop tokens e = rw e refl
spelt_reads exit tokens e = rw e refl
spelt_reads (exit_when tree) tokens (ts, e, h) = rw e (tree, h, refl)
spelt_reads (label name) tokens e = rw e refl
spelt_reads (goto name) tokens e = rw e refl
spelt_reads (call name trees) tokens (ts, e, h) = rw e (trees, h, refl)
spelt_reads skip tokens e = rw e refl
spelt_reads (assert tree) tokens (ts, e, h) = rw e (tree, h, refl)
spelt_reads return tokens e = rw e refl
spelt_reads end_procedure tokens e = rw e refl
spelt_reads finish tokens e = rw e refl
