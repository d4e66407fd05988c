-- The arguments of a call are what stands between commas, since free expression has a comma.
use Rattle.std.proofs.Common.{◌≡◌, ℕ, suc, inl, inr, Bool, true, false, List, [], ◌∷◌, ◌++◌, ◌≤◌, length, take, drop, refl, sym, ◌∙◌, ap, subst, arith, append-nil}
use Rattle.std.proofs.lemmas.List.{append_assoc, append_cancel_right, map-append, take-append-drop}
use Rattle.std.specs.Prelude.{Result, Ok, Err, Option, None, Some, map, if◌then◌else◌}
use Rattle.std.specs.Borrow.{Bor}
use Rattle.il_core.specs.Tree.{Tree, tree_of}
use Rattle.il_core.specs.declared.operator.BinOp.{BinOp}
use Rattle.il_core.specs.declared.operator.BinOp.TheVariants.{Add, Sub, Mul, Div, Mod, Compare, And, Or}
use Rattle.il_core.specs.declared.operator.Relation.{Relation}
use Rattle.il_core.specs.declared.operator.Relation.TheVariants.{Eq, Ne, Lt, Le, Gt, Ge}
use Rattle.il_core.specs.declared.token.Symbol.TheVariants as s
use Rattle.il_core.specs.declared.token.Token.{Token}
use Rattle.il_core.specs.declared.token.TokenKind.{TokenKind}
use Rattle.il_core.specs.declared.token.TokenKind.TheVariants.{Symbol}
use Rattle.il_syntax.specs.Expression.{Written, number, word, former, constant, enclosed, minus, opposite, two, spelling, operator_kind, relation_kind, kinds, IsExpression, ExpressionIs}
use Rattle.il_syntax.specs.FormReading.{is_comma, is_left, is_right}
use Rattle.il_core.specs.declared.statement.RawExpr.{RawExpr}
use Rattle.il_syntax.specs.declared.expression.ExpressionEnd.{ExpressionEnd}
use Rattle.il_syntax.specs.declared.expression.ExpressionEnd.TheVariants as end
use Rattle.il_syntax.specs.Arguments.{AreListed, AreArguments, ListedGive, ArgumentsGive}
use Rattle.il_syntax.specs.ArgumentReading.{HasNoComma, argument_len, IsCut}
use Rattle.il_syntax.proofs.ExpressionExact.{one_tree}
use Rattle.il_syntax.proofs.ReadIsSpelt.{comma_token, left_token, right_token}

pub no_comma_append : (a b : List TokenKind) → HasNoComma a → HasNoComma b → HasNoComma (a ++ b)
no_comma_append [] b h k = k
no_comma_append (t ∷ a) b h k = (h.0, no_comma_append a b h.1 k)

relation_no_comma : (r : Relation) → is_comma (relation_kind r) ≡ false
relation_no_comma Eq = refl
relation_no_comma Ne = refl
relation_no_comma Lt = refl
relation_no_comma Le = refl
relation_no_comma Gt = refl
relation_no_comma Ge = refl

operator_no_comma : (o : BinOp) → is_comma (operator_kind o) ≡ false
operator_no_comma (Compare r) = relation_no_comma r
operator_no_comma Add = refl
operator_no_comma Sub = refl
operator_no_comma Mul = refl
operator_no_comma Div = refl
operator_no_comma Mod = refl
operator_no_comma And = refl
operator_no_comma Or = refl

spelling_no_comma : (w : Written) → HasNoComma (spelling w)
spelling_no_comma (number n) = (refl, tt)
spelling_no_comma (word name) = (refl, tt)
spelling_no_comma (former name) = (refl, (refl, tt))
spelling_no_comma (constant true) = (refl, tt)
spelling_no_comma (constant false) = (refl, tt)
spelling_no_comma (enclosed inner) = (refl, no_comma_append (spelling inner) _ (spelling_no_comma inner) (refl, tt))
spelling_no_comma (minus inner) = (refl, spelling_no_comma inner)
spelling_no_comma (opposite inner) = (refl, spelling_no_comma inner)
spelling_no_comma (two o left right) = no_comma_append (spelling left) _ (spelling_no_comma left) (operator_no_comma o, spelling_no_comma right)

-- free expression has a comma
expression_no_comma : {tokens : List TokenKind} {tree : Tree} → IsExpression tokens tree → HasNoComma tokens
expression_no_comma h = subst HasNoComma h.spelt (spelling_no_comma h.written)

comma_there : (front behind : List TokenKind) → HasNoComma (front ++ Symbol s.Comma ∷ behind) → ⊥
comma_there [] behind h = let e : true ≡ false = h.0 in cc
comma_there (t ∷ front) behind h = comma_there front behind h.1

-- what stands in front of the first comma is one
split_once : (f g b c : List TokenKind) → HasNoComma f → HasNoComma g → f ++ Symbol s.Comma ∷ b ≡ g ++ Symbol s.Comma ∷ c → (f ≡ g) × (b ≡ c)
split_once [] [] b c h k e = (refl, cc)
split_once [] (t ∷ g) b c h k e = let first : Symbol s.Comma ≡ t = cc in let differ : is_comma (Symbol s.Comma) ≡ false = ap is_comma first ∙ k.0 in absurd (cc)
split_once (t ∷ f) [] b c h k e = let first : t ≡ Symbol s.Comma = cc in let differ : is_comma (Symbol s.Comma) ≡ false = ap is_comma (sym first) ∙ h.0 in absurd (cc)
split_once (t ∷ f) (u ∷ g) b c h k e =
    let first : t ≡ u = cc in
    let rest : f ++ Symbol s.Comma ∷ b ≡ g ++ Symbol s.Comma ∷ c = cc in
    let more = split_once f g b c h.1 k.1 rest in
    (ap (λ x. x ∷ f) first ∙ ap (λ xs. u ∷ xs) more.0, more.1)

-- what tokens with a first comma list: an expression in front of it, and what the tokens behind it list
pub listed_first : (tokens front behind : List TokenKind) → tokens ≡ front ++ Symbol s.Comma ∷ behind → HasNoComma front → (trees : List Tree) → AreListed tokens trees
    → (t : Tree) × (ts : List Tree) × (trees ≡ t ∷ ts) × IsExpression front t × AreListed behind ts
listed_first tokens front behind cut free [] l = absurd l
listed_first tokens front behind cut free (t ∷ ts) (inl l) = absurd (comma_there front behind (subst HasNoComma cut (expression_no_comma l.0)))
listed_first tokens front behind cut free (t ∷ ts) (inr l) =
    let same = split_once l.0 front l.1 behind (expression_no_comma l.3) free (sym l.2 ∙ cut) in
    (t, ts, refl, subst (λ f. IsExpression f t) same.0 l.3, subst (λ b. AreListed b ts) same.1 l.4)

-- tokens without a comma list one expression
pub listed_last : (tokens : List TokenKind) → HasNoComma tokens → (trees : List Tree) → AreListed tokens trees → (t : Tree) × (trees ≡ t ∷ []) × IsExpression tokens t
listed_last tokens free [] l = absurd l
listed_last tokens free (t ∷ ts) (inl l) = (t, ap (λ us. t ∷ us) l.1, l.0)
listed_last tokens free (t ∷ ts) (inr l) = absurd (comma_there l.0 l.1 (subst HasNoComma l.2 free))

-- a front of the tokens is read as these trees
pub record IsListedSoFar (tokens : List TokenKind) (read : List Tree) (rest : List TokenKind) : Type 0 where
  pub further : (trees : List Tree) → AreListed rest trees → AreListed tokens (read ++ trees)
  pub only : (trees : List Tree) → AreListed tokens trees → (more : List Tree) × (trees ≡ read ++ more) × AreListed rest more

pub begins : (tokens : List TokenKind) → IsListedSoFar tokens [] tokens
begins tokens = record { further = λ trees l. l; only = λ trees l. (trees, refl, l) }

pub goes_on : (tokens : List TokenKind) (read : List Tree) (rest front behind : List TokenKind) (t : Tree) → IsListedSoFar tokens read rest
    → rest ≡ front ++ Symbol s.Comma ∷ behind → HasNoComma front → IsExpression front t → ((other : Tree) → IsExpression front other → other ≡ t)
    → IsListedSoFar tokens (read ++ t ∷ []) behind
goes_on tokens read rest front behind t so cut free e one = record {
  further = λ trees l. subst (λ us. AreListed tokens us) (sym (append_assoc read (t ∷ []) trees)) (so.further (t ∷ trees) (inr (front, behind, cut, e, l)));
  only = λ trees l.
      let o = so.only trees l in
      let f = listed_first rest front behind cut free o.0 o.2 in
      (f.1, o.1 ∙ ap (λ us. read ++ us) (f.2 ∙ ap (λ u. u ∷ f.1) (one f.0 f.3)) ∙ sym (append_assoc read (t ∷ []) f.1), f.4);
}

-- the last expression
pub ends : (tokens : List TokenKind) (read : List Tree) (rest : List TokenKind) (t : Tree) → IsListedSoFar tokens read rest → HasNoComma rest → IsExpression rest t
    → ((other : Tree) → IsExpression rest other → other ≡ t) → AreListed tokens (read ++ t ∷ []) × ((others : List Tree) → AreListed tokens others → others ≡ read ++ t ∷ [])
ends tokens read rest t so free e one = (
  so.further (t ∷ []) (inl (e, refl)),
  λ others l.
      let o = so.only others l in
      let f = listed_last rest free o.0 o.2 in
      o.1 ∙ ap (λ us. read ++ us) (f.1 ∙ ap (λ u. u ∷ []) (one f.0 f.2)),
)

-- a piece that is no expression
pub fails_within : (tokens : List TokenKind) (read : List Tree) (rest front behind : List TokenKind) → IsListedSoFar tokens read rest → rest ≡ front ++ Symbol s.Comma ∷ behind
    → HasNoComma front → ((t : Tree) → IsExpression front t → ⊥) → (trees : List Tree) → AreListed tokens trees → ⊥
fails_within tokens read rest front behind so cut free none trees l =
    let o = so.only trees l in
    let f = listed_first rest front behind cut free o.0 o.2 in
    none f.0 f.3

pub fails_last : (tokens : List TokenKind) (read : List Tree) (rest : List TokenKind) → IsListedSoFar tokens read rest → HasNoComma rest → ((t : Tree) → IsExpression rest t → ⊥)
    → (trees : List Tree) → AreListed tokens trees → ⊥
fails_last tokens read rest so free none trees l =
    let o = so.only trees l in
    let f = listed_last rest free o.0 o.2 in
    none f.0 f.2

-- what stands in parentheses behind the name that is called
pub inside_only : (tokens inner : List TokenKind) → tokens ≡ Symbol s.LeftParen ∷ (inner ++ Symbol s.RightParen ∷ []) → (trees : List Tree) → AreArguments tokens trees → AreListed inner trees
inside_only tokens inner cut [] l = let e : [] ≡ Symbol s.LeftParen ∷ (inner ++ Symbol s.RightParen ∷ []) = sym l ∙ cut in absurd (cc)
inside_only tokens inner cut (t ∷ ts) l =
    let e : Symbol s.LeftParen ∷ (l.0 ++ Symbol s.RightParen ∷ []) ≡ Symbol s.LeftParen ∷ (inner ++ Symbol s.RightParen ∷ []) = sym l.1 ∙ cut in
    let f : l.0 ++ Symbol s.RightParen ∷ [] ≡ inner ++ Symbol s.RightParen ∷ [] = cc in
    subst (λ us. AreListed us (t ∷ ts)) (append_cancel_right l.0 inner (Symbol s.RightParen ∷ []) f) l.2

pub inside_are : (tokens inner : List TokenKind) → tokens ≡ Symbol s.LeftParen ∷ (inner ++ Symbol s.RightParen ∷ []) → (trees : List Tree) → AreListed inner trees → AreArguments tokens trees
inside_are tokens inner cut [] l = absurd l
inside_are tokens inner cut (t ∷ ts) l = (inner, cut, l)

pub inside : (tokens inner : List TokenKind) (result : Result (List RawExpr) ExpressionEnd) → tokens ≡ Symbol s.LeftParen ∷ (inner ++ Symbol s.RightParen ∷ [])
    → ListedGive inner result → ArgumentsGive tokens result
inside tokens inner (Ok es) cut h = (inside_are tokens inner cut (map tree_of es) h.0, λ others l. h.1 others (inside_only tokens inner cut others l))
inside tokens inner (Err end.NoForm) cut h = λ trees l. h trees (inside_only tokens inner cut trees l)
inside tokens inner (Err end.NoMemory) cut h = tt

-- no tokens list two lists
one_listed : (tokens : List TokenKind) (a b : List Tree) → AreListed tokens a → AreListed tokens b → a ≡ b
one_listed tokens [] b f g = absurd f
one_listed tokens (t ∷ ts) b (inl f) g =
    let h = listed_last tokens (expression_no_comma f.0) b g in
    ap (λ us. t ∷ us) f.1 ∙ ap (λ u. u ∷ []) (one_tree f.0 h.2) ∙ sym h.1
one_listed tokens (t ∷ ts) b (inr f) g =
    let h = listed_first tokens f.0 f.1 f.2 (expression_no_comma f.3) b g in
    ap (λ us. t ∷ us) (one_listed f.1 ts h.1 f.4 h.4) ∙ ap (λ u. u ∷ h.1) (one_tree f.3 h.3) ∙ sym h.2

-- no tokens are two lists of arguments
pub one_arguments : (tokens : List TokenKind) (a b : List Tree) → AreArguments tokens a → AreArguments tokens b → a ≡ b
one_arguments tokens [] [] f g = refl
one_arguments tokens [] (u ∷ us) f g = let e : [] ≡ Symbol s.LeftParen ∷ (g.0 ++ Symbol s.RightParen ∷ []) = sym f ∙ g.1 in absurd (cc)
one_arguments tokens (t ∷ ts) b f g = one_listed f.0 (t ∷ ts) b f.2 (inside_only tokens f.0 f.1 b g)

-- the tokens before the first comma
len_with : (b : Bool) (n len : ℕ) → n ≤ len → (if b then 0 else suc n) ≤ suc len
len_with true n len h = omega arith
len_with false n len h = omega arith

pub len_within : (ts : List Token) → argument_len ts ≤ length ts
len_within [] = omega arith
len_within (t ∷ ts) = len_with (is_comma t.kind) (argument_len ts) (length ts) (len_within ts)

free_with : (t : Token) (ts : List Token) (b : Bool) → is_comma t.kind ≡ b → HasNoComma (kinds (take (argument_len ts) ts))
    → HasNoComma (kinds (take (if b then 0 else suc (argument_len ts)) (t ∷ ts)))
free_with t ts true e h = tt
free_with t ts false e h = (e, h)

front_free : (ts : List Token) → HasNoComma (kinds (take (argument_len ts) ts))
front_free [] = tt
front_free (t ∷ ts) = free_with t ts (is_comma t.kind) refl (front_free ts)

comma_with : (t : Token) (ts : List Token) (b : Bool) → is_comma t.kind ≡ b → ((u : Token) (us : List Token) → drop (argument_len ts) ts ≡ u ∷ us → is_comma u.kind ≡ true)
    → (u : Token) (us : List Token) → drop (if b then 0 else suc (argument_len ts)) (t ∷ ts) ≡ u ∷ us → is_comma u.kind ≡ true
comma_with t ts true e h u us k = let same : t ≡ u = cc in ap (λ (x : Token). is_comma x.kind) (sym same) ∙ e
comma_with t ts false e h u us k = h u us k

back_comma : (ts : List Token) (u : Token) (us : List Token) → drop (argument_len ts) ts ≡ u ∷ us → is_comma u.kind ≡ true
back_comma [] u us k = let e : ◌≡◌ {A = List Token} [] (u ∷ us) = k in absurd (cc)
back_comma (t ∷ ts) u us k = comma_with t ts (is_comma t.kind) refl (back_comma ts) u us k

nil_of : (ts : List Token) → length ts ≡ 0 → ts ≡ []
nil_of [] h = refl
nil_of (t ∷ ts) h = absurd (omega (arith, h))

pub cut_none : (ts : List Token) → length (drop (argument_len ts) ts) ≡ 0 → (kinds ts ≡ kinds (take (argument_len ts) ts)) × HasNoComma (kinds (take (argument_len ts) ts))
cut_none ts h =
    (ap kinds (sym (take-append-drop (argument_len ts) ts) ∙ ap (λ us. take (argument_len ts) ts ++ us) (nil_of (drop (argument_len ts) ts) h) ∙ append-nil _), front_free ts)

pub cut_some : (ts : List Token) (u : Token) (us : List Token) → drop (argument_len ts) ts ≡ u ∷ us
    → (kinds ts ≡ kinds (take (argument_len ts) ts) ++ Symbol s.Comma ∷ kinds us) × HasNoComma (kinds (take (argument_len ts) ts))
cut_some ts u us h = (
  ap kinds (sym (take-append-drop (argument_len ts) ts) ∙ ap (λ vs. take (argument_len ts) ts ++ vs) h)
      ∙ map-append (λ (t : Token). t.kind) (take (argument_len ts) ts) (u ∷ us)
      ∙ ap (λ (k : TokenKind). kinds (take (argument_len ts) ts) ++ k ∷ kinds us) (comma_token u.kind (back_comma ts u us h)),
  front_free ts,
)

-- a piece that is no expression, or memory that runs out
pub fails : (tokens : List TokenKind) (read : List Tree) (rest front : List TokenKind) (behind : Option (Bor (List Token))) (e : ExpressionEnd)
    → IsListedSoFar tokens read rest → IsCut rest front behind → ExpressionIs front (Err e) → ListedGive tokens (Err e)
fails tokens read rest front None end.NoForm so c h = λ trees l. fails_last tokens read rest so (subst HasNoComma (sym c.0) c.1) (subst (λ us. (t : Tree) → IsExpression us t → ⊥) (sym c.0) h) trees l
fails tokens read rest front (Some behind) end.NoForm so c h = fails_within tokens read rest front (kinds behind.now) so c.0 c.1 h
fails tokens read rest front behind end.NoMemory so c h = tt

-- the tokens of a call's arguments are a parenthesis, what it encloses, and a parenthesis
pub enclosed_are : (tokens behind inner : List Token) (first last : Token) → tokens ≡ first ∷ behind → behind ≡ inner ++ last ∷ [] → is_left first.kind ≡ true → is_right last.kind ≡ true
    → kinds tokens ≡ Symbol s.LeftParen ∷ (kinds inner ++ Symbol s.RightParen ∷ [])
enclosed_are tokens behind inner first last e f l r =
    ap kinds (e ∙ ap (λ us. first ∷ us) f)
    ∙ ap (λ us. first.kind ∷ us) (map-append (λ (t : Token). t.kind) inner (last ∷ []))
    ∙ ap (λ (k : TokenKind). k ∷ (kinds inner ++ last.kind ∷ [])) (left_token first.kind l)
    ∙ ap (λ (k : TokenKind). Symbol s.LeftParen ∷ (kinds inner ++ k ∷ [])) (right_token last.kind r)

-- the last expression, with what was read before it
pub ends_list : (tokens rest front : List TokenKind) (es all : List RawExpr) (e : RawExpr) (behind : Option (Bor (List Token))) → IsListedSoFar tokens (map tree_of es) rest
    → IsCut rest front behind → behind ≡ None → ExpressionIs front (Ok e) → all ≡ es ++ e ∷ [] → ListedGive tokens (Ok all)
ends_list tokens rest front es all e None so c none h same =
    subst (λ (ts : List Tree). AreListed tokens ts × ((others : List Tree) → AreListed tokens others → others ≡ ts)) (sym (map-append tree_of es (e ∷ [])) ∙ ap (map tree_of) (sym same))
    (ends tokens (map tree_of es) rest (tree_of e) so (subst HasNoComma (sym c.0) c.1) (subst (λ us. IsExpression us (tree_of e)) (sym c.0) h.0)
    (subst (λ us. (other : Tree) → IsExpression us other → other ≡ tree_of e) (sym c.0) h.1))
ends_list tokens rest front es all e (Some behind) so c none h same = let x : ◌≡◌ {A = Option (Bor (List Token))} (Some behind) None = none in absurd (cc)

pub goes_on_list : (tokens rest front : List TokenKind) (es all : List RawExpr) (e : RawExpr) (behind : Option (Bor (List Token))) (after : Bor (List Token)) → IsListedSoFar tokens (map tree_of es) rest
    → IsCut rest front behind → behind ≡ Some after → ExpressionIs front (Ok e) → all ≡ es ++ e ∷ [] → IsListedSoFar tokens (map tree_of all) (kinds after.now)
goes_on_list tokens rest front es all e None after so c some h same = let x : ◌≡◌ {A = Option (Bor (List Token))} None (Some after) = some in absurd (cc)
goes_on_list tokens rest front es all e (Some behind) after so c some h same =
    let is : behind ≡ after = cc in
    subst (λ (ts : List Tree). IsListedSoFar tokens ts (kinds after.now)) (sym (map-append tree_of es (e ∷ [])) ∙ ap (map tree_of) (sym same))
    (goes_on tokens (map tree_of es) rest front (kinds after.now) (tree_of e) so
    (subst (λ (b : Bor (List Token)). rest ≡ front ++ Symbol s.Comma ∷ kinds b.now) is c.0) c.1 h.0 h.1)
