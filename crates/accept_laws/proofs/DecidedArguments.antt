-- Tokens are an expression or none, and the arguments of a call or none.
use Rattle.std.proofs.Common.{◌≡◌, ◌⊎◌, Bool, true, false, List, [], ◌∷◌, ◌++◌, refl, sym, ◌∙◌, ap, subst, inl, inr, arith, append-nil}
use Rattle.std.specs.Prelude.{Option, Some, None}
use Rattle.std.proofs.lemmas.List.{append_assoc}
use Rattle.il_core.specs.Tree.{Tree}
use Rattle.il_core.specs.declared.token.Symbol.TheVariants as s
use Rattle.il_core.specs.declared.token.TokenKind.{TokenKind}
use Rattle.il_core.specs.declared.token.TokenKind.TheVariants.{Symbol}
use Rattle.il_syntax.specs.Arguments.{AreListed, AreArguments}
use Rattle.il_syntax.specs.ArgumentReading.{HasNoComma}
use Rattle.il_syntax.specs.Expression.{IsExpression}
use Rattle.il_syntax.specs.ExpressionReading as expression
use Rattle.il_syntax.specs.ExpressionReading.{Found, climb, whole_tree, whole}
use Rattle.il_syntax.specs.FormReading.{is_comma, is_left, is_right}
use Rattle.il_syntax.proofs.CallArguments.{no_comma_append, listed_first, listed_last, inside_only, inside_are}
use Rattle.il_syntax.proofs.ExpressionRead.{whole_is_read}
use Rattle.il_syntax.proofs.ExpressionWritten.{none_some, some_some, climb-reads}
use Rattle.il_syntax.proofs.ReadIsSpelt.{comma_token, left_token, right_token}

-- a reading that leaves no token
tree_left : (x : expression.Reading) (rest : List TokenKind) (tree : Tree) → whole_tree x rest ≡ Some tree → (rest ≡ []) × (x.tree ≡ tree)
tree_left x [] tree h = (refl, some_some h)
tree_left x (t ∷ rest) tree h = absurd (none_some h)

whole_left : (found : Found) (tree : Tree) → whole found ≡ Some tree → (x : expression.Reading) × (found ≡ Some (x, [])) × (x.tree ≡ tree)
whole_left None tree h = absurd (none_some h)
whole_left (Some f) tree h = let e = tree_left f.0 f.1 tree h in (f.0, ap (λ rest. Some (f.0, rest)) e.0, e.1)

-- what is read is an expression
written : (ts : List TokenKind) (tree : Tree) → whole (climb 200 0 ts) ≡ Some tree → IsExpression ts tree
written ts tree h =
    let w = whole_left (climb 200 0 ts) tree h in
    let r = climb-reads 200 0 ts (w.0, []) (omega arith) w.1 in
    record {
      written = r.written;
      levelled = r.levelled;
      shallow = r.shallow;
      spelt = sym (append-nil _) ∙ r.spelt;
      tree_is = ap (λ x. x.tree) r.seen_as ∙ w.2;
    }

-- an expression is read
read_whole : (ts : List TokenKind) (tree : Tree) → IsExpression ts tree → whole (climb 200 0 ts) ≡ Some tree
read_whole ts tree h =
    ap (λ us. whole (climb 200 0 us)) (sym h.spelt) ∙ ap whole (whole_is_read h.written 199 h.levelled h.shallow) ∙ ap Some h.tree_is

pub expression_decided : (ts : List TokenKind) → ((tree : Tree) × IsExpression ts tree) ⊎ ((tree : Tree) → IsExpression ts tree → ⊥)
expression_decided ts = by (whole (climb 200 0 ts)) refl
  where
    by : (o : Option Tree) → whole (climb 200 0 ts) ≡ o → ((tree : Tree) × IsExpression ts tree) ⊎ ((tree : Tree) → IsExpression ts tree → ⊥)
    by None e = inr (λ tree h. none_some (sym e ∙ read_whole ts tree h))
    by (Some tree) e = inl (tree, written ts tree e)

first_is : (t u : TokenKind) (ts us : List TokenKind) → t ∷ ts ≡ u ∷ us → (t ≡ u) × (ts ≡ us)
first_is t u ts us e = (cc, cc)

not_empty : (u : TokenKind) (us : List TokenKind) → ◌≡◌ {A = List TokenKind} [] (u ∷ us) → ⊥
not_empty u us e = cc

none_behind : (body : List TokenKind) (u : TokenKind) → ◌≡◌ {A = List TokenKind} [] (body ++ u ∷ []) → ⊥
none_behind [] u e = not_empty u [] e
none_behind (x ∷ xs) u e = not_empty x (xs ++ u ∷ []) e

-- tokens end with a token, or they do not
abbrev pub Ends : TokenKind → List TokenKind → Type 0
Ends u ts = (body : List TokenKind) × (ts ≡ body ++ u ∷ [])

-- where a test passes this token alone
pub end_decided : (u : TokenKind) (test : TokenKind → Bool) → test u ≡ true → ((t : TokenKind) → test t ≡ true → t ≡ u) → (ts : List TokenKind) → Ends u ts ⊎ (Ends u ts → ⊥)
end_decided u test passes alone [] = inr (λ b. none_behind b.0 u b.1)
end_decided u test passes alone (t ∷ []) = by (test t) refl
  where
    only : (body : List TokenKind) → test t ≡ false → t ∷ [] ≡ body ++ u ∷ [] → ⊥
    only [] e f = let z : false ≡ true = sym e ∙ ap test (first_is t u [] [] f).0 ∙ passes in cc
    only (x ∷ xs) e f = none_behind xs u (first_is t x [] (xs ++ u ∷ []) f).1

    by : (b : Bool) → test t ≡ b → Ends u (t ∷ []) ⊎ (Ends u (t ∷ []) → ⊥)
    by true e = inl ([], ap (λ v. v ∷ []) (alone t e))
    by false e = inr (λ b. only b.0 e b.1)
end_decided u test passes alone (t ∷ v ∷ vs) = by (end_decided u test passes alone (v ∷ vs))
  where
    longer : (Ends u (v ∷ vs) → ⊥) → (body : List TokenKind) → t ∷ v ∷ vs ≡ body ++ u ∷ [] → ⊥
    longer never [] f = not_empty v vs (sym (first_is t u (v ∷ vs) [] f).1)
    longer never (x ∷ xs) f = never (xs, (first_is t x (v ∷ vs) (xs ++ u ∷ []) f).1)

    by : Ends u (v ∷ vs) ⊎ (Ends u (v ∷ vs) → ⊥) → Ends u (t ∷ v ∷ vs) ⊎ (Ends u (t ∷ v ∷ vs) → ⊥)
    by (inl b) = inl (t ∷ b.0, ap (λ ws. t ∷ ws) b.1)
    by (inr never) = inr (λ b. longer never b.0 b.1)

-- something holds of some list of trees, or of none
abbrev SomeAre : (List Tree → Type 0) → Type 0
SomeAre Are = ((trees : List Tree) × Are trees) ⊎ ((trees : List Tree) → Are trees → ⊥)

abbrev SomeIs : List TokenKind → Type 0
SomeIs ts = ((tree : Tree) × IsExpression ts tree) ⊎ ((tree : Tree) → IsExpression ts tree → ⊥)

-- tokens that have no comma so far, with those that follow, list expressions or none
listed_decided : (front rest : List TokenKind) → HasNoComma front → SomeAre (AreListed (front ++ rest))
listed_decided front [] free = subst (λ ts. SomeAre (AreListed ts)) (sym (append-nil front)) (by (expression_decided front))
  where
    by : SomeIs front → SomeAre (AreListed front)
    by (inl x) = inl (x.0 ∷ [], inl (x.1, refl))
    by (inr never) = inr (λ trees l. let f = listed_last front free trees l in never f.0 f.2)
listed_decided front (t ∷ rest) free =
    by (is_comma t) refl (listed_decided [] rest tt) (λ more. listed_decided (front ++ t ∷ []) rest more)
  where
    cut : t ≡ Symbol s.Comma → front ++ t ∷ rest ≡ front ++ Symbol s.Comma ∷ rest
    cut e = ap (λ (u : TokenKind). front ++ u ∷ rest) e

    joined : t ≡ Symbol s.Comma → SomeIs front → SomeAre (AreListed rest) → SomeAre (AreListed (front ++ t ∷ rest))
    joined e (inl x) (inl y) = inl (x.0 ∷ y.0, inr (front, rest, cut e, x.1, y.1))
    joined e (inl x) (inr never) = inr (λ trees l. let f = listed_first (front ++ t ∷ rest) front rest (cut e) free trees l in never f.1 f.4)
    joined e (inr never) y = inr (λ trees l. let f = listed_first (front ++ t ∷ rest) front rest (cut e) free trees l in never f.0 f.3)

    by : (b : Bool) → is_comma t ≡ b → SomeAre (AreListed rest) → (HasNoComma (front ++ t ∷ []) → SomeAre (AreListed ((front ++ t ∷ []) ++ rest)))
        → SomeAre (AreListed (front ++ t ∷ rest))
    by true e behind further = joined (comma_token t e) (expression_decided front) behind
    by false e behind further =
        subst (λ ts. SomeAre (AreListed ts)) (append_assoc front (t ∷ []) rest) (further (no_comma_append front (t ∷ []) free (e, tt)))

-- tokens behind a name are the arguments of a call or none
pub arguments_decided : (ts : List TokenKind) → SomeAre (AreArguments ts)
arguments_decided [] = inl ([], refl)
arguments_decided (t ∷ ts) = by (is_left t) refl (end_decided (Symbol s.RightParen) is_right refl right_token ts)
  where
    opened : (trees : List Tree) → AreArguments (t ∷ ts) trees → (is_left t ≡ true) × Ends (Symbol s.RightParen) ts
    opened [] l = absurd (not_empty t ts (sym l))
    opened (u ∷ us) l =
        let f = first_is t (Symbol s.LeftParen) ts (l.0 ++ Symbol s.RightParen ∷ []) l.1 in
        (ap is_left f.0, (l.0, f.1))

    cut : is_left t ≡ true → (b : Ends (Symbol s.RightParen) ts) → t ∷ ts ≡ Symbol s.LeftParen ∷ (b.0 ++ Symbol s.RightParen ∷ [])
    cut e b = ap (λ (u : TokenKind). u ∷ ts) (left_token t e) ∙ ap (λ us. Symbol s.LeftParen ∷ us) b.1

    enclosed : is_left t ≡ true → (b : Ends (Symbol s.RightParen) ts) → SomeAre (AreListed b.0) → SomeAre (AreArguments (t ∷ ts))
    enclosed e b (inl x) = inl (x.0, inside_are (t ∷ ts) b.0 (cut e b) x.0 x.1)
    enclosed e b (inr never) = inr (λ trees l. never trees (inside_only (t ∷ ts) b.0 (cut e b) trees l))

    by : (b : Bool) → is_left t ≡ b → Ends (Symbol s.RightParen) ts ⊎ (Ends (Symbol s.RightParen) ts → ⊥) → SomeAre (AreArguments (t ∷ ts))
    by true e (inl b) = enclosed e b (listed_decided [] b.0 tt)
    by true e (inr never) = inr (λ trees l. never (opened trees l).1)
    by false e b = inr (λ trees l. let z : false ≡ true = sym e ∙ (opened trees l).0 in cc)
