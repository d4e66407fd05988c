-- What is read as a statement spells it.
use Rattle.std.proofs.Common.{◌≡◌, ℕ, ◌<◌, ◌≤◌, ◌^◌, ◌⊎◌, inl, inr, Bool, true, false, List, [], ◌∷◌, ◌++◌, refl, sym, ◌∙◌, ap, subst, append-nil}
use Rattle.std.specs.Prelude.{Option, Some, None, ℤ, pos, neg_ℤ, nat_lt, nat_le, ◌&&◌, if◌then◌else◌}
use Rattle.std.specs.Option.{option_map}
use Rattle.il_core.specs.Statement.{Statement, title, constant_is, enum_type, procedure, variable, assign, otherwise, end_if, loop, end_loop, exit_when, label, goto, skip, return, end_procedure, finish}
use Rattle.il_core.specs.declared.statement.Bound.{Bound}
use Rattle.il_core.specs.declared.statement.Mode.{Mode}
use Rattle.il_core.specs.declared.statement.Mode.TheVariants as mode
use Rattle.il_core.specs.declared.statement.TypeUse.{TypeUse}
use Rattle.il_core.specs.declared.statement.TypeUse.TheVariants as type
use Rattle.il_core.specs.declared.token.Keyword.{Keyword}
use Rattle.il_core.specs.declared.token.Keyword.TheVariants as k
use Rattle.il_core.specs.declared.token.Symbol.TheVariants as s
use Rattle.il_core.specs.declared.token.TokenKind.{TokenKind}
use Rattle.il_core.specs.declared.token.TokenKind.TheVariants.{Key, Ident, Number, Symbol}
use Rattle.il_syntax.specs.Form.{IsValue, IsBound, IsRange, IsType, listed, mode_word, Spells}
use Rattle.il_syntax.specs.FormReading.{◌>>=◌, nothing, around, call_with, reading, keyed, reading_of, named, alone, exit_of, assignment, positive, negative, name_in, number_in, is_equal, is_colon, is_becomes, is_dots, is_minus, is_comma, is_left, is_right, is_bool, is_wrap, is_when, is_end, behind, name_at, name_before, at_end, number_at, value_at, value_of, name_of, bound_of_name, bound_of_value, or_else, bound_at, range_of, wrap_of, range_use, word_type, type_of, names_of, range_type_of, wrap_type_of, definition, constant_of, type_definition, variable_of}
use Rattle.il_syntax.proofs.SpeltIsRead.{Agrees}
use Rattle.std.proofs.lemmas.Bool.{ltb-true, leb-true}

-- each test passes one token alone
equal_token : (t : TokenKind) → is_equal t ≡ true → t ≡ Symbol s.Equal
equal_token (Symbol s.Equal) e = refl
equal_token _ e = cc

colon_token : (t : TokenKind) → is_colon t ≡ true → t ≡ Symbol s.Colon
colon_token (Symbol s.Colon) e = refl
colon_token _ e = cc

becomes_token : (t : TokenKind) → is_becomes t ≡ true → t ≡ Symbol s.Becomes
becomes_token (Symbol s.Becomes) e = refl
becomes_token _ e = cc

dots_token : (t : TokenKind) → is_dots t ≡ true → t ≡ Symbol s.Dots
dots_token (Symbol s.Dots) e = refl
dots_token _ e = cc

minus_token : (t : TokenKind) → is_minus t ≡ true → t ≡ Symbol s.Minus
minus_token (Symbol s.Minus) e = refl
minus_token _ e = cc

pub comma_token : (t : TokenKind) → is_comma t ≡ true → t ≡ Symbol s.Comma
comma_token (Symbol s.Comma) e = refl
comma_token _ e = cc

pub left_token : (t : TokenKind) → is_left t ≡ true → t ≡ Symbol s.LeftParen
left_token (Symbol s.LeftParen) e = refl
left_token _ e = cc

pub right_token : (t : TokenKind) → is_right t ≡ true → t ≡ Symbol s.RightParen
right_token (Symbol s.RightParen) e = refl
right_token _ e = cc

bool_token : (t : TokenKind) → is_bool t ≡ true → t ≡ Key k.KwBool
bool_token (Key k.KwBool) e = refl
bool_token _ e = cc

wrap_token : (t : TokenKind) → is_wrap t ≡ true → t ≡ Key k.KwWrap
wrap_token (Key k.KwWrap) e = refl
wrap_token _ e = cc

when_token : (t : TokenKind) → is_when t ≡ true → t ≡ Key k.KwWhen
when_token (Key k.KwWhen) e = refl
when_token _ e = cc

name_token : (t : TokenKind) (name : List ℕ) → name_in t ≡ Some name → t ≡ Ident name
name_token (Ident word) name e = cc
name_token (Key word) name e = cc
name_token (Number n) name e = cc
name_token (Symbol x) name e = cc

number_token : (t : TokenKind) (n : ℕ) → number_in t ≡ Some n → t ≡ Number n
number_token (Number m) n e = cc
number_token (Key word) n e = cc
number_token (Ident word) n e = cc
number_token (Symbol x) n e = cc

no_token : (ts : List TokenKind) → is_end ts ≡ true → ts ≡ []
no_token [] e = refl
no_token (t ∷ ts) e = cc

-- where an option of several steps is there, each step is
bind_some : {A B : Type 0} (o : Option A) (f : A → Option B) (y : B) → (o >>= f) ≡ Some y → (x : A) × (o ≡ Some x) × (f x ≡ Some y)
bind_some None f y e = cc
bind_some (Some x) f y e = (x, refl, e)

map_some : {A B : Type 0} (o : Option A) (f : A → B) (y : B) → option_map f o ≡ Some y → (x : A) × (o ≡ Some x) × (f x ≡ y)
map_some None f y e = cc
map_some (Some x) f y e = (x, refl, cc)

or_some : {A : Type 0} (o p : Option A) (x : A) → or_else o p ≡ Some x → (o ≡ Some x) ⊎ (p ≡ Some x)
or_some None p x e = inr e
or_some (Some y) p x e = inl e

choice : {A : Type 0} (b : Bool) (o p : Option A) (x : A) → (if b then o else p) ≡ Some x → ((b ≡ true) × (o ≡ Some x)) ⊎ ((b ≡ false) × (p ≡ Some x))
choice true o p x e = inl (refl, e)
choice false o p x e = inr (refl, e)

if_some : {A : Type 0} (b : Bool) (x y : A) → (if b then Some x else None) ≡ Some y → (b ≡ true) × (x ≡ y)
if_some true x y e = (refl, cc)
if_some false x y e = cc

both_true : (a b : Bool) → (a && b) ≡ true → (a ≡ true) × (b ≡ true)
both_true true b e = (refl, e)
both_true false b e = cc

behind_spelt : (test : TokenKind → Bool) (ts rest : List TokenKind) → behind test ts ≡ Some rest → (first : TokenKind) × (ts ≡ first ∷ rest) × (test first ≡ true)
behind_spelt test [] rest e = cc
behind_spelt test (first ∷ after) rest e = let h = if_some (test first) after rest e in (first, ap (λ x. first ∷ x) h.1, h.0)

name_at_spelt : (ts : List TokenKind) (x : List ℕ × List TokenKind) → name_at ts ≡ Some x → ts ≡ Ident x.0 ∷ x.1
name_at_spelt [] x e = cc
name_at_spelt (first ∷ rest) x e =
    let h = map_some (name_in first) (λ name. (name, rest)) x e in
    ap (λ (t : TokenKind). t ∷ rest) (name_token first h.0 h.1) ∙ ap (λ (y : List ℕ × List TokenKind). Ident y.0 ∷ y.1) h.2

at_end_spelt : {A : Type 0} (x : A × List TokenKind) (y : A) → at_end x ≡ Some y → (x.0 ≡ y) × (x.1 ≡ [])
at_end_spelt x y e = let h = if_some (is_end x.1) x.0 y e in (h.1, no_token x.1 h.0)

name_of_spelt : (ts : List TokenKind) (name : List ℕ) → name_of ts ≡ Some name → ts ≡ Ident name ∷ []
name_of_spelt ts name e =
    let h = bind_some (name_at ts) at_end name e in
    let g = at_end_spelt h.0 name h.2 in
    name_at_spelt ts h.0 h.1 ∙ ap (λ (n : List ℕ). Ident n ∷ h.0.1) g.0 ∙ ap (λ (x : List TokenKind). Ident name ∷ x) g.1

name_before_spelt : (test : TokenKind → Bool) (ts : List TokenKind) (x : List ℕ × List TokenKind) → name_before test ts ≡ Some x
    → (mark : TokenKind) × (ts ≡ Ident x.0 ∷ mark ∷ x.1) × (test mark ≡ true)
name_before_spelt test ts x e =
    let h = bind_some (name_at ts) (λ y. option_map (λ rest. (y.0, rest)) (behind test y.1)) x e in
    let g = map_some (behind test h.0.1) (λ rest. (h.0.0, rest)) x h.2 in
    let f = behind_spelt test h.0.1 g.0 g.1 in
    (f.0, name_at_spelt ts h.0 h.1 ∙ ap (λ (y : List TokenKind). Ident h.0.0 ∷ y) f.1 ∙ ap (λ (y : List ℕ × List TokenKind). Ident y.0 ∷ f.0 ∷ y.1) g.2, f.2)

positive_spelt : (n : ℕ) (v : ℤ) → positive n ≡ Some v → (n < 2 ^ 63) × (v ≡ pos n)
positive_spelt n v e = let h = if_some (nat_lt n (2 ^ 63)) (pos n) v e in (ltb-true n (2 ^ 63) h.0, sym h.1)

negative_spelt : (n : ℕ) (v : ℤ) → negative n ≡ Some v → (n ≤ 2 ^ 63) × (v ≡ neg_ℤ (pos n))
negative_spelt n v e = let h = if_some (nat_le n (2 ^ 63)) (neg_ℤ (pos n)) v e in (leb-true n (2 ^ 63) h.0, sym h.1)

number_at_spelt : (signed : ℕ → Option ℤ) (ts : List TokenKind) (x : ℤ × List TokenKind) → number_at signed ts ≡ Some x
    → (n : ℕ) × (ts ≡ Number n ∷ x.1) × (signed n ≡ Some x.0)
number_at_spelt signed [] x e = cc
number_at_spelt signed (first ∷ rest) x e =
    let h = bind_some (number_in first) (λ n. option_map (λ value. (value, rest)) (signed n)) x e in
    let g = map_some (signed h.0) (λ value. (value, rest)) x h.2 in
    (h.0, ap (λ (t : TokenKind). t ∷ rest) (number_token first h.0 h.1) ∙ ap (λ (y : ℤ × List TokenKind). Number h.0 ∷ y.1) g.2, g.1 ∙ ap (λ (y : ℤ × List TokenKind). Some y.0) g.2)

abbrev FrontIs : {A : Type 0} → (List TokenKind → A → Type 0) → List TokenKind → A × List TokenKind → Type 0
FrontIs Is ts x = (front : List TokenKind) × (ts ≡ front ++ x.1) × Is front x.0

value_by_sign : (first : TokenKind) (rest : List TokenKind) (x : ℤ × List TokenKind)
    → ((is_minus first ≡ true) × (number_at negative rest ≡ Some x)) ⊎ ((is_minus first ≡ false) × (number_at positive (first ∷ rest) ≡ Some x))
    → FrontIs IsValue (first ∷ rest) x
value_by_sign first rest x (inl (m, e)) =
    let h = number_at_spelt negative rest x e in
    let g = negative_spelt h.0 x.0 h.2 in
    (Symbol s.Minus ∷ Number h.0 ∷ [], ap (λ (t : TokenKind). t ∷ rest) (minus_token first m) ∙ ap (λ (y : List TokenKind). Symbol s.Minus ∷ y) h.1, inr (h.0, g.0, refl, g.1))
value_by_sign first rest x (inr (m, e)) =
    let h = number_at_spelt positive (first ∷ rest) x e in
    let g = positive_spelt h.0 x.0 h.2 in
    (Number h.0 ∷ [], h.1, inl (h.0, g.0, refl, g.1))

value_at_spelt : (ts : List TokenKind) (x : ℤ × List TokenKind) → value_at ts ≡ Some x → FrontIs IsValue ts x
value_at_spelt [] x e = cc
value_at_spelt (first ∷ rest) x e = value_by_sign first rest x (choice (is_minus first) (number_at negative rest) (number_at positive (first ∷ rest)) x e)

value_of_spelt : (ts : List TokenKind) (value : ℤ) → value_of ts ≡ Some value → IsValue ts value
value_of_spelt ts value e =
    let h = bind_some (value_at ts) at_end value e in
    let g = at_end_spelt h.0 value h.2 in
    let f = value_at_spelt ts h.0 h.1 in
    let all : ts ≡ f.0 = f.1 ∙ ap (λ (y : List TokenKind). f.0 ++ y) g.1 ∙ append-nil f.0 in
    rw all (subst (λ v. IsValue f.0 v) g.0 f.2)

bound_by_form : (ts : List TokenKind) (x : Bound × List TokenKind)
    → (option_map bound_of_name (name_at ts) ≡ Some x) ⊎ (option_map bound_of_value (value_at ts) ≡ Some x) → FrontIs IsBound ts x
bound_by_form ts x (inl e) =
    let h = map_some (name_at ts) bound_of_name x e in
    subst (λ (y : Bound × List TokenKind). FrontIs IsBound ts y) h.2 (Ident h.0.0 ∷ [], name_at_spelt ts h.0 h.1, refl)
bound_by_form ts x (inr e) =
    let h = map_some (value_at ts) bound_of_value x e in
    let g = value_at_spelt ts h.0 h.1 in
    subst (λ (y : Bound × List TokenKind). FrontIs IsBound ts y) h.2 (g.0, g.1, g.2)

bound_at_spelt : (ts : List TokenKind) (x : Bound × List TokenKind) → bound_at ts ≡ Some x → FrontIs IsBound ts x
bound_at_spelt ts x e = bound_by_form ts x (or_some (option_map bound_of_name (name_at ts)) (option_map bound_of_value (value_at ts)) x e)

-- the tokens of a range
range_tokens : (ts front rest after last end : List TokenKind) (mark : TokenKind) → ts ≡ front ++ rest → rest ≡ mark ∷ after → mark ≡ Symbol s.Dots → after ≡ last ++ end → end ≡ []
    → ts ≡ front ++ Symbol s.Dots ∷ last
range_tokens ts front rest after last end mark a b m d e = rw (a, b, m, d, e, append-nil last) refl

range_of_spelt : (ts : List TokenKind) (x : Bound × Bound) → range_of ts ≡ Some x → IsRange ts x.0 x.1
range_of_spelt ts x e =
    let a = bind_some (bound_at ts) (λ least. behind is_dots least.1 >>= λ rest. bound_at rest >>= λ greatest. at_end ((least.0, greatest.0), greatest.1)) x e in
    let b = bind_some (behind is_dots a.0.1) (λ rest. bound_at rest >>= λ greatest. at_end ((a.0.0, greatest.0), greatest.1)) x a.2 in
    let d = bind_some (bound_at b.0) (λ greatest. at_end ((a.0.0, greatest.0), greatest.1)) x b.2 in
    let f = at_end_spelt ((a.0.0, d.0.0), d.0.1) x d.2 in
    let least = bound_at_spelt ts a.0 a.1 in
    let dots = behind_spelt is_dots a.0.1 b.0 b.1 in
    let greatest = bound_at_spelt b.0 d.0 d.1 in
    subst (λ (y : Bound × Bound). IsRange ts y.0 y.1) f.0 (record {
      front = least.0;
      behind = greatest.0;
      from = least.2;
      to = greatest.2;
      spelt = range_tokens ts least.0 a.0.1 b.0 greatest.0 d.0.1 dots.0 least.1 dots.1 (dots_token dots.0 dots.2) greatest.1 f.1;
    })

word_type_by : (word : TokenKind) (t : TypeUse)
    → ((is_bool word ≡ true) × (Some type.Bool ≡ Some t)) ⊎ ((is_bool word ≡ false) × (option_map (λ name. type.Named name) (name_in word) ≡ Some t)) → IsType (word ∷ []) t
word_type_by word t (inl (b, e)) =
    let f : type.Bool ≡ t = cc in
    subst (λ (u : TypeUse). IsType (word ∷ []) u) f (ap (λ (x : TokenKind). x ∷ []) (bool_token word b))
word_type_by word t (inr (b, e)) =
    let h = map_some (name_in word) (λ name. type.Named name) t e in
    subst (λ (u : TypeUse). IsType (word ∷ []) u) h.2 (ap (λ (x : TokenKind). x ∷ []) (name_token word h.0 h.1))

word_type_spelt : (word : TokenKind) (t : TypeUse) → word_type word ≡ Some t → IsType (word ∷ []) t
word_type_spelt word t e = word_type_by word t (choice (is_bool word) (Some type.Bool) (option_map (λ name. type.Named name) (name_in word)) t e)

range_use_spelt : (ts : List TokenKind) (t : TypeUse) → option_map range_use (range_of ts) ≡ Some t → IsType ts t
range_use_spelt ts t e =
    let h = map_some (range_of ts) range_use t e in
    subst (λ (u : TypeUse). IsType ts u) h.2 (range_of_spelt ts h.0 h.1)

wrap_use_spelt : (word : TokenKind) (ts : List TokenKind) (t : TypeUse) → is_wrap word ≡ true → option_map wrap_of (range_of ts) ≡ Some t → IsType (word ∷ ts) t
wrap_use_spelt word ts t w e =
    let h = map_some (range_of ts) wrap_of t e in
    subst (λ (u : TypeUse). IsType (word ∷ ts) u) h.2 (ts, ap (λ (x : TokenKind). x ∷ ts) (wrap_token word w), range_of_spelt ts h.0 h.1)

long_type_by : (word : TokenKind) (ts : List TokenKind) (t : TypeUse)
    → ((is_wrap word ≡ true) × (option_map wrap_of (range_of ts) ≡ Some t)) ⊎ ((is_wrap word ≡ false) × (option_map range_use (range_of (word ∷ ts)) ≡ Some t)) → IsType (word ∷ ts) t
long_type_by word ts t (inl (w, e)) = wrap_use_spelt word ts t w e
long_type_by word ts t (inr (w, e)) = range_use_spelt (word ∷ ts) t e

type_of_spelt : (ts : List TokenKind) (t : TypeUse) → type_of ts ≡ Some t → IsType ts t
type_of_spelt [] t e = cc
type_of_spelt (word ∷ []) t e = word_type_spelt word t e
type_of_spelt (word ∷ second ∷ rest) t e =
    long_type_by word (second ∷ rest) t (choice (is_wrap word) (option_map wrap_of (range_of (second ∷ rest))) (option_map range_use (range_of (word ∷ second ∷ rest))) t e)

-- the names of an enumeration and the parenthesis behind them
abbrev AreNames : List TokenKind → List (List ℕ) → Type 0
AreNames ts names = (first : List ℕ) × (others : List (List ℕ)) × (names ≡ first ∷ others) × (ts ≡ listed first others ++ Symbol s.RightParen ∷ [])

-- the tokens of two names and more, and of one name
more_names : (word mark : TokenKind) (rest : List TokenKind) (name first : List ℕ) (others : List (List ℕ)) → word ≡ Ident name → mark ≡ Symbol s.Comma
    → rest ≡ listed first others ++ Symbol s.RightParen ∷ [] → word ∷ mark ∷ rest ≡ listed name (first ∷ others) ++ Symbol s.RightParen ∷ []
more_names word mark rest name first others w m r = rw (w, m, r) refl

one_name : (word mark : TokenKind) (rest : List TokenKind) (name : List ℕ) → word ≡ Ident name → mark ≡ Symbol s.RightParen
    → rest ≡ [] → word ∷ mark ∷ rest ≡ listed name [] ++ Symbol s.RightParen ∷ []
one_name word mark rest name w m r = rw (w, m, r) refl

names_by_mark : (word mark : TokenKind) (rest : List TokenKind) (name : List ℕ) (names : List (List ℕ)) → word ≡ Ident name
    → ((ms : List (List ℕ)) → names_of rest ≡ Some ms → AreNames rest ms)
    → ((is_comma mark ≡ true) × (option_map (λ ms. name ∷ ms) (names_of rest) ≡ Some names))
    ⊎ ((is_comma mark ≡ false) × ((if is_right mark && is_end rest then Some (name ∷ []) else None) ≡ Some names))
    → AreNames (word ∷ mark ∷ rest) names
names_by_mark word mark rest name names w others_spelt (inl (m, e)) =
    let h = map_some (names_of rest) (λ ms. name ∷ ms) names e in
    let g = others_spelt h.0 h.1 in
    (name, g.0 ∷ g.1, sym h.2 ∙ ap (λ (ms : List (List ℕ)). name ∷ ms) g.2, more_names word mark rest name g.0 g.1 w (comma_token mark m) g.3)
names_by_mark word mark rest name names w others_spelt (inr (m, e)) =
    let h = if_some (is_right mark && is_end rest) (name ∷ []) names e in
    let g = both_true (is_right mark) (is_end rest) h.0 in
    (name, [], sym h.1, one_name word mark rest name w (right_token mark g.0) (no_token rest g.1))

names_of_spelt : (ts : List TokenKind) (names : List (List ℕ)) → names_of ts ≡ Some names → AreNames ts names
names_of_spelt [] names e = cc
names_of_spelt (word ∷ []) names e = cc
names_of_spelt (word ∷ mark ∷ rest) names e =
    let h = bind_some (name_in word) (λ name. if is_comma mark then option_map (λ ms. name ∷ ms) (names_of rest) else (if is_right mark && is_end rest then Some (name ∷ []) else None)) names e in
    names_by_mark word mark rest h.0 names (name_token word h.0 h.1) (λ ms f. names_of_spelt rest ms f)
    (choice (is_comma mark) (option_map (λ ms. h.0 ∷ ms) (names_of rest)) (if is_right mark && is_end rest then Some (h.0 ∷ []) else None) names h.2)

-- the tokens of the definition of a type
abbrev type_tokens : List ℕ → List TokenKind → List TokenKind
type_tokens name ts = Key k.KwType ∷ Ident name ∷ Symbol s.Equal ∷ ts

range_definition_spelt : (name : List ℕ) (ts : List TokenKind) (t : Statement) → option_map (range_type_of name) (range_of ts) ≡ Some t → Spells t (type_tokens name ts)
range_definition_spelt name ts t e =
    let h = map_some (range_of ts) (range_type_of name) t e in
    subst (λ (u : Statement). Spells u (type_tokens name ts)) h.2 (ts, refl, range_of_spelt ts h.0 h.1)

wrap_definition_spelt : (name : List ℕ) (word : TokenKind) (ts : List TokenKind) (t : Statement) → is_wrap word ≡ true → option_map (wrap_type_of name) (range_of ts) ≡ Some t
    → Spells t (type_tokens name (word ∷ ts))
wrap_definition_spelt name word ts t w e =
    let h = map_some (range_of ts) (wrap_type_of name) t e in
    subst (λ (u : Statement). Spells u (type_tokens name (word ∷ ts))) h.2 (ts, ap (λ (x : TokenKind). type_tokens name (x ∷ ts)) (wrap_token word w), range_of_spelt ts h.0 h.1)

enum_tokens : (name : List ℕ) (word : TokenKind) (ts names : List TokenKind) → word ≡ Symbol s.LeftParen → ts ≡ names → type_tokens name (word ∷ ts) ≡ type_tokens name (Symbol s.LeftParen ∷ names)
enum_tokens name word ts names w e = rw (w, e) refl

enum_definition_spelt : (name : List ℕ) (word : TokenKind) (ts : List TokenKind) (t : Statement) → is_left word ≡ true → option_map (λ values. enum_type name values) (names_of ts) ≡ Some t
    → Spells t (type_tokens name (word ∷ ts))
enum_definition_spelt name word ts t w e =
    let h = map_some (names_of ts) (λ values. enum_type name values) t e in
    let g = names_of_spelt ts h.0 h.1 in
    subst (λ (u : Statement). Spells u (type_tokens name (word ∷ ts))) h.2 (g.0, g.1, g.2, enum_tokens name word ts (listed g.0 g.1 ++ Symbol s.RightParen ∷ []) (left_token word w) g.3)

definition_else : (name : List ℕ) (word : TokenKind) (ts : List TokenKind) (t : Statement)
    → ((is_wrap word ≡ true) × (option_map (wrap_type_of name) (range_of ts) ≡ Some t)) ⊎ ((is_wrap word ≡ false) × (option_map (range_type_of name) (range_of (word ∷ ts)) ≡ Some t))
    → Spells t (type_tokens name (word ∷ ts))
definition_else name word ts t (inl (w, e)) = wrap_definition_spelt name word ts t w e
definition_else name word ts t (inr (w, e)) = range_definition_spelt name (word ∷ ts) t e

definition_by : (name : List ℕ) (word : TokenKind) (ts : List TokenKind) (t : Statement)
    → ((is_left word ≡ true) × (option_map (λ values. enum_type name values) (names_of ts) ≡ Some t))
    ⊎ ((is_left word ≡ false) × ((if is_wrap word then option_map (wrap_type_of name) (range_of ts) else option_map (range_type_of name) (range_of (word ∷ ts))) ≡ Some t))
    → Spells t (type_tokens name (word ∷ ts))
definition_by name word ts t (inl (l, e)) = enum_definition_spelt name word ts t l e
definition_by name word ts t (inr (l, e)) = definition_else name word ts t (choice (is_wrap word) (option_map (wrap_type_of name) (range_of ts)) (option_map (range_type_of name) (range_of (word ∷ ts))) t e)

definition_spelt : (name : List ℕ) (ts : List TokenKind) (t : Statement) → definition name ts ≡ Some t → Spells t (type_tokens name ts)
definition_spelt name [] t e = cc
definition_spelt name (word ∷ ts) t e =
    definition_by name word ts t (choice (is_left word) (option_map (λ values. enum_type name values) (names_of ts))
    (if is_wrap word then option_map (wrap_type_of name) (range_of ts) else option_map (range_type_of name) (range_of (word ∷ ts))) t e)

-- a name and `=` behind a keyword
equal_spelt : (word : Keyword) (ts : List TokenKind) (x : List ℕ × List TokenKind) → name_before is_equal ts ≡ Some x → Key word ∷ ts ≡ Key word ∷ Ident x.0 ∷ Symbol s.Equal ∷ x.1
equal_spelt word ts x e =
    let h = name_before_spelt is_equal ts x e in
    ap (λ (y : List TokenKind). Key word ∷ y) (h.1 ∙ ap (λ (t : TokenKind). Ident x.0 ∷ t ∷ x.1) (equal_token h.0 h.2))

colon_spelt : (word : Keyword) (ts : List TokenKind) (x : List ℕ × List TokenKind) → name_before is_colon ts ≡ Some x → Key word ∷ ts ≡ Key word ∷ Ident x.0 ∷ Symbol s.Colon ∷ x.1
colon_spelt word ts x e =
    let h = name_before_spelt is_colon ts x e in
    ap (λ (y : List TokenKind). Key word ∷ y) (h.1 ∙ ap (λ (t : TokenKind). Ident x.0 ∷ t ∷ x.1) (colon_token h.0 h.2))

-- a statement that is read is there
read_some : (t : Statement) (o : Option Statement) → Agrees t (reading_of o) → o ≡ Some t
read_some t None h = absurd h
read_some t (Some u) h = ap Some (sym h)

constant_spelt : (ts : List TokenKind) (t : Statement) → Agrees t (reading_of (constant_of ts)) → Spells t (Key k.KwConst ∷ ts)
constant_spelt ts t agrees =
    let h = bind_some (name_before is_equal ts) (λ x. option_map (λ value. constant_is x.0 value) (value_of x.1)) t (read_some t (constant_of ts) agrees) in
    let g = map_some (value_of h.0.1) (λ value. constant_is h.0.0 value) t h.2 in
    subst (λ (u : Statement). Spells u (Key k.KwConst ∷ ts)) g.2 (h.0.1, equal_spelt k.KwConst ts h.0 h.1, value_of_spelt h.0.1 g.0 g.1)

type_spelt : (ts : List TokenKind) (t : Statement) → Agrees t (reading_of (type_definition ts)) → Spells t (Key k.KwType ∷ ts)
type_spelt ts t agrees =
    let h = bind_some (name_before is_equal ts) (λ x. definition x.0 x.1) t (read_some t (type_definition ts) agrees) in
    subst (λ (y : List TokenKind). Spells t y) (sym (equal_spelt k.KwType ts h.0 h.1)) (definition_spelt h.0.0 h.0.1 t h.2)

variable_spelt : (m : Mode) (ts : List TokenKind) (t : Statement) → Agrees t (reading_of (variable_of m ts)) → Spells t (Key (mode_word m) ∷ ts)
variable_spelt m ts t agrees =
    let h = bind_some (name_before is_colon ts) (λ x. option_map (λ type. variable m x.0 type) (type_of x.1)) t (read_some t (variable_of m ts) agrees) in
    let g = map_some (type_of h.0.1) (λ type. variable m h.0.0 type) t h.2 in
    subst (λ (u : Statement). Spells u (Key (mode_word m) ∷ ts)) g.2 (h.0.1, colon_spelt (mode_word m) ts h.0 h.1, type_of_spelt h.0.1 g.0 g.1)

-- a name alone
named_spelt : (word : Keyword) (make : List ℕ → Statement) (ts : List TokenKind) (t : Statement) → Agrees t (named make ts)
    → (name : List ℕ) × (make name ≡ t) × (Key word ∷ ts ≡ Key word ∷ Ident name ∷ [])
named_spelt word make ts t agrees =
    let h = map_some (name_of ts) make t (read_some t (option_map make (name_of ts)) agrees) in
    (h.0, h.2, ap (λ (y : List TokenKind). Key word ∷ y) (name_of_spelt ts h.0 h.1))

-- nothing further
alone_spelt : (word : Keyword) (u : Statement) (ts : List TokenKind) (t : Statement) → Agrees t (alone u ts) → (u ≡ t) × (Key word ∷ ts ≡ Key word ∷ [])
alone_spelt word u [] t h = (sym h, refl)
alone_spelt word u (first ∷ rest) t h = absurd h

exit_by : (first : TokenKind) (rest : List TokenKind) (t : Statement) (b : Bool) → is_when first ≡ b → Agrees t (if b then around exit_when rest else nothing)
    → Spells t (Key k.KwExit ∷ first ∷ rest)
exit_by first rest t true e h = rw h.2 (rest, ap (λ (x : TokenKind). Key k.KwExit ∷ x ∷ rest) (when_token first e), h.1)
exit_by first rest t false e h = absurd h

exit_spelt : (ts : List TokenKind) (t : Statement) → Agrees t (exit_of ts) → Spells t (Key k.KwExit ∷ ts)
exit_spelt [] t h = rw h refl
exit_spelt (first ∷ rest) t h = exit_by first rest t (is_when first) refl h

call_by : (ts : List TokenKind) (o : Option (List ℕ × List TokenKind)) (t : Statement) → name_at ts ≡ o → Agrees t (call_with o) → Spells t (Key k.KwCall ∷ ts)
call_by ts None t e h = absurd h
call_by ts (Some x) t e h = rw h.2 (x.1, ap (λ (y : List TokenKind). Key k.KwCall ∷ y) (name_at_spelt ts x e), h.1)

assignment_by : (name : List ℕ) (first : TokenKind) (rest : List TokenKind) (t : Statement) (b : Bool) → is_becomes first ≡ b → Agrees t (if b then around (assign name) rest else nothing)
    → Spells t (Ident name ∷ first ∷ rest)
assignment_by name first rest t true e h = rw h.2 (rest, ap (λ (x : TokenKind). Ident name ∷ x ∷ rest) (becomes_token first e), h.1)
assignment_by name first rest t false e h = absurd h

assignment_spelt : (name : List ℕ) (ts : List TokenKind) (t : Statement) → Agrees t (assignment name ts) → Spells t (Ident name ∷ ts)
assignment_spelt name [] t h = absurd h
assignment_spelt name (first ∷ rest) t h = assignment_by name first rest t (is_becomes first) refl h

keyed_spelt : (word : Keyword) (ts : List TokenKind) (t : Statement) → Agrees t (keyed word ts) → Spells t (Key word ∷ ts)
keyed_spelt k.KwTitle ts t h = let g = named_spelt k.KwTitle title ts t h in subst (λ (u : Statement). Spells u (Key k.KwTitle ∷ ts)) g.1 g.2
keyed_spelt k.KwConst ts t h = constant_spelt ts t h
keyed_spelt k.KwType ts t h = type_spelt ts t h
keyed_spelt k.KwProc ts t h = let g = named_spelt k.KwProc procedure ts t h in subst (λ (u : Statement). Spells u (Key k.KwProc ∷ ts)) g.1 g.2
keyed_spelt k.KwIn ts t h = variable_spelt mode.Input ts t h
keyed_spelt k.KwInout ts t h = variable_spelt mode.InOut ts t h
keyed_spelt k.KwOut ts t h = variable_spelt mode.Output ts t h
keyed_spelt k.KwLocal ts t h = variable_spelt mode.Local ts t h
keyed_spelt k.KwPre ts t h = rw h.2 (ts, refl, h.1)
keyed_spelt k.KwPost ts t h = rw h.2 (ts, refl, h.1)
keyed_spelt k.KwIf ts t h = rw h.2 (ts, refl, h.1)
keyed_spelt k.KwElse ts t h = let g = alone_spelt k.KwElse otherwise ts t h in subst (λ (u : Statement). Spells u (Key k.KwElse ∷ ts)) g.0 g.1
keyed_spelt k.KwEndif ts t h = let g = alone_spelt k.KwEndif end_if ts t h in subst (λ (u : Statement). Spells u (Key k.KwEndif ∷ ts)) g.0 g.1
keyed_spelt k.KwLoop ts t h = let g = alone_spelt k.KwLoop loop ts t h in subst (λ (u : Statement). Spells u (Key k.KwLoop ∷ ts)) g.0 g.1
keyed_spelt k.KwEndloop ts t h = let g = alone_spelt k.KwEndloop end_loop ts t h in subst (λ (u : Statement). Spells u (Key k.KwEndloop ∷ ts)) g.0 g.1
keyed_spelt k.KwExit ts t h = exit_spelt ts t h
keyed_spelt k.KwLabel ts t h = let g = named_spelt k.KwLabel label ts t h in subst (λ (u : Statement). Spells u (Key k.KwLabel ∷ ts)) g.1 g.2
keyed_spelt k.KwGoto ts t h = let g = named_spelt k.KwGoto goto ts t h in subst (λ (u : Statement). Spells u (Key k.KwGoto ∷ ts)) g.1 g.2
keyed_spelt k.KwCall ts t h = call_by ts (name_at ts) t refl h
keyed_spelt k.KwSkip ts t h = let g = alone_spelt k.KwSkip skip ts t h in subst (λ (u : Statement). Spells u (Key k.KwSkip ∷ ts)) g.0 g.1
keyed_spelt k.KwAssert ts t h = rw h.2 (ts, refl, h.1)
keyed_spelt k.KwReturn ts t h = let g = alone_spelt k.KwReturn return ts t h in subst (λ (u : Statement). Spells u (Key k.KwReturn ∷ ts)) g.0 g.1
keyed_spelt k.KwEndproc ts t h = let g = alone_spelt k.KwEndproc end_procedure ts t h in subst (λ (u : Statement). Spells u (Key k.KwEndproc ∷ ts)) g.0 g.1
keyed_spelt k.KwFinish ts t h = let g = alone_spelt k.KwFinish finish ts t h in subst (λ (u : Statement). Spells u (Key k.KwFinish ∷ ts)) g.0 g.1
keyed_spelt _ ts t h = absurd h

-- what is read as a statement spells it
pub read_spelt : (t : Statement) (tokens : List TokenKind) → Agrees t (reading tokens) → Spells t tokens
read_spelt t [] h = absurd h
read_spelt t (Key word ∷ rest) h = keyed_spelt word rest t h
read_spelt t (Ident name ∷ rest) h = assignment_spelt name rest t h
read_spelt t (Number n ∷ rest) h = absurd h
read_spelt t (Symbol x ∷ rest) h = absurd h
