-- What is read is written: the tokens that the reader passes spell an expression of the asked level and depth.
use Rattle.std.proofs.Common.{◌≡◌, ℕ, zero, suc, ◌+◌, ◌≤◌, nat_le, ◌&&◌, cond, Bool, true, false, List, [], ◌∷◌, ◌++◌, Option, Some, None, refl, sym, ap, subst, ◌∙◌, arith, append_assoc}
use Rattle.std.proofs.lemmas.Bool.{leb-true}
use Rattle.il_core.specs.declared.operator.BinOp.{BinOp}
use Rattle.il_core.specs.declared.operator.BinOp.TheVariants.{Add, Sub, Mul, Div, Mod, Compare, And, Or}
use Rattle.il_core.specs.declared.token.Keyword.TheVariants as k
use Rattle.il_core.specs.declared.token.Symbol.TheVariants as s
use Rattle.il_core.specs.declared.token.TokenKind.{TokenKind}
use Rattle.il_core.specs.declared.token.TokenKind.TheVariants as kind
use Rattle.il_syntax.specs.Expression.{Written, number, word, former, constant, enclosed, minus, opposite, two, IsLevelled, level, depth, spelling, own_level, left_level, operator_kind}
use Rattle.il_syntax.specs.ExpressionReading.{Reading, Found, Reader, ◌>>=◌, enclosing, negated, opposed, joined, operator_of, fitting, next_operator, leading, closed, former_at, one_operator, first_operand, further, climb}
use Rattle.il_syntax.proofs.ExpressionSteps.{climb-none, climb-suc}
use Rattle.il_syntax.proofs.ExpressionRead.{seen}

-- in front of `rest` the tokens spell an expression that is seen as `x`
pub record Reads (room least : ℕ) (ts : List TokenKind) (x : Reading) (rest : List TokenKind) : Type 0 where
  pub written : Written
  pub levelled : IsLevelled written
  pub high : least ≤ level written
  pub shallow : depth written ≤ room
  pub seen_as : seen written ≡ x
  pub spelt : spelling written ++ rest ≡ ts

-- nothing is not something
pub none_some : {A : Type 0} {x : A} → ◌≡◌ {A = Option A} None (Some x) → ⊥
none_some h = cc

-- one answer has one value
pub some_some : {A : Type 0} {x y : A} → ◌≡◌ {A = Option A} (Some x) (Some y) → x ≡ y
some_some h = cc

-- what an answer behind a step comes from
bind_some : (found : Found) (f : Reading × List TokenKind → Found) (y : Reading × List TokenKind) → (found >>= f) ≡ Some y → (x : Reading × List TokenKind) × (found ≡ Some x) × (f x ≡ Some y)
bind_some None f y h = absurd (none_some h)
bind_some (Some x) f y h = (x, refl, h)

-- what comes of a test that lets an answer through
cond_then : (b : Bool) (found : Found) (y : Reading × List TokenKind) → cond b found None ≡ Some y → (b ≡ true) × (found ≡ Some y)
cond_then true found y h = (refl, h)
cond_then false found y h = absurd (none_some h)

-- an operator is of level 5 at most
own-le-five : (op : BinOp) → own_level op ≤ 5
own-le-five Add = omega arith
own-le-five Sub = omega arith
own-le-five Mul = omega arith
own-le-five Div = omega arith
own-le-five Mod = omega arith
own-le-five (Compare r) = omega arith
own-le-five And = omega arith
own-le-five Or = omega arith

-- a token that is read as an operator is that operator's
operator_kind-of : (t : TokenKind) (op : BinOp) → operator_of t ≡ Some op → t ≡ operator_kind op
operator_kind-of (kind.Key k.KwOr) op h = ap operator_kind (some_some h)
operator_kind-of (kind.Key k.KwAnd) op h = ap operator_kind (some_some h)
operator_kind-of (kind.Key k.KwDiv) op h = ap operator_kind (some_some h)
operator_kind-of (kind.Key k.KwMod) op h = ap operator_kind (some_some h)
operator_kind-of (kind.Symbol s.Plus) op h = ap operator_kind (some_some h)
operator_kind-of (kind.Symbol s.Minus) op h = ap operator_kind (some_some h)
operator_kind-of (kind.Symbol s.Times) op h = ap operator_kind (some_some h)
operator_kind-of (kind.Symbol s.Equal) op h = ap operator_kind (some_some h)
operator_kind-of (kind.Symbol s.Unequal) op h = ap operator_kind (some_some h)
operator_kind-of (kind.Symbol s.Less) op h = ap operator_kind (some_some h)
operator_kind-of (kind.Symbol s.AtMost) op h = ap operator_kind (some_some h)
operator_kind-of (kind.Symbol s.Greater) op h = ap operator_kind (some_some h)
operator_kind-of (kind.Symbol s.AtLeast) op h = ap operator_kind (some_some h)
operator_kind-of _ op h = absurd (none_some h)

-- what comes of two tests that let an answer through
cond_some : {A : Type 0} (a b : Bool) (x y : A) → ◌≡◌ {A = Option A} (cond (a && b) (Some x) None) (Some y) → (a ≡ true) × (b ≡ true) × (x ≡ y)
cond_some true true x y h = (refl, refl, some_some h)
cond_some true false x y h = absurd (none_some h)
cond_some false b x y h = absurd (none_some h)

-- what is known of an operator that comes
record Comes (least left : ℕ) (ts : List TokenKind) (next : BinOp × List TokenKind) : Type 0 where
  asked : least ≤ own_level next.0
  above : left_level next.0 ≤ left
  at_front : ts ≡ operator_kind next.0 ∷ next.1

-- an operator that fits comes
fitting-some : (least left : ℕ) (t : TokenKind) (ts : List TokenKind) (o : Option BinOp) (next : BinOp × List TokenKind) → operator_of t ≡ o → fitting least left ts o ≡ Some next → Comes least left (t ∷ ts) next
fitting-some least left t ts None next e h = absurd (none_some h)
fitting-some least left t ts (Some op) next e h =
    let parts = cond_some (nat_le least (own_level op)) (nat_le (left_level op) left) (op, ts) next h in
    subst (Comes least left (t ∷ ts)) parts.2
    (record {
      asked = leb-true _ _ parts.0;
      above = leb-true _ _ parts.1;
      at_front = ap (λ x. x ∷ ts) (operator_kind-of t op e);
    })

-- an operator that is found comes
next_operator-comes : (least left : ℕ) (ts : List TokenKind) (next : BinOp × List TokenKind) → next_operator least left ts ≡ Some next → Comes least left ts next
next_operator-comes least left [] next h = absurd (none_some h)
next_operator-comes least left (t ∷ ts) next h = fitting-some least left t ts (operator_of t) next refl h

-- a closing parenthesis stands where one is passed
closed-some : (x : Reading) (ts : List TokenKind) (y : Reading × List TokenKind) → closed x ts ≡ Some y → (ts ≡ kind.Symbol s.RightParen ∷ y.1) × (enclosing x ≡ y.0)
closed-some x (kind.Symbol s.RightParen ∷ ts) y h = let e = some_some h in (ap (λ p. kind.Symbol s.RightParen ∷ p.1) e, ap (λ p. p.0) e)
closed-some x _ y h = absurd (none_some h)

-- what a leading minus or NOT is read from
leading-some : (b : Bool) (make : Reading → Reading) (found : Found) (y : Reading × List TokenKind) → leading b make found ≡ Some y → (b ≡ true) × (x : Reading × List TokenKind) × (found ≡ Some x) × (make x.0 ≡ y.0) × (x.1 ≡ y.1)
leading-some true make found y h =
    let b = bind_some found (λ x. Some (make x.0, x.1)) y h in
    let e = some_some b.2 in
    (refl, b.0, b.1, ap (λ p. p.0) e, ap (λ p. p.1) e)
leading-some false make found y h = absurd (none_some h)

-- a leaf that is read is written
leaf_reads : (w : Written) (room least : ℕ) (rest : List TokenKind) (x : Reading × List TokenKind) → IsLevelled w → least ≤ level w → depth w ≤ room → ◌≡◌ {A = Found} (Some (seen w, rest)) (Some x) → Reads room least (spelling w ++ rest) x.0 x.1
leaf_reads w room least rest x levelled high shallow h =
    let e = some_some h in
    record {
      written = w;
      levelled = levelled;
      high = high;
      shallow = shallow;
      seen_as = ap (λ p. p.0) e;
      spelt = ap (λ p. spelling w ++ p.1) (sym e);
    }

-- a name behind OLD that is read is written
former-reads : (room least : ℕ) (ts : List TokenKind) (x : Reading × List TokenKind) → least ≤ 6 → former_at ts ≡ Some x → Reads (suc room) least (kind.Key k.KwOld ∷ ts) x.0 x.1
former-reads room least (kind.Ident name ∷ ts) x h e = leaf_reads (former name) (suc room) least ts x tt h (omega arith) e
former-reads room least _ x h e = absurd (none_some e)

module _ (room : ℕ) (inner : Reader) (claim : (least : ℕ) (ts : List TokenKind) (x : Reading × List TokenKind) → least ≤ 6 → inner least ts ≡ Some x → Reads room least ts x.0 x.1) where
  -- parentheses that are read are written
  enclosed-reads : (least : ℕ) (ts : List TokenKind) (x : Reading × List TokenKind) → least ≤ 6 → (inner 0 ts >>= (λ y. closed y.0 y.1)) ≡ Some x → Reads (suc room) least (kind.Symbol s.LeftParen ∷ ts) x.0 x.1
  enclosed-reads least ts x h e =
      let b = bind_some (inner 0 ts) (λ y. closed y.0 y.1) x e in
      let r = claim 0 ts b.0 (omega arith) b.1 in
      let c = closed-some b.0.0 b.0.1 x b.2 in
      record {
        written = enclosed r.written;
        levelled = r.levelled;
        high = h;
        shallow = let k = r.shallow in omega arith;
        seen_as = ap enclosing r.seen_as ∙ c.1;
        spelt = ap (λ us. kind.Symbol s.LeftParen ∷ us)
            (append_assoc (spelling r.written) (kind.Symbol s.RightParen ∷ []) x.1 ∙ ap (λ us. spelling r.written ++ us) (sym c.0) ∙ r.spelt);
      }

  -- a leading minus that is read is written
  minus-reads : (least : ℕ) (ts : List TokenKind) (x : Reading × List TokenKind) → leading (nat_le least 4) negated (inner 5 ts) ≡ Some x → Reads (suc room) least (kind.Symbol s.Minus ∷ ts) x.0 x.1
  minus-reads least ts x e =
      let b = leading-some (nat_le least 4) negated (inner 5 ts) x e in
      let r = claim 5 ts b.1 (omega arith) b.2 in
      record {
        written = minus r.written;
        levelled = (r.high, r.levelled);
        high = leb-true least 4 b.0;
        shallow = let k = r.shallow in omega arith;
        seen_as = ap negated r.seen_as ∙ b.3;
        spelt = ap (λ us. kind.Symbol s.Minus ∷ us) (ap (λ us. spelling r.written ++ us) (sym b.4) ∙ r.spelt);
      }

  -- NOT that is read is written
  opposite-reads : (least : ℕ) (ts : List TokenKind) (x : Reading × List TokenKind) → leading (nat_le least 2) opposed (inner 2 ts) ≡ Some x → Reads (suc room) least (kind.Key k.KwNot ∷ ts) x.0 x.1
  opposite-reads least ts x e =
      let b = leading-some (nat_le least 2) opposed (inner 2 ts) x e in
      let r = claim 2 ts b.1 (omega arith) b.2 in
      record {
        written = opposite r.written;
        levelled = (r.high, r.levelled);
        high = leb-true least 2 b.0;
        shallow = let k = r.shallow in omega arith;
        seen_as = ap opposed r.seen_as ∙ b.3;
        spelt = ap (λ us. kind.Key k.KwNot ∷ us) (ap (λ us. spelling r.written ++ us) (sym b.4) ∙ r.spelt);
      }

  -- the first operand is written
  first_operand-reads : (least : ℕ) (ts : List TokenKind) (x : Reading × List TokenKind) → least ≤ 6 → first_operand inner least ts ≡ Some x → Reads (suc room) least ts x.0 x.1
  first_operand-reads least [] x h e = absurd (none_some e)
  first_operand-reads least (kind.Number n ∷ ts) x h e = leaf_reads (number n) (suc room) least ts x tt h (omega arith) e
  first_operand-reads least (kind.Ident name ∷ ts) x h e = leaf_reads (word name) (suc room) least ts x tt h (omega arith) e
  first_operand-reads least (kind.Key k.KwOld ∷ ts) x h e = former-reads room least ts x h e
  first_operand-reads least (kind.Key k.KwTrue ∷ ts) x h e = leaf_reads (constant true) (suc room) least ts x tt h (omega arith) e
  first_operand-reads least (kind.Key k.KwFalse ∷ ts) x h e = leaf_reads (constant false) (suc room) least ts x tt h (omega arith) e
  first_operand-reads least (kind.Key k.KwNot ∷ ts) x h e = opposite-reads least ts x e
  first_operand-reads least (kind.Symbol s.LeftParen ∷ ts) x h e = enclosed-reads least ts x h e
  first_operand-reads least (kind.Symbol s.Minus ∷ ts) x h e = minus-reads least ts x e
  first_operand-reads least (_ ∷ ts) x h e = absurd (none_some e)

  -- an operator joins what is written
  joined-reads : (least : ℕ) (all : List TokenKind) (x : Reading) (ts : List TokenKind) (next : BinOp × List TokenKind) (y : Reading × List TokenKind)
      → Reads (suc room) least all x ts → Comes least x.level ts next → x.depth ≤ room → Reads room (own_level next.0 + 1) next.1 y.0 y.1
      → Reads (suc room) least all (joined next.0 x y.0) y.1
  joined-reads least all x ts next y l c deep r =
      let left_level-is = ap (λ v. v.level) l.seen_as in
      let left_depth-is = ap (λ v. v.depth) l.seen_as in
      record {
        written = two next.0 l.written r.written;
        levelled = (subst (λ n. left_level next.0 ≤ n) (sym left_level-is) c.above, r.high, l.levelled, r.levelled);
        high = c.asked;
        shallow = let k = r.shallow in omega arith;
        seen_as = ap (λ v. joined next.0 v (seen r.written)) l.seen_as ∙ ap (joined next.0 x) r.seen_as;
        spelt = append_assoc (spelling l.written) (operator_kind next.0 ∷ spelling r.written) y.1
            ∙ ap (λ us. spelling l.written ++ operator_kind next.0 ∷ us) r.spelt
            ∙ ap (λ us. spelling l.written ++ us) (sym c.at_front)
            ∙ l.spelt;
      }

  -- what one operator with its right side adds is written, if what follows is
  one_operator-reads : (after : Reading → List TokenKind → Found) (least : ℕ) (all : List TokenKind) (x : Reading) (ts : List TokenKind) (found : Reading × List TokenKind) (next : Option (BinOp × List TokenKind))
      → ((y : Reading) (rest : List TokenKind) → Reads (suc room) least all y rest → after y rest ≡ Some found → Reads (suc room) least all found.0 found.1)
      → Reads (suc room) least all x ts → next_operator least x.level ts ≡ next → one_operator after inner room x ts next ≡ Some found → Reads (suc room) least all found.0 found.1
  one_operator-reads after least all x ts found None h r n e = subst (λ p. Reads (suc room) least all p.0 p.1) (some_some e) r
  one_operator-reads after least all x ts found (Some next) h r n e =
      let g = cond_then (nat_le x.depth room) (inner (own_level next.0 + 1) next.1 >>= (λ y. after (joined next.0 x y.0) y.1)) found e in
      let b = bind_some (inner (own_level next.0 + 1) next.1) (λ y. after (joined next.0 x y.0) y.1) found g.1 in
      let c = next_operator-comes least x.level ts next n in
      let right = claim (own_level next.0 + 1) next.1 b.0 (omega (arith, own-le-five next.0)) b.1 in
      h (joined next.0 x b.0.0) b.0.1 (joined-reads least all x ts next b.0 r c (leb-true _ _ g.0) right) b.2

  -- the operators that follow are written
  further-reads : (n : ℕ) (least : ℕ) (all : List TokenKind) (x : Reading) (ts : List TokenKind) (found : Reading × List TokenKind)
      → Reads (suc room) least all x ts → further inner n room least x ts ≡ Some found → Reads (suc room) least all found.0 found.1
  unfolding further
  further-reads zero least all x ts found r e = one_operator-reads (λ _ _. None) least all x ts found (next_operator least x.level ts) (λ y rest z w. absurd (none_some w)) r refl e
  further-reads (suc n) least all x ts found r e = one_operator-reads (further inner n room least) least all x ts found (next_operator least x.level ts) (λ y rest z w. further-reads n least all y rest found z w) r refl e

-- what is read from the least level on is written
pub climb-reads : (room least : ℕ) (ts : List TokenKind) (x : Reading × List TokenKind) → least ≤ 6 → climb room least ts ≡ Some x → Reads room least ts x.0 x.1
climb-reads zero least ts x h e = absurd (none_some (sym (climb-none 0 least ts refl) ∙ e))
climb-reads (suc room) least ts x h e =
    let b = bind_some (first_operand (climb room) least ts) (λ y. further (climb room) (room + 1) room least y.0 y.1) x (sym (climb-suc room least ts) ∙ e) in
    let first = first_operand-reads room (climb room) (climb-reads room) least ts b.0 h b.1 in
    further-reads room (climb room) (climb-reads room) (room + 1) least ts b.0.0 b.0.1 x first b.2
