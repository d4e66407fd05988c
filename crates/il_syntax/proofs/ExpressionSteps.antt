-- The steps of the reading of an expression, and that it doesn't depend on its counts.
use Rattle.std.proofs.Common.{◌≡◌, ◌≢◌, ℕ, zero, suc, ◌+◌, ◌-◌, ◌<◌, ◌≤◌, nat_le, cond, Bool, true, false, List, Option, Some, None, Err, refl, ap, ◌∙◌, arith, add-one}
use Rattle.std.proofs.lemmas.Bool.{leb-true, le-leb, lt-leb}
use Rattle.il_core.specs.declared.operator.BinOp.{BinOp}
use Rattle.il_core.specs.declared.token.TokenKind.{TokenKind}
use Rattle.il_syntax.specs.Expression.{own_level}
use Rattle.il_syntax.specs.ExpressionReading.{Reading, Found, Reader, ◌>>=◌, Gives, joined, next_operator, one_operator, first_operand, further, climb}
use Rattle.il_syntax.specs.declared.expression.ExpressionEnd.{ExpressionEnd}
use Rattle.il_syntax.specs.declared.expression.ExpressionEnd.TheVariants as end

-- a failure goes through the steps behind it
pub fails_bind : (e : ExpressionEnd) (found : Found) (f : Reading × List TokenKind → Found) → Gives (Err e) found → Gives (Err e) (found >>= f)
fails_bind end.NoForm found f h = ap (λ o. o >>= f) h
fails_bind end.NoMemory found f h = tt

-- equal continuations give equal answers
pub bind_same : (found : Found) (f g : Reading × List TokenKind → Found) → ((x : Reading × List TokenKind) → f x ≡ g x) → (found >>= f) ≡ (found >>= g)
bind_same None f g h = refl
bind_same (Some x) f g h = h x

-- only the side that is taken counts
cond_same : (b : Bool) (x y z : Found) → (b ≡ true → x ≡ y) → cond b x z ≡ cond b y z
cond_same true x y z h = h refl
cond_same false x y z h = refl

-- no room, nothing is read
pub climb-none : (room least : ℕ) (ts : List TokenKind) → room ≡ 0 → climb room least ts ≡ None
unfolding climb
climb-none room least ts e = ap (λ n. climb n least ts) e

-- with room, the first operand and what follows it are read
pub climb-suc : (room least : ℕ) (ts : List TokenKind) → climb (suc room) least ts ≡ (first_operand (climb room) least ts >>= (λ x. further (climb room) (room + 1) room least x.0 x.1))
unfolding climb
climb-suc room least ts = refl

pub climb-some : (room least : ℕ) (ts : List TokenKind) → room ≢ 0 → climb room least ts ≡ (first_operand (climb (room - 1)) least ts >>= (λ x. further (climb (room - 1)) (room - 1 + 1) (room - 1) least x.0 x.1))
climb-some zero least ts h = absurd (h refl)
climb-some (suc room) least ts h = let e : suc room - 1 ≡ room = omega arith in rw e (climb-suc room least ts)

module _ (inner : Reader) (room least : ℕ) where
  -- the reading ends where no operator comes
  pub further-ends : (n : ℕ) (x : Reading) (ts : List TokenKind) → next_operator least x.level ts ≡ None → further inner n room least x ts ≡ Some (x, ts)
  unfolding further
  further-ends zero x ts e = ap (one_operator (λ _ _. None) inner room x ts) e
  further-ends (suc n) x ts e = ap (one_operator (further inner n room least) inner room x ts) e

  -- an operator behind a left side that is too deep is refused
  pub further-full : (n : ℕ) (x : Reading) (ts : List TokenKind) (next : BinOp × List TokenKind) → next_operator least x.level ts ≡ Some next → room < x.depth → further inner n room least x ts ≡ None
  unfolding further
  further-full zero x ts next e h = ap (one_operator (λ _ _. None) inner room x ts) e ∙ ap (λ b. cond b (inner (own_level next.0 + 1) next.1 >>= (λ y. None)) None) (lt-leb x.depth room h)
  further-full (suc n) x ts next e h = ap (one_operator (further inner n room least) inner room x ts) e ∙ ap (λ b. cond b (inner (own_level next.0 + 1) next.1 >>= (λ y. further inner n room least (joined next.0 x y.0) y.1)) None) (lt-leb x.depth room h)

  further-goes_suc : (n : ℕ) (x : Reading) (ts : List TokenKind) (next : BinOp × List TokenKind) → next_operator least x.level ts ≡ Some next → x.depth ≤ room
      → further inner (suc n) room least x ts ≡ (inner (own_level next.0 + 1) next.1 >>= (λ y. further inner n room least (joined next.0 x y.0) y.1))
  unfolding further
  further-goes_suc n x ts next e h = ap (one_operator (further inner n room least) inner room x ts) e ∙ ap (λ b. cond b (inner (own_level next.0 + 1) next.1 >>= (λ y. further inner n room least (joined next.0 x y.0) y.1)) None) (le-leb x.depth room h)

  -- an operator that comes is read with its right side
  pub further-goes : (n : ℕ) (x : Reading) (ts : List TokenKind) (next : BinOp × List TokenKind) → next_operator least x.level ts ≡ Some next → x.depth ≤ room
      → further inner (n + 1) room least x ts ≡ (inner (own_level next.0 + 1) next.1 >>= (λ y. further inner n room least (joined next.0 x y.0) y.1))
  further-goes n x ts next e h = ap (λ m. further inner m room least x ts) (add-one n) ∙ further-goes_suc n x ts next e h

  -- one operator is read alike if what follows is
  one_same : (after after' : Reading → List TokenKind → Found) (x : Reading) (ts : List TokenKind) (next : Option (BinOp × List TokenKind))
      → ((op : BinOp) (y : Reading) (rest : List TokenKind) → x.depth ≤ room → after (joined op x y) rest ≡ after' (joined op x y) rest)
      → one_operator after inner room x ts next ≡ one_operator after' inner room x ts next
  one_same after after' x ts None h = refl
  one_same after after' x ts (Some c) h = cond_same (nat_le x.depth room) _ _ None (λ e. bind_same (inner (own_level c.0 + 1) c.1) _ _ (λ y. h c.0 y.0 y.1 (leb-true _ _ e)))

  -- the count does not matter where it is high enough
  pub same_count : (n m : ℕ) (x : Reading) (ts : List TokenKind) → room < x.depth + n → room < x.depth + m → further inner n room least x ts ≡ further inner m room least x ts
  unfolding further
  same_count zero zero x ts h k = refl
  same_count zero (suc m) x ts h k = one_same (λ _ _. None) (further inner m room least) x ts (next_operator least x.level ts) (λ op y rest le. absurd (omega arith))
  same_count (suc n) zero x ts h k = one_same (further inner n room least) (λ _ _. None) x ts (next_operator least x.level ts) (λ op y rest le. absurd (omega arith))
  same_count (suc n) (suc m) x ts h k = one_same (further inner n room least) (further inner m room least) x ts (next_operator least x.level ts) (λ op y rest le. same_count n m (joined op x y) rest (omega arith) (omega arith))
