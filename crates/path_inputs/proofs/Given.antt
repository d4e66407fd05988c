-- The constraints of kept forms over n places are constraints over n unknowns, with small bounds.
use Rattle.std.proofs.Common.{◌≡◌, ◌≢◌, inl, inr, refl, subst, ℕ, ◌<◌, ◌≤◌, ◌^◌, ℤ, pos, negsuc, neg_ℤ, ◌+ℤ◌, ◌-ℤ◌, ◌<ℤ◌, [], ◌∷◌, Option, Some, None, unsigned_abs, arith}
use Rattle.std.proofs.lemmas.Int.{ints}
use Rattle.il_core.specs.LineGraph.{IsIn}
use Rattle.il_core.specs.declared.operator.Relation.{Relation}
use Rattle.il_core.specs.declared.operator.Relation.TheVariants.{Eq, Ne, Lt, Le, Gt, Ge}
use Rattle.il_core.proofs.Integers.{quotient-abs}
use Rattle.sym_simplify.specs.Literal.{LiteralForm, always, never, keep}
use Rattle.sym_simplify.specs.Places.{HasLiteralPlacesBelow}
use Rattle.sym_simplify.specs.Easy.{multiple_of, IsKept}
use Rattle.sym_simplify.specs.declared.easy.Multiple.{Multiple}
use Rattle.difference.specs.Constraints.{IsUnknown, IsGiven}
use Rattle.difference.specs.Answers.{IsSplit}
use Rattle.difference.specs.declared.constraint.Constraint.{Constraint}
use Rattle.difference.specs.declared.constraint.Split.{Split}
use Rattle.path_inputs.specs.Bounding.{at_most, at_least, relation_reading, multiple_reading, constraints_in, splits_in, constraints_of, splits_of}
use Rattle.path_inputs.proofs.Readings.{multiple-is}

module _ (n : ℕ) (m : Multiple) (above : pos 0 <ℤ m.coefficient) (left : m.left < n) (right : IsUnknown n m.right) where
  not-zero : m.coefficient ≢ pos 0
  not-zero e = omega (arith, ints)

  most-given : (b : ℤ) → unsigned_abs b ≤ 2 ^ 101 → IsGiven n (at_most m b)
  most-given b h = record { left = left; right = right; bound = omega (arith, quotient-abs b m.coefficient not-zero) }

  least-given : (b : ℤ) → unsigned_abs b ≤ 2 ^ 101 → IsGiven n (at_least m b)
  least-given b h = record { left = right; right = left; bound = let e : unsigned_abs (neg_ℤ b) ≡ unsigned_abs b = omega (arith, ints) in omega (arith, quotient-abs (neg_ℤ b) m.coefficient not-zero) }

  less-small : (b : ℤ) → unsigned_abs b ≤ 2 ^ 100 → unsigned_abs (b -ℤ pos 1) ≤ 2 ^ 101
  less-small b h = omega (arith, ints)

  more-small : (b : ℤ) → unsigned_abs b ≤ 2 ^ 100 → unsigned_abs (b +ℤ pos 1) ≤ 2 ^ 101
  more-small b h = omega (arith, ints)

  same-small : (b : ℤ) → unsigned_abs b ≤ 2 ^ 100 → unsigned_abs b ≤ 2 ^ 101
  same-small b h = omega arith

  one-given : (c d : Constraint) → IsGiven n c → IsIn (c ∷ []) d → IsGiven n d
  one-given c d h (inl e) = subst (IsGiven n) e h
  one-given c d h (inr k) = absurd k

  two-given : (c d e : Constraint) → IsGiven n c → IsGiven n d → IsIn (c ∷ d ∷ []) e → IsGiven n e
  two-given c d e h i (inl f) = subst (IsGiven n) f h
  two-given c d e h i (inr k) = one-given d e i k

  relation-given : (r : Relation) (b : ℤ) → unsigned_abs b ≤ 2 ^ 100 → (c : Constraint) → IsIn (constraints_in (relation_reading m r b)) c → IsGiven n c
  relation-given Eq b h c k = two-given (at_most m b) (at_least m b) c (most-given b (same-small b h)) (least-given b (same-small b h)) k
  relation-given Ne b h c k = absurd k
  relation-given Lt b h c k = one-given (at_most m (b -ℤ pos 1)) c (most-given (b -ℤ pos 1) (less-small b h)) k
  relation-given Le b h c k = one-given (at_most m b) c (most-given b (same-small b h)) k
  relation-given Gt b h c k = one-given (at_least m (b +ℤ pos 1)) c (least-given (b +ℤ pos 1) (more-small b h)) k
  relation-given Ge b h c k = one-given (at_least m b) c (least-given b (same-small b h)) k

  relation-split : (r : Relation) (b : ℤ) → unsigned_abs b ≤ 2 ^ 100 → (s : Split) → IsIn (splits_in (relation_reading m r b)) s → IsSplit n s
  relation-split Ne b h s (inl e) = subst (IsSplit n) e (record { low = most-given (b -ℤ pos 1) (less-small b h); high = least-given (b +ℤ pos 1) (more-small b h) })
  relation-split Ne b h s (inr k) = absurd k
  relation-split Eq b h s k = absurd k
  relation-split Lt b h s k = absurd k
  relation-split Le b h s k = absurd k
  relation-split Gt b h s k = absurd k
  relation-split Ge b h s k = absurd k

impossible-given : (n : ℕ) → IsGiven n (record { left = None; right = None; bound = negsuc 0 })
impossible-given n = record { left = tt; right = tt; bound = omega arith }

pub form-given : (n : ℕ) (f : LiteralForm) → IsKept f → HasLiteralPlacesBelow n f → (c : Constraint) → IsIn (constraints_of f) c → IsGiven n c
form-given n always k p c i = absurd i
form-given n never k p c (inl e) = subst (IsGiven n) e (impossible-given n)
form-given n never k p c (inr i) = absurd i
form-given n (keep t r b) k p c i = by_multiple (multiple_of t) refl i
  where
    by_multiple : (o : Option Multiple) → multiple_of t ≡ o → IsIn (constraints_in (multiple_reading o r b)) c → IsGiven n c
    by_multiple None e j = absurd j
    by_multiple (Some m) e j = let w = multiple-is t m e in relation-given n m (w.above k.2) (w.left n p) (w.right n p) r b k.4 c j

pub form-split : (n : ℕ) (f : LiteralForm) → IsKept f → HasLiteralPlacesBelow n f → (s : Split) → IsIn (splits_of f) s → IsSplit n s
form-split n always k p s i = absurd i
form-split n never k p s i = absurd i
form-split n (keep t r b) k p s i = by_multiple (multiple_of t) refl i
  where
    by_multiple : (o : Option Multiple) → multiple_of t ≡ o → IsIn (splits_in (multiple_reading o r b)) s → IsSplit n s
    by_multiple None e j = absurd j
    by_multiple (Some m) e j = let w = multiple-is t m e in relation-split n m (w.above k.2) (w.left n p) (w.right n p) r b k.4 s j
