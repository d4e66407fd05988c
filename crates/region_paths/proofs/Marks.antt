-- The marks of the heads: one for each line, set exactly at the heads.
use Rattle.std.proofs.Common.{◌≡◌, inl, inr, refl, sym, ap, ◌∙◌, ℕ, zero, suc, ◌<◌, eqb, Bool, true, false, ◌||◌, Some, List, [], ◌∷◌, ◌++◌, length, slice_get, arith}
use Rattle.std.proofs.lemmas.Bool.{cases_lt, eq-eqb}
use Rattle.std.proofs.lemmas.List.{length-append}
use Rattle.il_core.specs.LineGraph.{IsIn}
use Rattle.control_flow.specs.Control.{heads_of}
use Rattle.control_flow.specs.declared.control.LoopInfo.{LoopInfo}
use Rattle.region_paths.specs.Region.{is_head, head_marks}

pub length-head_marks : (n : ℕ) (loops : List LoopInfo) → length (head_marks n loops) ≡ n
length-head_marks zero loops = refl
length-head_marks (suc n) loops = omega (arith, length-append (head_marks n loops) (is_head loops n ∷ []), length-head_marks n loops)

-- an element of the left part of a list
slice_get-left : {X : Type 0} (xs ys : List X) (k : ℕ) → k < length xs → slice_get (xs ++ ys) k ≡ slice_get xs k
slice_get-left [] ys k h = absurd (omega arith)
slice_get-left (x ∷ xs) ys zero h = refl
slice_get-left (x ∷ xs) ys (suc k) h = slice_get-left xs ys k (omega arith)

-- the element behind the left part
slice_get-push : {X : Type 0} (xs : List X) (y : X) (k : ℕ) → k ≡ length xs → slice_get (xs ++ y ∷ []) k ≡ Some y
slice_get-push [] y zero e = refl
slice_get-push [] y (suc k) e = absurd (omega arith)
slice_get-push (x ∷ xs) y zero e = absurd (omega arith)
slice_get-push (x ∷ xs) y (suc k) e = slice_get-push xs y k (omega arith)

-- the mark of each line below n
pub mark_of : (n : ℕ) (loops : List LoopInfo) (q : ℕ) → q < n → slice_get (head_marks n loops) q ≡ Some (is_head loops q)
mark_of zero loops q h = absurd (omega arith)
mark_of (suc n) loops q h = elim (cases_lt q n) [
  | inl low ↦ slice_get-left (head_marks n loops) (is_head loops n ∷ []) q (omega (arith, length-head_marks n loops, low)) ∙ mark_of n loops q low
  | inr high ↦
      let e : q ≡ n = omega (arith, high, h) in
      slice_get-push (head_marks n loops) (is_head loops n) q (omega (arith, length-head_marks n loops, e)) ∙ ap (λ (k : ℕ). Some (is_head loops k)) (sym e)
]

or_left : (b c : Bool) → b ≡ true → (b || c) ≡ true
or_left true c e = refl
or_left false c e = absurd (cc)

or_right : (b c : Bool) → c ≡ true → (b || c) ≡ true
or_right true c e = refl
or_right false c e = e

-- a head of the loops is one by the test
pub is_head-in : (loops : List LoopInfo) (q : ℕ) → IsIn (heads_of loops) q → is_head loops q ≡ true
is_head-in [] q h = absurd h
is_head-in (l ∷ loops) q (inl e) = or_left (eqb l.head q) (is_head loops q) (eq-eqb l.head q e)
is_head-in (l ∷ loops) q (inr h) = or_right (eqb l.head q) (is_head loops q) (is_head-in loops q h)
