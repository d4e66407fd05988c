-- Bounds that were cut at the ends of a machine number are small exactly where the exact ones are, and equal then.
use Rattle.std.proofs.Common.{◌≡◌, ℕ, suc, ◌-◌, ◌^◌, ◌<◌, ◌∙◌, sym, ap, refl, inl, inr, Bool, true, false, ◌&&◌, arith, min, ℤ, pos, negsuc, ◌*ℤ◌, if◌then◌else◌}
use Rattle.std.specs.Prelude.{Option, Some, None, nat_le}
use Rattle.std.specs.Int.{int_min, int_max, saturate_to_bits}
use Rattle.std.proofs.lemmas.Bool.{cases_lt}
use Rattle.std.proofs.lemmas.Int.{ints, clamps}
use Rattle.il_core.specs.Bounds.{Bounds, spanning}
use Rattle.il_types.specs.Narrow.{is_small, if_small}

-- a number cut at the ends of 128 bits
abbrev pub cut : ℤ → ℤ
cut v = saturate_to_bits 127 v

cut_small : (m t n : ℕ) → m < t → nat_le (min n t) m ≡ nat_le n m
cut_small m t n h = grind arith

uncut : (m t n : ℕ) → m < t → nat_le n m ≡ true → min n t ≡ n
uncut m t n h e = grind arith

cut_small-below : (m t n : ℕ) → m < t → nat_le (suc (min n t)) m ≡ nat_le (suc n) m
cut_small-below m t n h = grind arith

uncut-below : (m t n : ℕ) → m < t → nat_le (suc n) m ≡ true → min n t ≡ n
uncut-below m t n h e = grind arith

-- a cut number is small where the number is
same_small : (v : ℤ) → is_small (cut v) ≡ is_small v
same_small (pos n) = cut_small (2 ^ 126) (2 ^ 127 - 1) n (omega arith)
same_small (negsuc n) = cut_small-below (2 ^ 126) (2 ^ 127 - 1) n (omega arith)

small_same : (v : ℤ) → is_small v ≡ true → cut v ≡ v
small_same (pos n) h = ap pos (uncut (2 ^ 126) (2 ^ 127 - 1) n (omega arith) h)
small_same (negsuc n) h = ap negsuc (uncut-below (2 ^ 126) (2 ^ 127 - 1) n (omega arith) h)

pick : (p q : Bool) (a b : Bounds) → (p ≡ true → q ≡ true → a ≡ b) → (if p && q then Some a else None) ≡ (if p && q then Some b else None)
pick true true a b f = ap Some (f refl refl)
pick true false a b f = refl
pick false q a b f = refl

made : ℤ → ℤ → Bounds
made l h = record { low = l; high = h }

-- cut bounds
pub cut_bounds : (l h : ℤ) → if_small (record { low = cut l; high = cut h }) ≡ if_small (record { low = l; high = h })
unfolding made
cut_bounds l h =
    ap (λ p. if p && is_small (cut h) then Some (made (cut l) (cut h)) else None) (same_small l)
    ∙ ap (λ q. if is_small l && q then Some (made (cut l) (cut h)) else None) (same_small h)
    ∙ pick (is_small l) (is_small h) (made (cut l) (cut h)) (made l h) (λ p q. ap (λ x. made x (cut h)) (small_same l p) ∙ ap (made l) (small_same h q))

-- cut at any number
abbrev cut_at : ℕ → ℤ → ℤ
cut_at t (pos n) = pos (min n t)
cut_at t (negsuc n) = negsuc (min n t)

min_pos : (t a b : ℕ) → int_min (pos (min a t)) (pos (min b t)) ≡ cut_at t (int_min (pos a) (pos b))
min_pos t a b = elim (cases_lt b a) [
  | inl lt ↦
      let l : int_min (pos (min a t)) (pos (min b t)) ≡ pos (min b t) = omega (arith, ints, clamps) in
      let r : int_min (pos a) (pos b) ≡ pos b = omega (arith, ints, clamps) in
      l ∙ ap (cut_at t) (sym r)
  | inr ge ↦
      let l : int_min (pos (min a t)) (pos (min b t)) ≡ pos (min a t) = omega (arith, ints, clamps) in
      let r : int_min (pos a) (pos b) ≡ pos a = omega (arith, ints, clamps) in
      l ∙ ap (cut_at t) (sym r)
]

min_neg : (t a b : ℕ) → int_min (negsuc (min a t)) (negsuc (min b t)) ≡ cut_at t (int_min (negsuc a) (negsuc b))
min_neg t a b = elim (cases_lt b a) [
  | inl lt ↦
      let l : int_min (negsuc (min a t)) (negsuc (min b t)) ≡ negsuc (min a t) = omega (arith, ints, clamps) in
      let r : int_min (negsuc a) (negsuc b) ≡ negsuc a = omega (arith, ints, clamps) in
      l ∙ ap (cut_at t) (sym r)
  | inr ge ↦
      let l : int_min (negsuc (min a t)) (negsuc (min b t)) ≡ negsuc (min b t) = omega (arith, ints, clamps) in
      let r : int_min (negsuc a) (negsuc b) ≡ negsuc b = omega (arith, ints, clamps) in
      l ∙ ap (cut_at t) (sym r)
]

max_pos : (t a b : ℕ) → int_max (pos (min a t)) (pos (min b t)) ≡ cut_at t (int_max (pos a) (pos b))
max_pos t a b = elim (cases_lt b a) [
  | inl lt ↦
      let l : int_max (pos (min a t)) (pos (min b t)) ≡ pos (min a t) = omega (arith, ints, clamps) in
      let r : int_max (pos a) (pos b) ≡ pos a = omega (arith, ints, clamps) in
      l ∙ ap (cut_at t) (sym r)
  | inr ge ↦
      let l : int_max (pos (min a t)) (pos (min b t)) ≡ pos (min b t) = omega (arith, ints, clamps) in
      let r : int_max (pos a) (pos b) ≡ pos b = omega (arith, ints, clamps) in
      l ∙ ap (cut_at t) (sym r)
]

max_neg : (t a b : ℕ) → int_max (negsuc (min a t)) (negsuc (min b t)) ≡ cut_at t (int_max (negsuc a) (negsuc b))
max_neg t a b = elim (cases_lt b a) [
  | inl lt ↦
      let l : int_max (negsuc (min a t)) (negsuc (min b t)) ≡ negsuc (min b t) = omega (arith, ints, clamps) in
      let r : int_max (negsuc a) (negsuc b) ≡ negsuc b = omega (arith, ints, clamps) in
      l ∙ ap (cut_at t) (sym r)
  | inr ge ↦
      let l : int_max (negsuc (min a t)) (negsuc (min b t)) ≡ negsuc (min a t) = omega (arith, ints, clamps) in
      let r : int_max (negsuc a) (negsuc b) ≡ negsuc a = omega (arith, ints, clamps) in
      l ∙ ap (cut_at t) (sym r)
]

-- bounds that are written in another way
pub rewritten : (l h l' h' : ℤ) (r : Option Bounds) → r ≡ if_small (record { low = l'; high = h' }) → l' ≡ l → h' ≡ h → r ≡ if_small (record { low = l; high = h })
unfolding made
rewritten l h l' h' r e p q = e ∙ ap (λ x. if_small (made x h')) p ∙ ap (λ x. if_small (made l x)) q

pub from_cut : (l h l' h' : ℤ) (r : Option Bounds) → r ≡ if_small (record { low = l'; high = h' }) → l' ≡ cut l → h' ≡ cut h → r ≡ if_small (record { low = l; high = h })
from_cut l h l' h' r e p q = rewritten (cut l) (cut h) l' h' r e p q ∙ cut_bounds l h

-- the least of two cut numbers is the cut least one
cut_min : (a b : ℤ) → int_min (cut a) (cut b) ≡ cut (int_min a b)
cut_min (pos a) (pos b) = min_pos (2 ^ 127 - 1) a b
cut_min (pos a) (negsuc b) = refl
cut_min (negsuc a) (pos b) = refl
cut_min (negsuc a) (negsuc b) = min_neg (2 ^ 127 - 1) a b

cut_max : (a b : ℤ) → int_max (cut a) (cut b) ≡ cut (int_max a b)
cut_max (pos a) (pos b) = max_pos (2 ^ 127 - 1) a b
cut_max (pos a) (negsuc b) = refl
cut_max (negsuc a) (pos b) = refl
cut_max (negsuc a) (negsuc b) = max_neg (2 ^ 127 - 1) a b

-- the bounds over four cut numbers
cut_spanning : (a b c d : ℤ) → if_small (spanning (cut a) (cut b) (cut c) (cut d)) ≡ if_small (spanning a b c d)
unfolding made
cut_spanning a b c d =
    let low : int_min (int_min (cut a) (cut b)) (int_min (cut c) (cut d)) ≡ cut (int_min (int_min a b) (int_min c d)) =
    ap (λ x. int_min x (int_min (cut c) (cut d))) (cut_min a b) ∙ ap (int_min (cut (int_min a b))) (cut_min c d) ∙ cut_min (int_min a b) (int_min c d) in
    let high : int_max (int_max (cut a) (cut b)) (int_max (cut c) (cut d)) ≡ cut (int_max (int_max a b) (int_max c d)) =
    ap (λ x. int_max x (int_max (cut c) (cut d))) (cut_max a b) ∙ ap (int_max (cut (int_max a b))) (cut_max c d) ∙ cut_max (int_max a b) (int_max c d) in
    ap (λ x. if_small (made x (int_max (int_max (cut a) (cut b)) (int_max (cut c) (cut d))))) low
    ∙ ap (λ x. if_small (made (cut (int_min (int_min a b) (int_min c d))) x)) high
    ∙ cut_bounds (int_min (int_min a b) (int_min c d)) (int_max (int_max a b) (int_max c d))

product_same : (a b a' b' : ℤ) → a' ≡ a → b' ≡ b → a' *ℤ b' ≡ a *ℤ b
product_same a b a' b' p q = ap (λ x. x *ℤ b') p ∙ ap (λ x. a *ℤ x) q

-- a product that was cut, of factors and as a result that are written in another way
pub cut_product : (a b a' b' p p' : ℤ) → a' ≡ a → b' ≡ b → p ≡ cut (a' *ℤ b') → p' ≡ p → p' ≡ cut (a *ℤ b)
cut_product a b a' b' p p' e f g h = h ∙ g ∙ ap cut (product_same a b a' b' e f)

-- the bounds over four cut numbers, taken two by two
pub from_four : (a b c d a' b' c' d' l m l' m' low x y x' y' high : ℤ) (r : Option Bounds) → r ≡ if_small (record { low = low; high = high })
    → (low ≡ int_min l' m') × (l' ≡ l) × (m' ≡ m) × (l ≡ int_min a' b') × (m ≡ int_min c' d')
    → (high ≡ int_max x' y') × (x' ≡ x) × (y' ≡ y) × (x ≡ int_max a' b') × (y ≡ int_max c' d')
    → (a' ≡ cut a) × (b' ≡ cut b) × (c' ≡ cut c) × (d' ≡ cut d) → r ≡ if_small (spanning a b c d)
unfolding made
from_four a b c d a' b' c' d' l m l' m' low x y x' y' high r e p q s =
    let first : low ≡ int_min (int_min a' b') (int_min c' d') = p.0 ∙ ap (λ t. int_min t m') (p.1 ∙ p.3) ∙ ap (int_min (int_min a' b')) (p.2 ∙ p.4) in
    let second : high ≡ int_max (int_max a' b') (int_max c' d') = q.0 ∙ ap (λ t. int_max t y') (q.1 ∙ q.3) ∙ ap (int_max (int_max a' b')) (q.2 ∙ q.4) in
    rewritten (int_min (int_min a' b') (int_min c' d')) (int_max (int_max a' b') (int_max c' d')) low high r e first second
    ∙ ap (λ t. if_small (spanning t b' c' d')) s.0 ∙ ap (λ t. if_small (spanning (cut a) t c' d')) s.1
    ∙ ap (λ t. if_small (spanning (cut a) (cut b) t d')) s.2 ∙ ap (λ t. if_small (spanning (cut a) (cut b) (cut c) t)) s.3
    ∙ cut_spanning a b c d
