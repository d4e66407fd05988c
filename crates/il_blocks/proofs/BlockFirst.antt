-- The first of two kinds of faults, and that there is one answer.
use Rattle.std.proofs.Common.{◌≡◌, ◌⊎◌, ◌<◌, ◌≤◌, min, leb, ℕ, Bool, true, false, arith, refl, sym, ◌∙◌, subst, inl, inr, ap}
use Rattle.std.specs.Prelude.{List, length, slice_get, Option, Some, None, Ok, Err}
use Rattle.std.proofs.lemmas.Option.{slice_get_within}
use Rattle.il_core.specs.Statement.{Placed}
use Rattle.il_core.specs.declared.refusal.Code.{Code}
use Rattle.il_core.specs.declared.refusal.Refusal.{Refusal}
use Rattle.std.proofs.lemmas.Bool.{leb-true, leb-false}
use Rattle.std.proofs.lemmas.Int.{clamps}
use Rattle.il_blocks.specs.Block.{IsFirst}
use Rattle.il_blocks.specs.BlockFault.{lesser, IsFault, IsRefusedAt, OneMatch}

-- the lesser of two numbers is one of them
min_is : (i j : ℕ) → ((min i j ≡ i) × (i ≤ j)) ⊎ ((min i j ≡ j) × (j ≤ i))
min_is i j = by (leb i j) refl
  where
    by : (b : Bool) → leb i j ≡ b → ((min i j ≡ i) × (i ≤ j)) ⊎ ((min i j ≡ j) × (j ≤ i))
    by true e = let h : i ≤ j = leb-true i j e in let f : min i j ≡ i = omega (arith, clamps) in inl (f, h)
    by false e = let h : j < i = leb-false i j e in let f : min i j ≡ j = omega (arith, clamps) in let k : j ≤ i = omega arith in inr (f, k)

-- the first fault of either kind is the lesser of the first of each kind
pub first_of_either : (p q : ℕ → Type 0) (a b : Option ℕ) → IsFirst p a → IsFirst q b → IsFirst (λ i. p i ⊎ q i) (lesser a b)
first_of_either p q None None f g = neither
  where
    neither : (i : ℕ) → p i ⊎ q i → ⊥
    neither i (inl x) = f i x
    neither i (inr x) = g i x
first_of_either p q None (Some j) f g = (inr g.0, before)
  where
    before : (k : ℕ) → k < j → p k ⊎ q k → ⊥
    before k h (inl x) = f k x
    before k h (inr x) = g.1 k h x
first_of_either p q (Some i) None f g = (inl f.0, before)
  where
    before : (k : ℕ) → k < i → p k ⊎ q k → ⊥
    before k h (inl x) = f.1 k h x
    before k h (inr x) = g k x
first_of_either p q (Some i) (Some j) f g = pick (min_is i j)
  where
    before : (n k : ℕ) → n ≤ i → n ≤ j → k < n → p k ⊎ q k → ⊥
    before n k h l m (inl x) = let r : k < i = omega arith in f.1 k r x
    before n k h l m (inr x) = let r : k < j = omega arith in g.1 k r x

    pick : ((min i j ≡ i) × (i ≤ j)) ⊎ ((min i j ≡ j) × (j ≤ i)) → IsFirst (λ k. p k ⊎ q k) (Some (min i j))
    pick (inl h) = subst (λ (n : ℕ). IsFirst (λ k. p k ⊎ q k) (Some n)) (sym h.0) (inl f.0, λ k m x. let r : i ≤ i = omega arith in before i k r h.1 m x)
    pick (inr h) = subst (λ (n : ℕ). IsFirst (λ k. p k ⊎ q k) (Some n)) (sym h.0) (inr g.0, λ k m x. let r : j ≤ j = omega arith in before j k h.1 r m x)

-- a fault is at a statement
pub fault_within : (ss : List Placed) (i : ℕ) → IsFault ss i → i < length ss
fault_within ss i (inl u) = slice_get_within ss i u.stmt u.at
fault_within ss i (inr (inl r)) = slice_get_within ss i r.stmt r.at
fault_within ss i (inr (inr l)) = slice_get_within ss i l.stmt l.at

-- one number is the first
one_first : (fault : ℕ → Type 0) (i j : ℕ) → IsFirst fault (Some i) → IsFirst fault (Some j) → i ≡ j
one_first fault i j f g =
    let no_less : i < j → ⊥ = λ h. g.1 i h f.0 in
    let no_more : j < i → ⊥ = λ h. f.1 j h g.0 in
    omega arith

pub one_refusal : (ss : List Placed) (a b : Refusal) → IsRefusedAt ss a → IsRefusedAt ss b → a ≡ b
one_refusal ss a b f g =
    let number = one_first (IsFault ss) f.number g.number f.first g.first in
    let there : slice_get ss f.number ≡ Some g.stmt = ap (slice_get ss) number ∙ g.at in
    let z : ◌≡◌ {A = Option Placed} (Some f.stmt) (Some g.stmt) = sym f.at ∙ there in
    let stmt : f.stmt ≡ g.stmt = cc in
    let place : a.place ≡ b.place = f.place ∙ ap (λ (s : Placed). s.place) stmt ∙ sym g.place in
    let made : Code → ℕ → Option (List ℕ) → Refusal = λ c p n. record { code = c; place = p; name = n } in
    ap (λ (c : Code). made c a.place a.name) (f.code ∙ sym g.code) ∙ ap (λ (p : ℕ). made b.code p a.name) place ∙ ap (λ (n : Option (List ℕ)). made b.code b.place n) (f.name ∙ sym g.name)

pub one_match : OneMatch
one_match ss (Ok x) (Ok y) f g = refl
one_match ss (Ok x) (Err b) f g = absurd (f g.number g.first.0)
one_match ss (Err a) (Ok x) f g = absurd (g f.number f.first.0)
one_match ss (Err a) (Err b) f g = ap Err (one_refusal ss a b f g)
