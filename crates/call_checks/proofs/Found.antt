-- Where a member stands that comes from a part of a list, or from one of the lines that all become others.
use Rattle.std.proofs.Common.{◌≡◌, refl, subst, ℕ, zero, suc, ◌+◌, inl, inr, Some, List, [], ◌∷◌, ◌++◌, length, map, take, slice_get, arith}
use Rattle.std.specs.Prelude.{◌⊎◌, sum_by}
use Rattle.std.proofs.lemmas.List.Sums.{sum_by-cons}
use Rattle.std.proofs.lemmas.Option.{same_Some}
use Rattle.il_called.specs.Expansion.{each_from}

-- a member of the second of two lists that stand together
pub record Later {X : Type 0} (xs ys : List X) (n : ℕ) (x : X) : Type 0 where
  pub member : ℕ
  pub at : n ≡ length xs + member
  pub there : slice_get ys member ≡ Some x

pub parted : {X : Type 0} (xs ys : List X) (n : ℕ) (x : X) → slice_get (xs ++ ys) n ≡ Some x → (slice_get xs n ≡ Some x) ⊎ Later xs ys n x
parted [] ys n x e = inr (record { member = n; at = omega arith; there = e })
parted (w ∷ xs) ys zero x e = inl e
parted (w ∷ xs) ys (suc n) x e = elim (parted xs ys n x e) [
  | inl here ↦ inl here
  | inr later ↦ let m = later.at in inr (record { member = later.member; at = omega arith; there = later.there })
]

-- a member of a list that is mapped
pub record Mapped {X Y : Type 0} (f : X → Y) (xs : List X) (n : ℕ) (y : Y) : Type 0 where
  pub what : X
  pub there : slice_get xs n ≡ Some what
  pub is : f what ≡ y

pub mapped : {X Y : Type 0} (f : X → Y) (xs : List X) (n : ℕ) (y : Y) → slice_get (map f xs) n ≡ Some y → Mapped f xs n y
mapped f [] n y e = grind arith
mapped f (x ∷ xs) zero y e = record { what = x; there = refl; is = same_Some _ _ e }
mapped f (x ∷ xs) (suc n) y e = let r = mapped f xs n y e in record { what = r.what; there = r.there; is = r.is }

-- a member of what all lines become, the line from which it comes, and its number there
pub record FoundAt {X Y : Type 0} (f : ℕ → X → List Y) (g : X → ℕ) (k : ℕ) (xs : List X) (j : ℕ) (y : Y) : Type 0 where
  pub line : ℕ
  pub member : ℕ
  pub what : X
  pub there : slice_get xs line ≡ Some what
  pub is : slice_get (f (k + line) what) member ≡ Some y
  pub at : j ≡ sum_by g (take line xs) + member

pub found_at : {X Y : Type 0} (f : ℕ → X → List Y) (g : X → ℕ) (k : ℕ) (xs : List X) → ((n i : ℕ) (x : X) → slice_get xs i ≡ Some x → length (f n x) ≡ g x)
    → (j : ℕ) (y : Y) → slice_get (each_from f k xs) j ≡ Some y → FoundAt f g k xs j y
found_at f g k [] sizes j y e = grind arith
found_at f g k (x ∷ xs) sizes j y e = elim (parted (f k x) (each_from f (suc k) xs) j y e) [
  | inl here ↦ record {
    line = 0;
    member = j;
    what = x;
    there = refl;
    is = subst (λ n. slice_get (f n x) j ≡ Some y) zeros here;
    at = omega arith;
  }
  | inr later ↦
      let r = found_at f g (suc k) xs (λ n i z h. sizes n (suc i) z h) later.member y later.there in
      let size = sizes k 0 x refl in
      let a = later.at in
      let b = r.at in
      let s = sum_by-cons g x (take r.line xs) in
      record {
        line = suc r.line;
        member = r.member;
        what = r.what;
        there = r.there;
        is = subst (λ n. slice_get (f n r.what) r.member ≡ Some y) (next r.line) r.is;
        at = omega arith;
      }
]
  where
    zeros : k ≡ k + 0
    zeros = omega arith

    next : (n : ℕ) → suc k + n ≡ k + suc n
    next n = omega arith
