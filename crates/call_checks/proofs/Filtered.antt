-- Members that pass a test.
use Rattle.std.proofs.Common.{◌≡◌, refl, sym, ap, ◌∙◌, ℕ, zero, suc, Bool, true, false, cond, Some, List, [], ◌∷◌, ◌++◌, length, drop, slice_get, arith}
use Rattle.std.specs.Prelude.{filter}
use Rattle.std.proofs.lemmas.Option.{same_Some}

pub filter_all : {X : Type 0} (test : X → Bool) (xs : List X) → ((n : ℕ) (x : X) → slice_get xs n ≡ Some x → test x ≡ true) → filter test xs ≡ xs
filter_all test [] h = refl
filter_all test (x ∷ xs) h =
    ap (λ b. cond b (x ∷ filter test xs) (filter test xs)) (h 0 x refl) ∙ ap (λ l. x ∷ l) (filter_all test xs (λ n y e. h (suc n) y e))

pub filter_none : {X : Type 0} (test : X → Bool) (xs : List X) → ((n : ℕ) (x : X) → slice_get xs n ≡ Some x → test x ≡ false) → filter test xs ≡ []
filter_none test [] h = refl
filter_none test (x ∷ xs) h =
    ap (λ b. cond b (x ∷ filter test xs) (filter test xs)) (h 0 x refl) ∙ filter_none test xs (λ n y e. h (suc n) y e)

pub filter_passes : {X : Type 0} (test : X → Bool) (xs : List X) (n : ℕ) (x : X) → slice_get (filter test xs) n ≡ Some x → test x ≡ true
filter_passes test [] n x e = grind arith
filter_passes test (y ∷ xs) n x e = by (λ m h. filter_passes test xs m x h) (test y) refl n e
  where
    by : ((m : ℕ) → slice_get (filter test xs) m ≡ Some x → test x ≡ true) → (b : Bool) → test y ≡ b → (m : ℕ)
        → slice_get (cond b (y ∷ filter test xs) (filter test xs)) m ≡ Some x → test x ≡ true
    by rest true t zero h = ap test (sym (same_Some _ _ h)) ∙ t
    by rest true t (suc m) h = rest m h
    by rest false t m h = rest m h

pub drop_front : {X : Type 0} (xs ys : List X) → drop (length xs) (xs ++ ys) ≡ ys
drop_front [] ys = refl
drop_front (x ∷ xs) ys = drop_front xs ys
