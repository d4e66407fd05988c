-- Names that begin with some bytes.
use Rattle.std.proofs.Common.{◌≡◌, ℕ, ◌∙◌, ap, refl, Bool, true, false, ◌&&◌, List, [], ◌∷◌, ◌++◌, length, take, drop, arith, nat_eq}
use Rattle.std.specs.Cmp.Lexicographic.{pointwise}

swapped : (m n : ℕ) → nat_eq m n ≡ nat_eq n m
swapped m n = grind arith

and_assoc : (a b c : Bool) → (a && (b && c)) ≡ ((a && b) && c)
and_assoc true b c = refl
and_assoc false b c = refl

-- bytes and others behind them are a name where it begins with the former and the latter are left
pub joined : (stem last name : List ℕ) → pointwise nat_eq (stem ++ last) name ≡ (pointwise nat_eq (take (length stem) name) stem && pointwise nat_eq last (drop (length stem) name))
joined [] last name = refl
joined (s ∷ stem) last [] = refl
joined (s ∷ stem) last (n ∷ name) =
    ap (λ b. b && pointwise nat_eq (stem ++ last) name) (swapped s n)
    ∙ ap (λ b. nat_eq n s && b) (joined stem last name)
    ∙ and_assoc (nat_eq n s) (pointwise nat_eq (take (length stem) name) stem) (pointwise nat_eq last (drop (length stem) name))

-- bytes that are found the same are the same
pub same_bytes : (xs ys : List ℕ) → pointwise nat_eq xs ys ≡ true → xs ≡ ys
same_bytes [] [] e = refl
same_bytes [] (y ∷ ys) e = absurd (cc)
same_bytes (x ∷ xs) [] e = absurd (cc)
same_bytes (x ∷ xs) (y ∷ ys) e = by (nat_eq x y) refl e (same_bytes xs ys)
  where
    same : (m n : ℕ) → nat_eq m n ≡ true → m ≡ n
    same m n h = grind arith

    by : (b : Bool) → nat_eq x y ≡ b → (b && pointwise nat_eq xs ys) ≡ true → (pointwise nat_eq xs ys ≡ true → xs ≡ ys) → x ∷ xs ≡ y ∷ ys
    by true h g rest = ap (λ z. z ∷ xs) (same x y h) ∙ ap (λ zs. y ∷ zs) (rest g)
    by false h g rest = absurd (cc)
