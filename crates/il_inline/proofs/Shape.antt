-- Where what a line becomes stands among what all lines become.
use Rattle.std.proofs.Common.{◌≡◌, ℕ, zero, suc, ◌+◌, inl, inr, ◌≤◌, List, [], ◌∷◌, ◌++◌, length, take, refl, sym, ap, ◌∙◌, subst, arith}
use Rattle.std.specs.Prelude.{◌⊎◌, sum_by, slice_get, Some}
use Rattle.std.proofs.lemmas.Option.{same_Some}
use Rattle.std.proofs.lemmas.List.Sums.{sum_by-cons}
use Rattle.il_called.specs.Called.{WrittenLine}
use Rattle.il_called.specs.Expansion.{Callee, width_of, each_from, start_of}
use Rattle.il_inline.specs.Calls.{LineCalls, AllCall}
use Rattle.il_inline.proofs.Texts.{kept_left}

pub past : {X : Type 0} (xs ys : List X) (n : ℕ) → slice_get (xs ++ ys) (length xs + n) ≡ slice_get ys n
past [] ys n = ap (slice_get ys) (let e : 0 + n ≡ n = omega arith in e)
past (x ∷ xs) ys n = ap (slice_get (x ∷ xs ++ ys)) (let e : suc (length xs) + n ≡ suc (length xs + n) = omega arith in e) ∙ past xs ys n

-- a member of a list that stands behind a part of a length
pub behind : {X : Type 0} (xs ys : List X) (k n m : ℕ) (y : X) → length xs ≡ k → m ≡ k + n → slice_get ys n ≡ Some y → slice_get (xs ++ ys) m ≡ Some y
behind xs ys k n m y e f h = ap (slice_get (xs ++ ys)) (let g : m ≡ length xs + n = omega arith in g) ∙ past xs ys n ∙ h

pub each_at : {X Y : Type 0} (f : ℕ → X → List Y) (g : X → ℕ) (k : ℕ) (xs : List X) → ((n i : ℕ) (x : X) → slice_get xs i ≡ Some x → length (f n x) ≡ g x)
    → (i j n : ℕ) (x : X) (y : Y) → slice_get xs i ≡ Some x → n ≡ k + i → slice_get (f n x) j ≡ Some y → slice_get (each_from f k xs) (sum_by g (take i xs) + j) ≡ Some y
each_at f g k [] sizes i j n x y e q h = grind arith
each_at f g k (w ∷ xs) sizes zero j n x y e q h =
    let m : n ≡ k = omega arith in
    let first : slice_get (f k w) j ≡ Some y = subst (λ v. slice_get (f k v) j ≡ Some y) (sym (same_Some _ _ e)) (subst (λ l. slice_get (f l x) j ≡ Some y) m h) in
    let same : sum_by g [] + j ≡ j = omega arith in
    ap (slice_get (f k w ++ each_from f (suc k) xs)) same ∙ kept_left (f k w) (each_from f (suc k) xs) j y first
each_at f g k (w ∷ xs) sizes (suc i) j n x y e q h =
    let rest = each_at f g (suc k) xs (λ n i x. sizes n (suc i) x) i j n x y e (omega arith) h in
    let more = sum_by-cons g w (take i xs) in
    behind (f k w) (each_from f (suc k) xs) (g w) (sum_by g (take i xs) + j) (sum_by g (take (suc i) (w ∷ xs)) + j) y (sizes k 0 w refl) (omega arith) rest

either_part : {X : Type 0} (xs ys : List X) (n : ℕ) (x : X) → slice_get (xs ++ ys) n ≡ Some x → (slice_get xs n ≡ Some x) ⊎ ((m : ℕ) × (slice_get ys m ≡ Some x))
either_part [] ys n x e = inr (n, e)
either_part (w ∷ xs) ys zero x e = inl e
either_part (w ∷ xs) ys (suc n) x e = either_part xs ys n x e

-- each member of it comes from a line
pub record ComesFrom {X Y : Type 0} (f : ℕ → X → List Y) (k : ℕ) (xs : List X) (y : Y) : Type 0 where
  pub line : ℕ
  pub member : ℕ
  pub what : X
  pub there : slice_get xs line ≡ Some what
  pub is : slice_get (f (k + line) what) member ≡ Some y

pub each_member : {X Y : Type 0} (f : ℕ → X → List Y) (k : ℕ) (xs : List X) (j : ℕ) (y : Y) → slice_get (each_from f k xs) j ≡ Some y → ComesFrom f k xs y
each_member f k [] j y e = grind arith
each_member f k (x ∷ xs) j y e = elim (either_part (f k x) (each_from f (suc k) xs) j y e) [
  | inl here ↦ record { line = 0; member = j; what = x; there = refl; is = subst (λ n. slice_get (f n x) j ≡ Some y) zeros here }
  | inr later ↦ let r = each_member f (suc k) xs later.0 y later.1 in record {
    line = suc r.line;
    member = r.member;
    what = r.what;
    there = r.there;
    is = subst (λ n. slice_get (f n r.what) r.member ≡ Some y) (next r.line) r.is;
  }
]
  where
    zeros : k ≡ k + 0
    zeros = omega arith

    next : (n : ℕ) → suc k + n ≡ k + suc n
    next n = omega arith

-- a line of those that all call
pub line_calls : (callees : List Callee) (lines : List WrittenLine) (n : ℕ) (line : WrittenLine) → AllCall callees lines → slice_get lines n ≡ Some line → LineCalls callees line
line_calls callees [] n line h e = grind arith
line_calls callees (first ∷ lines) zero line h e = subst (LineCalls callees) (same_Some _ _ e) h.0
line_calls callees (first ∷ lines) (suc n) line h e = line_calls callees lines n line h.1 e

-- the next line begins where a line ends
pub start_next : (callees : List Callee) (lines : List WrittenLine) (n : ℕ) (line : WrittenLine) → slice_get lines n ≡ Some line
    → start_of callees lines (n + 1) ≡ start_of callees lines n + width_of callees line
start_next callees [] n line e = grind arith
start_next callees (first ∷ lines) zero line e =
    let s = sum_by-cons (width_of callees) first [] in
    let same : width_of callees first ≡ width_of callees line = ap (width_of callees) (same_Some _ _ e) in
    omega arith
start_next callees (first ∷ lines) (suc n) line e =
    let r = start_next callees lines n line e in
    let a = sum_by-cons (width_of callees) first (take n lines) in
    let b = sum_by-cons (width_of callees) first (take (n + 1) lines) in
    let same : start_of callees (first ∷ lines) (suc n + 1) ≡ start_of callees (first ∷ lines) (suc (n + 1)) = ap (start_of callees (first ∷ lines)) (let k : suc n + 1 ≡ suc (n + 1) = omega arith in k) in
    omega arith

-- no line begins past the end
pub start_within : (callees : List Callee) (lines : List WrittenLine) (n : ℕ) → start_of callees lines n ≤ sum_by (width_of callees) lines
start_within callees [] zero = omega arith
start_within callees [] (suc n) = omega arith
start_within callees (first ∷ lines) zero = omega arith
start_within callees (first ∷ lines) (suc n) =
    let r = start_within callees lines n in
    let a = sum_by-cons (width_of callees) first (take n lines) in
    let b = sum_by-cons (width_of callees) first lines in
    omega arith
