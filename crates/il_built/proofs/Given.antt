-- What the statements of a procedure give, and what is counted in front of them, one statement at a time.
use Rattle.std.proofs.Common.{◌≡◌, ◌≢◌, ℕ, zero, suc, ◌+◌, ◌<◌, ◌≤◌, ◌∙◌, sym, ap, refl, inl, inr, Bool, true, false, List, [], ◌∷◌, ◌++◌, length, arith, nat_eq, if◌then◌else◌, append-nil, append_assoc}
use Rattle.std.specs.Prelude.{Some, None, slice_get}
use Rattle.std.specs.List.{flat_map, range_with_len}
use Rattle.std.proofs.lemmas.Bool.{cases_lt}
use Rattle.std.proofs.lemmas.List.Concat.{flat_map-append}
use Rattle.std.proofs.lemmas.List.Sums.{fold_more}
use Rattle.std.proofs.lemmas.Option.{get_or_from_slice_get, slice_get_within}
use Rattle.il_core.specs.Statement.{Statement, Placed}
use Rattle.il_types.specs.Counts.{counts_behind}
use Rattle.il_types.specs.Names.{Front, one_more, counts_at}
use Rattle.il_built.specs.CheckedText.{of_procedure}

-- below the length of the text a statement stands at each number
pub stands : (stmts : List Placed) (i : ℕ) → i < length stmts → (x : Placed) × (slice_get stmts i ≡ Some x)
stands [] i h = absurd (omega arith)
stands (x ∷ xs) zero h = (x, refl)
stands (x ∷ xs) (suc i) h = stands xs i (omega arith)

-- the counts behind a statement
pub counts_next : (stmts : List Placed) (i : ℕ) (x : Placed) → slice_get stmts i ≡ Some x → counts_at stmts (suc i) ≡ counts_behind (counts_at stmts i) x.says
counts_next stmts i x there =
    let later : suc i ≡ i + 1 = omega arith in
    ap (λ n. counts_at stmts n) later
    ∙ ap (λ (f : Front). f.counts) (fold_more one_more _ stmts i x (slice_get_within stmts i x there))
    ∙ ap (λ (y : Placed). counts_behind (counts_at stmts i) y.says) (get_or_from_slice_get stmts i x x there)

-- a range with one number more
range_more : (a n : ℕ) → range_with_len a (suc n) ≡ range_with_len a n ++ (a + n) ∷ []
range_more a zero = let e : a ≡ a + 0 = omega arith in ap (λ k. k ∷ []) e
range_more a (suc n) =
    let e : a + 1 + n ≡ a + suc n = omega arith in
    ap (λ ks. a ∷ ks) (range_more (a + 1) n ∙ ap (λ k. range_with_len (a + 1) n ++ k ∷ []) e)

-- what the first n statements give to a procedure
abbrev pub given_by : {A : Type 0} → (ℕ → Statement → List A) → List Placed → ℕ → ℕ → List A
given_by give stmts owner n = flat_map (of_procedure give stmts owner) (range_with_len 0 n)

-- what one statement more gives stands behind
pub given_next : {A : Type 0} (give : ℕ → Statement → List A) (stmts : List Placed) (owner n : ℕ)
    → given_by give stmts owner (suc n) ≡ given_by give stmts owner n ++ of_procedure give stmts owner n
given_next give stmts owner n =
    let f = of_procedure give stmts owner in
    let e : 0 + n ≡ n = omega arith in
    ap (flat_map f) (range_more 0 n) ∙ flat_map-append f (range_with_len 0 n) ((0 + n) ∷ [])
    ∙ ap (λ xs. flat_map f (range_with_len 0 n) ++ xs) (append-nil (f (0 + n)) ∙ ap f e)

-- what statement i gives, by whether it stands in the procedure
by_owner : {A : Type 0} (give : ℕ → Statement → List A) (stmts : List Placed) (owner i : ℕ) (x : Placed) (b : Bool) → slice_get stmts i ≡ Some x
    → nat_eq (counts_at stmts i).procedures owner ≡ b → of_procedure give stmts owner i ≡ (if b then give i x.says else [])
by_owner give stmts owner i x b there h =
    ap (λ o. elim o [ None ↦ [] | Some y ↦ (if nat_eq (counts_at stmts i).procedures owner then give i y.says else []) ]) there
    ∙ ap (λ t. if t then give i x.says else []) h

-- a statement of the procedure gives what it gives
pub given_here : {A : Type 0} (give : ℕ → Statement → List A) (stmts : List Placed) (owner i : ℕ) (x : Placed) → slice_get stmts i ≡ Some x
    → (counts_at stmts i).procedures ≡ owner → of_procedure give stmts owner i ≡ give i x.says
given_here give stmts owner i x there own = by_owner give stmts owner i x true there (same (counts_at stmts i).procedures owner own)
  where
    same : (a b : ℕ) → a ≡ b → nat_eq a b ≡ true
    same a b h = grind arith

-- any other gives nothing
pub not_given : {A : Type 0} (give : ℕ → Statement → List A) (stmts : List Placed) (owner i : ℕ) (x : Placed) → slice_get stmts i ≡ Some x
    → (counts_at stmts i).procedures ≢ owner → of_procedure give stmts owner i ≡ []
not_given give stmts owner i x there other = by_owner give stmts owner i x false there (differs (counts_at stmts i).procedures owner other)
  where
    differs : (a b : ℕ) → a ≢ b → nat_eq a b ≡ false
    differs a b h = grind arith

-- what the first statements give is the front of what more of them give
pub given_front : {A : Type 0} (give : ℕ → Statement → List A) (stmts : List Placed) (owner i n : ℕ) → i ≤ n
    → (rest : List A) × (given_by give stmts owner n ≡ given_by give stmts owner i ++ rest)
given_front give stmts owner i zero h =
    let e : 0 ≡ i = omega arith in ([], ap (given_by give stmts owner) e ∙ sym (append-nil (given_by give stmts owner i)))
given_front give stmts owner i (suc n) h = elim (cases_lt n i) [
  | inl lt ↦ let e : suc n ≡ i = omega arith in ([], ap (given_by give stmts owner) e ∙ sym (append-nil (given_by give stmts owner i)))
  | inr le ↦
      let front = given_front give stmts owner i n le in
      let last = of_procedure give stmts owner n in
      (front.0 ++ last, given_next give stmts owner n ∙ ap (λ xs. xs ++ last) front.1 ∙ append_assoc (given_by give stmts owner i) front.0 last)
]
