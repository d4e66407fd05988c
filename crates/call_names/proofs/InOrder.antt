-- Names in the order of their bytes: those that begin with some bytes stand side by side.
use Rattle.std.proofs.Common.{◌≡◌, ℕ, zero, suc, ◌+◌, ◌-◌, ◌<◌, ◌≤◌, ◌∙◌, sym, ap, refl, cond, Bool, true, false, ◌&&◌, List, [], ◌∷◌, length, take, drop, get_or, arith, nat_eq}
use Rattle.std.specs.Prelude.{filter}
use Rattle.std.specs.Cmp.Lexicographic.{slice_cmp, nat_list_cmp_total}
use Rattle.std.specs.List.{AllWithin}
use Rattle.std.specs.List.Sorted.{IsPartitionedBy, IsPartitionPoint}
use Rattle.std.specs.Ordering.{is_lt, nat_cmp, ordering_then, ordering_index}
use Rattle.std.specs.declared.cmp.Ordering.{Ordering}
use Rattle.std.specs.declared.cmp.Ordering.TheVariants.{Less, Equal, Greater}
use Rattle.std.proofs.lemmas.List.{take_all, length-drop, get_or-drop}
use Rattle.std.proofs.lemmas.List.Sorted.{searchable_from_sorted, sorted_far, ranks_by}
use Rattle.std.proofs.lemmas.List.Kept.{IsSortedBy-filter}
use Rattle.std.proofs.lemmas.Map.Keys.{ge_from_not_lt}
use Rattle.call_names.specs.Search.{begins_with}
use Rattle.call_names.specs.Sorted.{AreInOrder}

tie : (n s : ℕ) (o : Ordering) → nat_eq n s ≡ true → ordering_then (nat_cmp n s) o ≡ o
tie n s o e = ap (λ x. ordering_then x o) (equal n s e)
  where
    equal : (a b : ℕ) → nat_eq a b ≡ true → nat_cmp a b ≡ Equal
    equal a b h = grind arith

head_first : (o r : Ordering) → is_lt (ordering_then o r) ≡ false → is_lt o ≡ false
head_first Less r e = e
head_first Equal r e = refl
head_first Greater r e = refl

both : (b c : Bool) → (b && c) ≡ true → (b ≡ true) × (c ≡ true)
both true c e = (refl, e)
both false c e = absurd (cc)

-- names that begin with some bytes do not stand before these
begins_behind : (stem name : List ℕ) → begins_with stem name ≡ true → is_lt (slice_cmp nat_cmp name stem) ≡ false
begins_behind [] [] e = refl
begins_behind [] (n ∷ name) e = refl
begins_behind (s ∷ stem) [] e = absurd (cc)
begins_behind (s ∷ stem) (n ∷ name) e =
    let h = both (nat_eq n s) (begins_with stem name) e in
    ap is_lt (tie n s (slice_cmp nat_cmp name stem) h.0) ∙ begins_behind stem name h.1

-- what stands between some bytes and a name that begins with them begins so too
between : (stem a b : List ℕ) → is_lt (slice_cmp nat_cmp a stem) ≡ false → is_lt (slice_cmp nat_cmp b a) ≡ false → begins_with stem b ≡ true → begins_with stem a ≡ true
between [] a b p q e = refl
between (s ∷ stem) [] b p q e = absurd (cc)
between (s ∷ stem) (x ∷ a) [] p q e = absurd (cc)
between (s ∷ stem) (x ∷ a) (y ∷ b) p q e =
    let h = both (nat_eq y s) (begins_with stem b) e in
    let low = ge_from_not_lt x s (head_first (nat_cmp x s) (slice_cmp nat_cmp a stem) p) in
    let high = ge_from_not_lt y x (head_first (nat_cmp y x) (slice_cmp nat_cmp b a) q) in
    let first : nat_eq x s ≡ true = squeezed x y s low high h.0 in
    let last : nat_eq y x ≡ true = level x y s low high h.0 in
    ap (λ c. c && begins_with stem a) first
    ∙ between stem a b (sym (ap is_lt (tie x s (slice_cmp nat_cmp a stem) first)) ∙ p) (sym (ap is_lt (tie y x (slice_cmp nat_cmp b a) last)) ∙ q) h.1
  where
    squeezed : (x y s : ℕ) → s ≤ x → x ≤ y → nat_eq y s ≡ true → nat_eq x s ≡ true
    squeezed x y s p q e = grind arith

    level : (x y s : ℕ) → s ≤ x → x ≤ y → nat_eq y s ≡ true → nat_eq y x ≡ true
    level x y s p q e = grind arith

module _ {A : Type 0} (test : A → Bool) where
  -- nothing is lost with what fails
  passed_over : (xs : List A) (i : ℕ) → AllWithin (λ x. test x ≡ false) xs 0 i → filter test (drop i xs) ≡ filter test xs
  passed_over [] zero h = refl
  passed_over [] (suc i) h = refl
  passed_over (x ∷ xs) zero h = refl
  passed_over (x ∷ xs) (suc i) h =
      passed_over xs i (λ k d a b. h (suc k) d (omega arith) (omega arith)) ∙ sym (ap (λ b. cond b (x ∷ filter test xs) (filter test xs)) (h 0 x (omega arith) (omega arith)))

  none_pass : (xs : List A) → AllWithin (λ x. test x ≡ false) xs 0 (length xs) → filter test xs ≡ []
  none_pass [] h = refl
  none_pass (x ∷ xs) h =
      ap (λ b. cond b (x ∷ filter test xs) (filter test xs)) (h 0 x (omega arith) (omega arith)) ∙ none_pass xs (λ k d a b. h (suc k) d (omega arith) (omega arith))

  -- what passes stands in front
  front_kept : (xs : List A) (i : ℕ) → i ≤ length xs → AllWithin (λ x. test x ≡ true) xs 0 i → AllWithin (λ x. test x ≡ false) xs i (length xs) → take i xs ≡ filter test xs
  front_kept [] zero h p q = refl
  front_kept [] (suc i) h p q = refl
  front_kept (x ∷ xs) zero h p q = sym (none_pass (x ∷ xs) q)
  front_kept (x ∷ xs) (suc i) h p q =
      ap (λ ys. x ∷ ys) (front_kept xs i (omega arith) (λ k d a b. p (suc k) d (omega arith) (omega arith)) (λ k d a b. q (suc k) d (omega arith) (omega arith)))
      ∙ sym (ap (λ b. cond b (x ∷ filter test xs) (filter test xs)) (p 0 x (omega arith) (omega arith)))

module _ (stem : List ℕ) (names : List (List ℕ)) (order : AreInOrder names) where
  -- the names before the bytes stand in front
  pub before_first : IsPartitionedBy (λ name. is_lt (slice_cmp nat_cmp name stem)) names
  before_first i j d h l e = first (slice_cmp nat_cmp (get_or names i d) stem) (slice_cmp nat_cmp (get_or names j d) stem)
      (searchable_from_sorted nat_list_cmp_total (λ x. x) names stem order i j d h l) e
    where
      first : (o r : Ordering) → ordering_index o ≤ ordering_index r → is_lt r ≡ true → is_lt o ≡ true
      first Less r h e = refl
      first Equal Less h e = absurd (omega arith)
      first Greater Less h e = absurd (omega arith)
      first o Equal h e = absurd (cc)
      first o Greater h e = absurd (cc)

  -- and behind these those that begin with the bytes
  pub begins_first : (start : ℕ) (rest : List (List ℕ)) → rest ≡ drop start names → start ≤ length names
      → AllWithin (λ name. is_lt (slice_cmp nat_cmp name stem) ≡ false) names start (length names) → IsPartitionedBy (begins_with stem) rest
  begins_first start rest is inside after i j d h l e =
      let at : (k : ℕ) → get_or rest k d ≡ get_or names (start + k) d = λ k. ap (λ ns. get_or ns k d) is ∙ get_or-drop start names k d in
      let size = ap length is ∙ length-drop start names in
      let less : start + j < length names = omega (arith, size) in
      ap (begins_with stem) (at i)
      ∙ between stem (get_or names (start + i) d) (get_or names (start + j) d) (after (start + i) d (omega arith) (omega arith))
      (sorted_far (λ x y. is_lt (slice_cmp nat_cmp x y)) (ranks_by nat_list_cmp_total (λ x. x)) names order (start + i) (start + j) d (omega arith) less)
      (sym (ap (begins_with stem) (at j)) ∙ e)

  pub side_by_side : (start end : ℕ) → start ≤ length names → end ≤ length (take (length names - start) (drop start names))
      → IsPartitionPoint (λ name. is_lt (slice_cmp nat_cmp name stem) ≡ true) (λ name. is_lt (slice_cmp nat_cmp name stem) ≡ false) names start
      → IsPartitionPoint (λ name. begins_with stem name ≡ true) (λ name. begins_with stem name ≡ false) (take (length names - start) (drop start names)) end
      → take end (take (length names - start) (drop start names)) ≡ filter (begins_with stem) names
  side_by_side start end inside within p q =
      let whole : take (length names - start) (drop start names) ≡ drop start names = take_all (length names - start) (drop start names) (omega (arith, length-drop start names)) in
      front_kept (begins_with stem) (take (length names - start) (drop start names)) end within q.0 q.1
      ∙ ap (filter (begins_with stem)) whole
      ∙ passed_over (begins_with stem) names start (λ k d a b. fails (get_or names k d) (p.0 k d a b))
    where
      by : (b : Bool) (name : List ℕ) → begins_with stem name ≡ b → is_lt (slice_cmp nat_cmp name stem) ≡ true → begins_with stem name ≡ false
      by true name e h = absurd (differ (sym h ∙ begins_behind stem name e))
        where
          differ : true ≡ false → ⊥
          differ x = cc
      by false name e h = e

      fails : (name : List ℕ) → is_lt (slice_cmp nat_cmp name stem) ≡ true → begins_with stem name ≡ false
      fails name h = by (begins_with stem name) name refl h

-- what is kept of names in order is in order
pub kept_in_order : (test : List ℕ → Bool) (names : List (List ℕ)) → AreInOrder names → AreInOrder (filter test names)
kept_in_order test names order = IsSortedBy-filter (λ x y. is_lt (slice_cmp nat_cmp x y)) (ranks_by nat_list_cmp_total (λ x. x)) test names order
