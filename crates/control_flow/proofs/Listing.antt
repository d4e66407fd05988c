-- Marks behind a push, and ascending lists of the lines with a property.
use Rattle.std.proofs.Common.{◌≡◌, ◌⊎◌, inl, inr, refl, sym, ◌∙◌, ℕ, ◌+◌, ◌<◌, Bool, true, false, List, [], ◌∷◌, ◌++◌, length, take, get_or, arith}
use Rattle.std.specs.Prelude.{◌↔◌, Result, Ok, Err, IfOk}
use Rattle.std.proofs.lemmas.Bool.{cases_lt}
use Rattle.std.proofs.lemmas.List.{get_or_append_left, get_or_push, length_push}
use Rattle.il_core.specs.LineGraph.{IsIn}
use Rattle.flow_graph.specs.Search.{IsMarked, IsUnmarked}
use Rattle.flow_graph.specs.Reached.{Lists}
use Rattle.flow_graph.proofs.Members.{IsIn-append_left, IsIn-push, IsIn-push_cases, IsIn-get_or, IsIn-more_cases, IsIn-more_old, IsIn-more_new}
use Rattle.flow_graph.proofs.Spreading.{marked_within}

-- a mark is set or not
pub marked_or : (marks : List Bool) (k : ℕ) → IsMarked marks k ⊎ IsUnmarked marks k
marked_or marks k = by_mark (get_or marks k false) refl
  where
    by_mark : (m : Bool) → get_or marks k false ≡ m → IsMarked marks k ⊎ IsUnmarked marks k
    by_mark true e = inl e
    by_mark false e = inr e

pub not_both : (marks : List Bool) (k : ℕ) → IsMarked marks k → IsUnmarked marks k → ⊥
not_both marks k m u = cc

pub unmarked_from : (marks : List Bool) (k : ℕ) → (IsMarked marks k → ⊥) → IsUnmarked marks k
unmarked_from marks k n = elim (marked_or marks k) [ inl m ↦ absurd (n m) | inr u ↦ u ]

-- the marks behind a push: the old ones, and the new one where it is set
pub marked_push : (marks : List Bool) (n : ℕ) (b : Bool) (k : ℕ) → length marks ≡ n → IsMarked (marks ++ b ∷ []) k ↔ (IsMarked marks k ⊎ ((k ≡ n) × (b ≡ true)))
marked_push marks n b k l = (there, back)
  where
    there : IsMarked (marks ++ b ∷ []) k → IsMarked marks k ⊎ ((k ≡ n) × (b ≡ true))
    there h = elim (cases_lt k (length marks)) [
      | inl low ↦ inl (sym (get_or_append_left marks (b ∷ []) false k low) ∙ h)
      | inr high ↦
          let within = marked_within (marks ++ b ∷ []) k h in
          let size = length_push marks b in
          let same : k ≡ n = omega (arith, within, size, high, l) in
          inr (same, sym (get_or_push marks b false k (l ∙ sym same)) ∙ h)
    ]

    back : IsMarked marks k ⊎ ((k ≡ n) × (b ≡ true)) → IsMarked (marks ++ b ∷ []) k
    back (inl m) = get_or_append_left marks (b ∷ []) false k (marked_within marks k m) ∙ m
    back (inr e) = get_or_push marks b false k (l ∙ sym e.0) ∙ e.1

-- a property of the same lines has the same list
pub lists_same : (P Q : ℕ → Type 0) (xs : List ℕ) → Lists P xs → ((k : ℕ) → P k ↔ Q k) → Lists Q xs
lists_same P Q xs l e = record { ascending = l.ascending; exact = λ k. (λ i. (e k).0 ((l.exact k).0 i), λ q. (l.exact k).1 ((e k).1 q)) }

-- a line greater than all lines so far goes to the end
pub lists_push : (P Q : ℕ → Type 0) (xs : List ℕ) (x : ℕ) → Lists P xs → ((k : ℕ) → P k → k < x) → ((k : ℕ) → Q k ↔ (P k ⊎ (k ≡ x))) → Lists Q (xs ++ x ∷ [])
lists_push P Q xs x l low e = record {
  ascending = rises;
  exact = λ k. (
    λ i. elim (IsIn-push_cases xs x k i) [ inl old ↦ (e k).1 (inl ((l.exact k).0 old)) | inr new ↦ (e k).1 (inr (sym new)) ],
    λ q. elim ((e k).0 q) [ inl p ↦ IsIn-append_left xs (x ∷ []) k ((l.exact k).1 p) | inr same ↦ rw same (IsIn-push xs x) ],
  );
}
  where
    rises : (k : ℕ) → k + 1 < length (xs ++ x ∷ []) → get_or (xs ++ x ∷ []) k 0 < get_or (xs ++ x ∷ []) (k + 1) 0
    rises k h = elim (cases_lt (k + 1) (length xs)) [
      | inl inside ↦
          let here = get_or_append_left xs (x ∷ []) 0 k (omega arith) in
          let next = get_or_append_left xs (x ∷ []) 0 (k + 1) inside in
          let up = l.ascending k inside in
          omega (arith, here, next, up)
      | inr over ↦
          let s = length_push xs x in
          let end : k + 1 ≡ length xs = omega (arith, s, h, over) in
          let within : k < length xs = omega arith in
          let here = get_or_append_left xs (x ∷ []) 0 k within in
          let next = get_or_push xs x 0 (k + 1) (sym end) in
          let up = low (get_or xs k 0) ((l.exact (get_or xs k 0)).0 (IsIn-get_or xs k 0 within)) in
          omega (arith, here, next, up)
    ]

-- nothing is listed where nothing has the property
pub lists_none : (P : ℕ → Type 0) → ((k : ℕ) → P k → ⊥) → Lists P []
lists_none P none = record { ascending = λ k h. absurd (omega arith); exact = λ k. (λ i. absurd i, λ p. absurd (none k p)) }

-- the marked lines below the next line: those so far, and this one where it is marked
pub marked_next : (marks : List Bool) (n : ℕ) → IsMarked marks n → (k : ℕ) → (IsMarked marks k × (k < n + 1)) ↔ ((IsMarked marks k × (k < n)) ⊎ (k ≡ n))
marked_next marks n m k = (there, back)
  where
    there : IsMarked marks k × (k < n + 1) → (IsMarked marks k × (k < n)) ⊎ (k ≡ n)
    there p = elim (cases_lt k n) [ inl low ↦ inl (p.0, low) | inr high ↦ let b = p.1 in inr (omega (arith, high, b)) ]

    back : (IsMarked marks k × (k < n)) ⊎ (k ≡ n) → IsMarked marks k × (k < n + 1)
    back (inl p) = let b = p.1 in (p.0, omega (arith, b))
    back (inr e) = (rw e m, omega (arith, e))

pub skipped_next : (marks : List Bool) (n : ℕ) → IsUnmarked marks n → (k : ℕ) → (IsMarked marks k × (k < n)) ↔ (IsMarked marks k × (k < n + 1))
skipped_next marks n u k = (λ p. let b = p.1 in (p.0, omega (arith, b)), back)
  where
    back : IsMarked marks k × (k < n + 1) → IsMarked marks k × (k < n)
    back p = elim (cases_lt k n) [
      | inl low ↦ (p.0, low)
      | inr high ↦ let b = p.1 in let e : k ≡ n = omega (arith, high, b) in let m : IsMarked marks n = rw e at p.0 in absurd (not_both marks n m u)
    ]

-- two equivalences, one behind the other
pub both_ways : {A B C : Type 0} → (A ↔ B) → (B ↔ C) → A ↔ C
both_ways f g = (λ a. g.0 (f.0 a), λ c. f.1 (g.1 c))

-- the marked lines of a front with one line more: that line goes to the end where it is marked
pub kept_more : (row : List ℕ) (marks : List Bool) (i : ℕ) (lines : List ℕ) → i < length row → ((k : ℕ) → IsIn lines k ↔ (IsIn (take i row) k × IsMarked marks k))
    → IsMarked marks (get_or row i 0) → (k : ℕ) → IsIn (lines ++ get_or row i 0 ∷ []) k ↔ (IsIn (take (i + 1) row) k × IsMarked marks k)
kept_more row marks i lines l e m k = (there, back)
  where
    there : IsIn (lines ++ get_or row i 0 ∷ []) k → IsIn (take (i + 1) row) k × IsMarked marks k
    there h = elim (IsIn-push_cases lines (get_or row i 0) k h) [
      | inl old ↦ let p = (e k).0 old in (IsIn-more_old row i 0 k l p.0, p.1)
      | inr new ↦ rw (← new) (IsIn-more_new row i 0 l, m)
    ]

    back : IsIn (take (i + 1) row) k × IsMarked marks k → IsIn (lines ++ get_or row i 0 ∷ []) k
    back p = elim (IsIn-more_cases row i 0 k l p.0) [
      | inl old ↦ IsIn-append_left lines (get_or row i 0 ∷ []) k ((e k).1 (old, p.1))
      | inr new ↦ rw (← new) (IsIn-push lines (get_or row i 0))
    ]

pub left_more : (row : List ℕ) (marks : List Bool) (i : ℕ) (lines : List ℕ) → i < length row → ((k : ℕ) → IsIn lines k ↔ (IsIn (take i row) k × IsMarked marks k))
    → IsUnmarked marks (get_or row i 0) → (k : ℕ) → IsIn lines k ↔ (IsIn (take (i + 1) row) k × IsMarked marks k)
left_more row marks i lines l e u k = (λ h. let p = (e k).0 h in (IsIn-more_old row i 0 k l p.0, p.1), back)
  where
    back : IsIn (take (i + 1) row) k × IsMarked marks k → IsIn lines k
    back p = elim (IsIn-more_cases row i 0 k l p.0) [
      | inl old ↦ (e k).1 (old, p.1)
      | inr new ↦ absurd (not_both marks k p.1 (rw new at u))
    ]

-- what follows from an answer follows where it is given
pub ok_map : {T E : Type 0} (r : Result T E) (P Q : T → Type 0) → ((x : T) → P x → Q x) → IfOk r P → IfOk r Q
ok_map (Ok x) P Q f h = f x h
ok_map (Err e) P Q f h = h
