-- A search that keeps a path to each marked line: what the lines of one row do, and what stays true until there is no work left.
use Rattle.std.proofs.Common.{◌≡◌, ◌≢◌, ◌⊎◌, inl, inr, refl, sym, ap, ◌∙◌, ℕ, zero, suc, ◌+◌, ◌<◌, Bool, true, false, List, [], ◌∷◌, ◌++◌, length, take, set, get_or, replicate, arith, get_or-set_same, get_or-set_other}
use Rattle.std.proofs.lemmas.Bool.Decides.{eqb_tells}
use Rattle.std.proofs.lemmas.List.{length-set, length-replicate}
use Rattle.il_core.specs.LineGraph.{IsIn}
use Rattle.flow_graph.specs.Search.{IsMarked, IsUnmarked, row_of, Follows}
use Rattle.flow_graph.specs.Reached.{Differ}
use Rattle.flow_graph.specs.Expansion.{Expansion}
use Rattle.flow_graph.specs.Paths.{IsPathTo, ArePaths, Lengthened}
use Rattle.flow_graph.proofs.Members.{IsIn-push_cases, IsIn-more_cases, IsIn-more_old, IsIn-more_new}
use Rattle.flow_graph.proofs.Spreading.{walk_on, none_marked, Searching, searching_end}

-- a list that ends is not empty
pub pushed_some : (xs : List ℕ) (x : ℕ) → xs ++ x ∷ [] ≢ []
pushed_some [] x e = cc
pushed_some (y ∷ xs) x e = cc

-- a list is empty or not
pub empty_or : (xs : List ℕ) → (xs ≡ []) ⊎ (xs ≢ [])
empty_or [] = inl refl
empty_or (x ∷ xs) = inr (λ e. cc)

pub no_rows : (n k : ℕ) → row_of (replicate n []) k ≡ []
no_rows zero k = refl
no_rows (suc n) zero = refl
no_rows (suc n) (suc k) = no_rows n k

-- before the first line of a row nothing is done
pub lengthened_start : (marked : List Bool) (at : ℕ) (was : List (List ℕ)) → Lengthened [] marked at was was
lengthened_start marked at was = record { size = refl; kept = λ k h. refl; every = λ k i. absurd i; from = λ k. inl refl }

pub lengthened_skip : (row : List ℕ) (i : ℕ) (marked : List Bool) (at : ℕ) (was now : List (List ℕ)) → i < length row → Lengthened (take i row) marked at was now
    → (IsMarked marked (get_or row i 0) → row_of now (get_or row i 0) ≢ []) → Lengthened (take (i + 1) row) marked at was now
lengthened_skip row i marked at was now l e s = record {
  size = e.size;
  kept = e.kept;
  every = λ k h m. elim (IsIn-more_cases row i 0 k l h) [ inl old ↦ e.every k old m | inr new ↦ rw (← new) (s (rw (← new) at m)) ];
  from = λ k. elim (e.from k) [ inl p ↦ inl p | inr q ↦ inr (q.0, IsIn-more_old row i 0 k l q.1, q.2, q.3) ];
}

pub lengthened_set : (row : List ℕ) (i : ℕ) (marked : List Bool) (at : ℕ) (was now : List (List ℕ)) (path : List ℕ) → i < length row
    → Lengthened (take i row) marked at was now → get_or row i 0 < length now → IsMarked marked (get_or row i 0) → row_of now (get_or row i 0) ≡ []
    → row_of was at ≢ [] → path ≡ row_of now at ++ get_or row i 0 ∷ [] → Lengthened (take (i + 1) row) marked at was (set now (get_or row i 0) path)
lengthened_set row i marked at was now path l e w m none some p = record {
  size = length-set now x path ∙ e.size;
  kept = λ k h. elim (eqb_tells k x) [
    | inl same ↦ absurd (h (sym (e.kept k h) ∙ ap (row_of now) same.1 ∙ none))
    | inr other ↦ get_or-set_other now x k path [] other.1 ∙ e.kept k h
  ];
  every = λ k h t. elim (eqb_tells k x) [
    | inl same ↦ λ z. pushed_some (row_of now at) x (sym p ∙ sym (at_x k same.1) ∙ z)
    | inr other ↦ elim (IsIn-more_cases row i 0 k l h) [
      | inl old ↦ λ z. e.every k old t (sym (get_or-set_other now x k path [] other.1) ∙ z)
      | inr new ↦ absurd (other.1 (sym new))
    ]
  ];
  from = λ k. elim (eqb_tells k x) [
    | inl same ↦ inr (
      was_none k same.1,
      rw same.1 (IsIn-more_new row i 0 l),
      rw same.1 m,
      at_x k same.1 ∙ p ∙ ap (λ (xs : List ℕ). xs ++ get_or row i 0 ∷ []) (e.kept at some) ∙ ap (λ (y : ℕ). row_of was at ++ y ∷ []) (sym same.1),
    )
    | inr other ↦ elim (e.from k) [
      | inl q ↦ inl (get_or-set_other now x k path [] other.1 ∙ q)
      | inr q ↦ inr (q.0, IsIn-more_old row i 0 k l q.1, q.2, get_or-set_other now x k path [] other.1 ∙ q.3)
    ]
  ];
}
  where
    x : ℕ
    x = get_or row i 0

    at_x : (k : ℕ) → k ≡ get_or row i 0 → row_of (set now (get_or row i 0) path) k ≡ path
    at_x k same = ap (row_of (set now (get_or row i 0) path)) same ∙ get_or-set_same now (get_or row i 0) path [] w

    was_none : (k : ℕ) → k ≡ get_or row i 0 → row_of was k ≡ []
    was_none k same = elim (e.from k) [ inl q ↦ sym q ∙ ap (row_of now) same ∙ none | inr q ↦ q.0 ]

-- what stays true of the paths in a search: one to each marked line over marked lines
pub record Tracking (rows : List (List ℕ)) (blocked : List Bool) (start : ℕ) (marks : List Bool) (paths : List (List ℕ)) : Type 0 where
  pub size : length paths ≡ length rows
  pub path : (k : ℕ) → row_of paths k ≢ [] → IsPathTo rows blocked start (row_of paths k) k
  pub over : (k j : ℕ) → IsIn (row_of paths k) j → IsMarked marks j
  pub some : (k : ℕ) → IsMarked marks k → row_of paths k ≢ []
  pub none : (k : ℕ) → IsUnmarked marks k → row_of paths k ≡ []

-- a path that is lengthened by a line that is not on it
pub differ_push : (xs : List ℕ) (x : ℕ) → Differ xs → (IsIn xs x → ⊥) → Differ (xs ++ x ∷ [])
differ_push [] x d n = (λ i. i, tt)
differ_push (y ∷ xs) x d n = (λ i. elim (IsIn-push_cases xs x y i) [ inl old ↦ d.0 old | inr new ↦ n (inl (sym new)) ], differ_push xs x d.1 (λ i. n (inr i)))

pub path_on : (rows : List (List ℕ)) (blocked : List Bool) (start : ℕ) (path : List ℕ) (at k : ℕ) → IsPathTo rows blocked start path at → Follows rows blocked at k
    → (IsIn path k → ⊥) → IsPathTo rows blocked start (path ++ k ∷ []) k
path_on rows blocked start [] at k p f n = absurd p
path_on rows blocked start (a ∷ lines) at k p f n = (p.0, differ_push (a ∷ lines) k p.1 n, walk_on (Follows rows blocked) a lines at k p.2 f)

unmarked_or : (marks : List Bool) (k : ℕ) → IsMarked marks k ⊎ IsUnmarked marks k
unmarked_or marks k = by_mark (get_or marks k false) refl
  where
    by_mark : (m : Bool) → get_or marks k false ≡ m → IsMarked marks k ⊎ IsUnmarked marks k
    by_mark true e = inl e
    by_mark false e = inr e

-- the start has its path
pub tracking_start : (rows : List (List ℕ)) (blocked : List Bool) (start : ℕ) (marks : List Bool) (work : List ℕ) (path : List ℕ)
    → Expansion (start ∷ []) blocked (replicate (length rows) false) [] marks work → start < length rows → IsUnmarked blocked start → path ≡ start ∷ []
    → Tracking rows blocked start marks (set (replicate (length rows) []) start path)
tracking_start rows blocked start marks work path e l u p = record {
  size = length-set (replicate (length rows) []) start path ∙ length-replicate (length rows) [];
  path = λ k h. elim (eqb_tells k start) [
    | inl same ↦ rw (here k same.1 ∙ p, same.1) (refl, (λ i. i, tt), refl)
    | inr other ↦ absurd (h (there k other.1))
  ];
  over = λ k j i. elim (eqb_tells k start) [
    | inl same ↦ elim (rw (here k same.1 ∙ p) at i) [ inl e ↦ rw (← e) start_marked | inr n ↦ absurd n ]
    | inr other ↦ absurd (rw (there k other.1) at i)
  ];
  some = λ k m. elim (e.from k m) [
    | inl old ↦ absurd (none_marked (length rows) k old)
    | inr new ↦ λ z. elim new.0 [ inl same ↦ pushed_some [] start (sym p ∙ sym (here k (sym same)) ∙ z) | inr n ↦ absurd n ]
  ];
  none = λ k m. elim (eqb_tells k start) [ inl same ↦ let t : IsMarked marks k = rw same.1 start_marked in absurd (cc) | inr other ↦ there k other.1 ];
}
  where
    start_marked : IsMarked marks start
    start_marked = e.every start (inl refl) u

    here : (k : ℕ) → k ≡ start → row_of (set (replicate (length rows) []) start path) k ≡ path
    here k same = ap (row_of (set (replicate (length rows) []) start path)) same
        ∙ get_or-set_same (replicate (length rows) []) start path [] (let s = length-replicate {A = List ℕ} (length rows) [] in omega (arith, s, l))

    there : (k : ℕ) → k ≢ start → row_of (set (replicate (length rows) []) start path) k ≡ []
    there k other = get_or-set_other (replicate (length rows) []) start k path [] other ∙ no_rows (length rows) k

-- one line of work is done
pub tracking_step : (rows : List (List ℕ)) (blocked : List Bool) (start : ℕ) (was : List Bool) (paths : List (List ℕ)) (before : List ℕ) (at : ℕ) (marks : List Bool)
    (work : List ℕ) (now : List (List ℕ)) → Tracking rows blocked start was paths → IsMarked was at → Expansion (row_of rows at) blocked was before marks work
    → Lengthened (row_of rows at) marks at paths now → Tracking rows blocked start marks now
tracking_step rows blocked start was paths before at marks work now t m e l = record {
  size = l.size ∙ t.size;
  path = λ k h. elim (l.from k) [
    | inl same ↦ rw same (t.path k (λ z. h (same ∙ z)))
    | inr new ↦ rw new.3 (path_on rows blocked start (row_of paths at) at k (t.path at (t.some at m)) (new.1, free k new) (fresh k new))
  ];
  over = λ k j i. elim (l.from k) [
    | inl same ↦ e.grown j (t.over k j (rw same at i))
    | inr new ↦ elim (IsIn-push_cases (row_of paths at) k j (rw new.3 at i)) [ inl old ↦ e.grown j (t.over at j old) | inr end ↦ rw (← end) new.2 ]
  ];
  some = λ k h. elim (e.from k h) [
    | inl old ↦ λ z. t.some k old (sym (l.kept k (t.some k old)) ∙ z)
    | inr new ↦ l.every k new.0 h
  ];
  none = λ k h. elim (l.from k) [
    | inl same ↦ same ∙ t.none k (still k h)
    | inr new ↦ let p = new.2 in absurd (cc)
  ];
}
  where
    New : ℕ → Type 0
    New k = (row_of paths k ≡ []) × IsIn (row_of rows at) k × IsMarked marks k × (row_of now k ≡ row_of paths at ++ k ∷ [])

    not_before : (k : ℕ) → row_of paths k ≡ [] → IsMarked was k → ⊥
    not_before k z w = t.some k w z

    free : (k : ℕ) → (row_of paths k ≡ []) × IsIn (row_of rows at) k × IsMarked marks k × (row_of now k ≡ row_of paths at ++ k ∷ []) → IsUnmarked blocked k
    free k new = elim (e.from k new.2) [ inl old ↦ absurd (t.some k old new.0) | inr q ↦ q.1 ]

    fresh : (k : ℕ) → (row_of paths k ≡ []) × IsIn (row_of rows at) k × IsMarked marks k × (row_of now k ≡ row_of paths at ++ k ∷ []) → IsIn (row_of paths at) k → ⊥
    fresh k new i = t.some k (t.over at k i) new.0

    still : (k : ℕ) → IsUnmarked marks k → IsUnmarked was k
    still k u = elim (unmarked_or was k) [ inl w ↦ let g = e.grown k w in absurd (cc) | inr n ↦ n ]

-- at the end there is a path to exactly what is found
pub tracking_end : (rows : List (List ℕ)) (blocked : List Bool) (start : ℕ) (marks : List Bool) (paths : List (List ℕ)) → Searching rows blocked (start ∷ []) marks []
    → Tracking rows blocked start marks paths → ArePaths rows blocked start paths
tracking_end rows blocked start marks paths s t = record {
  size = t.size;
  path = t.path;
  complete = λ k f. t.some k ((searching_end rows blocked (start ∷ []) marks s k).1 f);
}
