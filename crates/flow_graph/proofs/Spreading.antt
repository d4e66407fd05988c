-- A search marks exactly what it finds: what the lines of one row do, and what stays true until there is no work left.
use Rattle.std.proofs.Common.{◌≡◌, ◌⊎◌, inl, inr, refl, sym, ◌∙◌, ℕ, zero, suc, ◌+◌, ◌<◌, Bool, true, false, cond, List, [], ◌∷◌, ◌++◌, length, take, set, get_or, replicate, arith, get_or-set_same, get_or-set_other}
use Rattle.std.specs.Prelude.{not, ◌↔◌}
use Rattle.std.specs.List.{count_by}
use Rattle.std.proofs.lemmas.Bool.Decides.{eqb_tells}
use Rattle.std.proofs.lemmas.List.{length-set, length_push, length-replicate}
use Rattle.std.proofs.lemmas.List.Sums.{sum_by-set}
use Rattle.il_core.specs.LineGraph.{IsIn}
use Rattle.flow_graph.specs.Search.{IsWalk, IsMarked, IsUnmarked, row_of, Follows, IsFound}
use Rattle.flow_graph.specs.Expansion.{Expansion}
use Rattle.flow_graph.proofs.Members.{IsIn-append_left, IsIn-push, IsIn-push_cases, IsIn-more_cases, IsIn-more_old, IsIn-more_new}

-- a walk goes on along one arc more
pub walk_on : (E : ℕ → ℕ → Type 0) (a : ℕ) (lines : List ℕ) (b c : ℕ) → IsWalk E a lines b → E b c → IsWalk E a (lines ++ c ∷ []) c
walk_on E a [] b c w e = (rw w e, refl)
walk_on E a (d ∷ rest) b c w e = (w.0, walk_on E d rest b c w.1 e)

-- what the start of a walk has and each arc keeps, its end has
pub walk_keeps : (E : ℕ → ℕ → Type 0) (P : ℕ → Type 0) → ((a b : ℕ) → P a → E a b → P b) → (a : ℕ) (lines : List ℕ) (b : ℕ) → IsWalk E a lines b → P a → P b
walk_keeps E P keeps a [] b w h = rw (← w) h
walk_keeps E P keeps a (c ∷ rest) b w h = walk_keeps E P keeps c rest b w.1 (keeps a c h w.0)

-- walks along arcs of one kind are walks along arcs of another where each is one of those
pub walk_along : (E F : ℕ → ℕ → Type 0) → ((a b : ℕ) → E a b → F a b) → (a : ℕ) (lines : List ℕ) (b : ℕ) → IsWalk E a lines b → IsWalk F a lines b
walk_along E F f a [] b w = w
walk_along E F f a (c ∷ rest) b w = (f a c w.0, walk_along E F f c rest b w.1)

-- a marked line is one of the lines
pub marked_within : (marks : List Bool) (k : ℕ) → IsMarked marks k → k < length marks
marked_within [] k h = absurd (cc)
marked_within (m ∷ marks) zero h = omega arith
marked_within (m ∷ marks) (suc k) h = let l = marked_within marks k h in omega arith

-- where none is marked, none is
pub none_marked : (n k : ℕ) → IsMarked (replicate n false) k → ⊥
none_marked zero k h = cc
none_marked (suc n) zero h = cc
none_marked (suc n) (suc k) h = none_marked n k h

pub none_unmarked : (n k : ℕ) → IsUnmarked (replicate n false) k
none_unmarked zero k = refl
none_unmarked (suc n) zero = refl
none_unmarked (suc n) (suc k) = none_unmarked n k

-- a line that is not open, and not blocked, is marked
pub closed_marked : (blocked now : List Bool) (x : ℕ) (r : Bool) → (IsUnmarked blocked x × IsUnmarked now x → r ≡ true) → r ≡ false → IsUnmarked blocked x → IsMarked now x
closed_marked blocked now x r f e o = by_mark (get_or now x false) refl
  where
    by_mark : (m : Bool) → get_or now x false ≡ m → m ≡ true
    by_mark true k = refl
    by_mark false k = let t = f (o, k) in absurd (cc)

-- a line is marked after it is, and all others stay as they were
pub marked_new : (marks : List Bool) (x : ℕ) → x < length marks → IsMarked (set marks x true) x
marked_new marks x l = get_or-set_same marks x true false l

pub marked_cases : (marks : List Bool) (x k : ℕ) → IsMarked (set marks x true) k → (x ≡ k) ⊎ IsMarked marks k
marked_cases marks x k h = elim (eqb_tells k x) [
  | inl same ↦ inl (sym same.1)
  | inr other ↦ inr (sym (get_or-set_other marks x k true false other.1) ∙ h)
]

pub marked_old : (marks : List Bool) (x k : ℕ) → x < length marks → IsMarked marks k → IsMarked (set marks x true) k
marked_old marks x k l h = elim (eqb_tells k x) [
  | inl same ↦ rw same.1 (marked_new marks x l)
  | inr other ↦ get_or-set_other marks x k true false other.1 ∙ h
]

-- before the first line of a row nothing is done
pub expansion_start : (blocked was : List Bool) (before : List ℕ) → Expansion [] blocked was before was before
expansion_start blocked was before = record {
  size = refl;
  grown = λ k h. h;
  every = λ k h o. absurd h;
  from = λ k h. inl h;
  queued = λ k h. inl h;
  kept = λ k h. h;
  added = λ k h. inl h;
  left = refl;
}

-- a line that is blocked or marked changes nothing
pub expansion_skip : (row : List ℕ) (i d : ℕ) (blocked was : List Bool) (before : List ℕ) (now : List Bool) (work : List ℕ) → i < length row
    → Expansion (take i row) blocked was before now work → (IsUnmarked blocked (get_or row i d) → IsMarked now (get_or row i d))
    → Expansion (take (i + 1) row) blocked was before now work
expansion_skip row i d blocked was before now work l e m = record {
  size = e.size;
  grown = e.grown;
  every = λ k h o. elim (IsIn-more_cases row i d k l h) [ inl p ↦ e.every k p o | inr same ↦ marked k same o ];
  from = λ k h. elim (e.from k h) [ inl p ↦ inl p | inr q ↦ inr (IsIn-more_old row i d k l q.0, q.1) ];
  queued = e.queued;
  kept = e.kept;
  added = e.added;
  left = e.left;
}
  where
    marked : (k : ℕ) → get_or row i d ≡ k → IsUnmarked blocked k → IsMarked now k
    marked k same o = rw same at m o

-- a line that is neither is marked and becomes work
pub expansion_mark : (row : List ℕ) (i d : ℕ) (blocked was : List Bool) (before : List ℕ) (now : List Bool) (work : List ℕ) → i < length row
    → Expansion (take i row) blocked was before now work → IsUnmarked blocked (get_or row i d) → IsUnmarked now (get_or row i d) → get_or row i d < length now
    → Expansion (take (i + 1) row) blocked was before (set now (get_or row i d) true) (work ++ get_or row i d ∷ [])
expansion_mark row i d blocked was before now work l e free new within = record {
  size = length-set now x true ∙ e.size;
  grown = λ k h. marked_old now x k within (e.grown k h);
  every = λ k h o. elim (IsIn-more_cases row i d k l h) [ inl p ↦ marked_old now x k within (e.every k p o) | inr same ↦ rw (← same) (marked_new now x within) ];
  from = λ k h. elim (marked_cases now x k h) [
    | inl same ↦ inr (rw (← same) (IsIn-more_new row i d l, free))
    | inr old ↦ elim (e.from k old) [ inl p ↦ inl p | inr q ↦ inr (IsIn-more_old row i d k l q.0, q.1) ]
  ];
  queued = λ k h. elim (marked_cases now x k h) [
    | inl same ↦ inr (rw (← same) (IsIn-push work x))
    | inr old ↦ elim (e.queued k old) [ inl p ↦ inl p | inr q ↦ inr (IsIn-append_left work (x ∷ []) k q) ]
  ];
  kept = λ k h. IsIn-append_left work (x ∷ []) k (e.kept k h);
  added = λ k h. elim (IsIn-push_cases work x k h) [
    | inl p ↦ elim (e.added k p) [ inl b ↦ inl b | inr m ↦ inr (marked_old now x k within m) ]
    | inr same ↦ inr (rw (← same) (marked_new now x within))
  ];
  left = count;
}
  where
    x : ℕ
    x = get_or row i d

    count : count_by not (set now (get_or row i d) true) + length (work ++ get_or row i d ∷ []) ≡ count_by not was + length before
    count =
        let s = sum_by-set (λ b. cond (not b) 1 0) now (get_or row i d) true false within in
        let t = rw new at s in
        let p = length_push work (get_or row i d) in
        omega (arith, t, p, e.left)

-- what stays true in a search
pub record Searching (rows : List (List ℕ)) (blocked : List Bool) (seeds : List ℕ) (marks : List Bool) (work : List ℕ) : Type 0 where
  pub size : length marks ≡ length rows
  pub sound : (k : ℕ) → IsMarked marks k → IsFound rows blocked seeds k
  pub queued : (k : ℕ) → IsIn work k → IsMarked marks k
  pub seeded : (k : ℕ) → IsIn seeds k → IsUnmarked blocked k → IsMarked marks k
  pub closed : (k : ℕ) → IsMarked marks k → IsIn work k ⊎ ((j : ℕ) → IsIn (row_of rows k) j → IsUnmarked blocked j → IsMarked marks j)

pub searching_start : (rows : List (List ℕ)) (blocked : List Bool) (seeds : List ℕ) (marks : List Bool) (work : List ℕ)
    → Expansion seeds blocked (replicate (length rows) false) [] marks work → Searching rows blocked seeds marks work
searching_start rows blocked seeds marks work e = record {
  size = e.size ∙ length-replicate (length rows) false;
  sound = λ k h. elim (e.from k h) [ inl old ↦ absurd (none_marked (length rows) k old) | inr q ↦ record { seed = k; given = q.0; free = q.1; reached = ([], refl) } ];
  queued = λ k h. elim (e.added k h) [ inl b ↦ absurd b | inr m ↦ m ];
  seeded = e.every;
  closed = λ k h. elim (e.queued k h) [ inl old ↦ absurd (none_marked (length rows) k old) | inr w ↦ inl w ];
}

-- a line that follows a line that is found is found
pub found_on : (rows : List (List ℕ)) (blocked : List Bool) (seeds : List ℕ) (a b : ℕ) → IsFound rows blocked seeds a → IsIn (row_of rows a) b → IsUnmarked blocked b
    → IsFound rows blocked seeds b
found_on rows blocked seeds a b f i o = record {
  seed = f.seed;
  given = f.given;
  free = f.free;
  reached = (f.reached.0 ++ b ∷ [], walk_on (Follows rows blocked) f.seed f.reached.0 a b f.reached.1 (i, o));
}

pub searching_step : (rows : List (List ℕ)) (blocked : List Bool) (seeds : List ℕ) (was : List Bool) (before : List ℕ) (x : ℕ) (marks : List Bool) (work : List ℕ)
    → Searching rows blocked seeds was (before ++ x ∷ []) → Expansion (row_of rows x) blocked was before marks work → Searching rows blocked seeds marks work
searching_step rows blocked seeds was before x marks work s e = record {
  size = e.size ∙ s.size;
  sound = λ k h. elim (e.from k h) [
    | inl old ↦ s.sound k old
    | inr q ↦ found_on rows blocked seeds x k (s.sound x (s.queued x (IsIn-push before x))) q.0 q.1
  ];
  queued = λ k h. elim (e.added k h) [ inl b ↦ e.grown k (s.queued k (IsIn-append_left before (x ∷ []) k b)) | inr m ↦ m ];
  seeded = λ k h o. e.grown k (s.seeded k h o);
  closed = λ k h. elim (e.queued k h) [ inl old ↦ still k (s.closed k old) | inr w ↦ inl w ];
}
  where
    still : (k : ℕ) → IsIn (before ++ x ∷ []) k ⊎ ((j : ℕ) → IsIn (row_of rows k) j → IsUnmarked blocked j → IsMarked was j)
        → IsIn work k ⊎ ((j : ℕ) → IsIn (row_of rows k) j → IsUnmarked blocked j → IsMarked marks j)
    still k (inl w) = elim (IsIn-push_cases before x k w) [ inl b ↦ inl (e.kept k b) | inr same ↦ inr (rw same at e.every) ]
    still k (inr c) = inr (λ j i o. e.grown j (c j i o))

-- at the end exactly what is found is marked
pub searching_end : (rows : List (List ℕ)) (blocked : List Bool) (seeds : List ℕ) (marks : List Bool) → Searching rows blocked seeds marks []
    → (k : ℕ) → IsMarked marks k ↔ IsFound rows blocked seeds k
searching_end rows blocked seeds marks s k = (s.sound k, λ f. walk_keeps (Follows rows blocked) (IsMarked marks) keeps f.seed f.reached.0 k f.reached.1 (s.seeded f.seed f.given f.free))
  where
    keeps : (a b : ℕ) → IsMarked marks a → Follows rows blocked a b → IsMarked marks b
    keeps a b m w = elim (s.closed a m) [ inl n ↦ absurd n | inr c ↦ c b w.0 w.1 ]
