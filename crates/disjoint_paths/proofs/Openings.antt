-- What one open line more does to the state of a search.
use Rattle.std.proofs.Common.{◌≡◌, ◌≢◌, ◌⊎◌, inl, inr, refl, sym, ap, ◌∙◌, ℕ, ◌+◌, ◌<◌, ◌≤◌, cond, List, [], ◌∷◌, ◌++◌, length, take, set, get_or, arith}
use Rattle.std.specs.List.{count_by}
use Rattle.std.proofs.lemmas.Bool.Decides.{eqb_tells}
use Rattle.std.proofs.lemmas.List.{length-set, length_push, map-append, take-append-le, take_at, get_or_append_left, get_or_push, get_or_read, get_or-set_same, get_or-set_other}
use Rattle.std.proofs.lemmas.List.Sums.{sum_by-set}
use Rattle.il_core.specs.LineGraph.{IsIn}
use Rattle.flow_graph.specs.Search.{row_of}
use Rattle.flow_graph.proofs.Members.{IsIn-append_left, IsIn-push, IsIn-push_cases, IsIn-get_or, IsIn-more_cases}
use Rattle.disjoint_paths.specs.FirstPath.{IsInside, IsFirstPath}
use Rattle.disjoint_paths.specs.Widening.{IsOpening, AreOpened, IsWidening, IsGrown, IsKept, Suits, role_at, opened_at, line_of, lines_of, is_far}
use Rattle.disjoint_paths.specs.declared.widening.Role.{Role}
use Rattle.disjoint_paths.specs.declared.widening.Role.TheVariants.{Far, OnPath, Open}
use Rattle.disjoint_paths.specs.declared.widening.Origin.TheVariants.{Step, Jump}
use Rattle.disjoint_paths.specs.declared.widening.Opened.{Opened}

-- the lines behind one more
pub line_old : (opened : List Opened) (o : Opened) (v : ℕ) → IsIn (lines_of opened) v → IsIn (lines_of (opened ++ o ∷ [])) v
line_old opened o v h = rw (map-append line_of opened (o ∷ [])) (IsIn-append_left (lines_of opened) (o.line ∷ []) v h)

pub line_new : (opened : List Opened) (o : Opened) → IsIn (lines_of (opened ++ o ∷ [])) o.line
line_new opened o = rw (map-append line_of opened (o ∷ [])) (IsIn-push (lines_of opened) o.line)

pub line_cases : (opened : List Opened) (o : Opened) (v : ℕ) → IsIn (lines_of (opened ++ o ∷ [])) v → IsIn (lines_of opened) v ⊎ (o.line ≡ v)
line_cases opened o v h = IsIn-push_cases (lines_of opened) o.line v (rw (map-append line_of opened (o ∷ [])) at h)

-- the open lines behind one more
pub opened_old : (opened : List Opened) (o : Opened) (k : ℕ) → k < length opened → opened_at (opened ++ o ∷ []) k ≡ opened_at opened k
opened_old opened o k l = get_or_append_left opened (o ∷ []) _ k l

pub opened_new : (opened : List Opened) (o : Opened) (k : ℕ) → length opened ≡ k → opened_at (opened ++ o ∷ []) k ≡ o
opened_new opened o k e = get_or_push opened o _ k e

-- a number below a limit one higher
pub last_or_less : (k n : ℕ) → k < n + 1 → (k < n) ⊎ (n ≡ k)
last_or_less k n l = elim (eqb_tells k n) [ inl same ↦ inr (sym same.1) | inr other ↦ inl (let n = other.1 in omega arith) ]

-- what each open line is, behind one more
pub openings_more : (E : ℕ → ℕ → Type 0) (P : ℕ → Type 0) (t : ℕ) (path : List ℕ) (opened : List Opened) (o : Opened) → AreOpened E P t path opened
    → IsOpening E P t path opened o.line o.from o.origin → AreOpened E P t path (opened ++ o ∷ [])
openings_more E P t path opened o all here k l = elim (last_or_less k (length opened) (let e = length_push opened o in omega arith)) [
  | inl less ↦ same_opening (opened_at (opened ++ o ∷ []) k) (opened_at opened k) (take k (opened ++ o ∷ [])) (take k opened)
      (opened_old opened o k less) (take-append-le k opened (o ∷ []) (omega arith)) (all k less)
  | inr last ↦ same_opening (opened_at (opened ++ o ∷ []) k) o (take k (opened ++ o ∷ [])) opened (opened_new opened o k last) (take_at opened (o ∷ []) k last) here
]
  where
    same_opening : (a b : Opened) (xs ys : List Opened) → a ≡ b → xs ≡ ys → IsOpening E P t path ys b.line b.from b.origin → IsOpening E P t path xs a.line a.from a.origin
    same_opening a b xs ys e f h = rw (e, f) h

-- a line of a role keeps it where another line becomes open
suits_on : (path : List ℕ) (opened : List Opened) (o : Opened) (start begin v : ℕ) (r : Role) → v ≢ o.line → ((i : ℕ) → start ≤ i → get_or path i 0 ≢ o.line → begin ≤ i)
    → Suits path (lines_of opened) start v r → Suits path (lines_of (opened ++ o ∷ [])) begin v r
suits_on path opened o start begin v Far n later s = (s.0, λ h. elim (line_cases opened o v h) [ inl old ↦ s.1 old | inr same ↦ n (sym same) ])
suits_on path opened o start begin v (OnPath i) n later s = (s.0, s.1, later i s.2 (λ e. n (sym s.1 ∙ e)))
suits_on path opened o start begin v Open n later s = line_old opened o v s

-- one open line more, behind which the first path is open up to the index begin
pub widening_more : (E : ℕ → ℕ → Type 0) (P : ℕ → Type 0) (t : ℕ) (path : List ℕ) (n : ℕ) (roles : List Role) (opened : List Opened) (start limit : ℕ) (o : Opened) (begin : ℕ)
    → IsWidening E P t path n roles opened start limit → IsOpening E P t path opened o.line o.from o.origin → o.from ≤ limit → o.line < n → (P o.line → ⊥)
    → ((i : ℕ) → start ≤ i → get_or path i 0 ≢ o.line → begin ≤ i) → (0 < length path → (begin < length path) × (get_or path begin 0 ≢ t)) → begin ≤ length path
    → ((i : ℕ) → i < begin → (i < start) ⊎ (get_or path i 0 ≡ o.line))
    → IsWidening E P t path n (set roles o.line Open) (opened ++ o ∷ []) begin limit
widening_more E P t path n roles opened start limit o begin w here low inside clear later first short passed = record {
  size = length-set roles o.line Open ∙ w.size;
  openings = openings_more E P t path opened o w.openings here;
  limits = λ k l. elim (last_or_less k (length opened) (let e = length_push opened o in omega arith)) [
    | inl less ↦ rw (opened_old opened o k less) (w.limits k less)
    | inr last ↦ rw (opened_new opened o k last) low
  ];
  below = λ k h. elim (line_cases opened o k h) [ inl old ↦ w.below k old | inr same ↦ rw (← same) inside ];
  tail = line_old opened o t w.tail;
  clear = λ v h. elim (line_cases opened o v h) [ inl old ↦ w.clear v old | inr same ↦ inr (rw (← same) clear) ];
  suits = suits;
  first = first;
  begun = short;
  passed = λ i l. elim (passed i l) [ inl old ↦ line_old opened o _ (w.passed i old) | inr same ↦ rw same (line_new opened o) ];
}
  where
    suits : (v : ℕ) → v < n → Suits path (lines_of (opened ++ o ∷ [])) begin v (role_at (set roles o.line Open) v)
    suits v l = elim (eqb_tells v o.line) [
      | inl same ↦
          let e = w.size in
          let k : o.line < length roles = omega arith in
          let r : role_at (set roles o.line Open) v ≡ Open = rw same.1 (get_or-set_same roles o.line Open Far k) in
          rw r (rw same.1 (line_new opened o))
      | inr other ↦
          let r : role_at (set roles o.line Open) v ≡ role_at roles v = get_or-set_other roles o.line v Open Far other.1 in
          rw r (suits_on path opened o start begin v (role_at roles v) other.1 later (w.suits v l))
    ]

-- other paths may come to the first path later
pub limit_more : (E : ℕ → ℕ → Type 0) (P : ℕ → Type 0) (t : ℕ) (path : List ℕ) (n : ℕ) (roles : List Role) (opened : List Opened) (start limit to : ℕ)
    → IsWidening E P t path n roles opened start limit → limit ≤ to → IsWidening E P t path n roles opened start to
limit_more E P t path n roles opened start limit to w l = record {
  size = w.size;
  openings = w.openings;
  limits = λ k h. let m = w.limits k h in omega arith;
  below = w.below;
  tail = w.tail;
  clear = w.clear;
  suits = w.suits;
  first = w.first;
  begun = w.begun;
  passed = w.passed;
}

-- a state is no earlier than itself, and later states of later ones are later
pub grown_same : (P : ℕ → Type 0) (path : List ℕ) (roles : List Role) (opened : List Opened) (start : ℕ) → IsGrown P path roles opened start roles opened start
grown_same P path roles opened start = record { more = omega arith; same = λ k l. refl; kept = λ v h. h; left = omega arith }

pub grown_on : (P : ℕ → Type 0) (path : List ℕ) (a : List Role) (as_ : List Opened) (i : ℕ) (b : List Role) (bs : List Opened) (j : ℕ) (c : List Role) (cs : List Opened) (k : ℕ)
    → IsGrown P path a as_ i b bs j → IsGrown P path b bs j c cs k → IsGrown P path a as_ i c cs k
grown_on P path a as_ i b bs j c cs k g h = record {
  more = (let m = g.more in let n = h.more in omega arith);
  same = λ x l. (let m = g.more in h.same x (omega arith)) ∙ g.same x l;
  kept = λ v p. h.kept v (g.kept v p);
  left = (let m = g.left in let n = h.left in omega arith);
}

-- how many lines are far where one becomes open
far_less : (roles : List Role) (x : ℕ) → x < length roles → role_at roles x ≡ Far → count_by is_far (set roles x Open) + 1 ≡ count_by is_far roles
far_less roles x l e =
    let s = sum_by-set (λ (r : Role). cond (is_far r) 1 0) roles x Open Far l in
    let u = rw e at s in
    omega (arith, u)

far_no_more : (roles : List Role) (x : ℕ) → x < length roles → count_by is_far (set roles x Open) ≤ count_by is_far roles
far_no_more roles x l =
    let s = sum_by-set (λ (r : Role). cond (is_far r) 1 0) roles x Open Far l in
    omega arith

-- a line that is neither open nor on the first path is far
far_from : (path lines : List ℕ) (start v : ℕ) (r : Role) → Suits path lines start v r → (IsIn path v → ⊥) → (IsIn lines v → ⊥) → r ≡ Far
far_from path lines start v Far s p l = refl
far_from path lines start v (OnPath i) s p l = absurd (p (rw s.1 at (IsIn-get_or path i 0 s.0)))
far_from path lines start v Open s p l = absurd (l s)

-- a line becomes open by a step
pub widening_step : (E : ℕ → ℕ → Type 0) (P : ℕ → Type 0) (t : ℕ) (path : List ℕ) (n : ℕ) (roles : List Role) (opened : List Opened) (start : ℕ) (line before from : ℕ)
    → IsWidening E P t path n roles opened start start → before < length opened → E (opened_at opened before).line line → line < n → from ≡ (opened_at opened before).from
    → (IsIn path line → ⊥) → (IsIn (lines_of opened) line → ⊥) → IsInside P t line
    → IsWidening E P t path n (set roles line Open) (opened ++ (record { line = line; origin = Step before; from = from }) ∷ []) start start
widening_step E P t path n roles opened start line before from w b arc l f off fresh inside =
    widening_more E P t path n roles opened start start (record { line = line; origin = Step before; from = from }) start w
    (record { known = b; arc = arc; fresh = fresh; off = off; inside = inside; same = f }) (let m = w.limits before b in omega arith) l inside.0
    (λ i h n. h) w.first w.begun (λ i h. inl h)

pub grown_step : (E : ℕ → ℕ → Type 0) (P : ℕ → Type 0) (t : ℕ) (path : List ℕ) (n : ℕ) (roles : List Role) (opened : List Opened) (start limit : ℕ) (o : Opened)
    → IsWidening E P t path n roles opened start limit → o.line < n → (IsIn path o.line → ⊥) → (IsIn (lines_of opened) o.line → ⊥)
    → IsGrown P path roles opened start (set roles o.line Open) (opened ++ o ∷ []) start
grown_step E P t path n roles opened start limit o w l off fresh = record {
  more = (let e = length_push opened o in omega arith);
  same = λ k h. opened_old opened o k h;
  kept = λ v k. elim k [ inl first ↦ inl first | inr q ↦ inr (line_old opened o v q.0, q.1) ];
  left = (
      let e = length_push opened o in
      let s = w.size in
      let f = far_less roles o.line (omega arith) (far_from path (lines_of opened) start o.line (role_at roles o.line) (w.suits o.line l) off fresh) in
      omega arith
      );
}

-- the first line of the first path that was not open becomes open by a jump
pub widening_jump : (E : ℕ → ℕ → Type 0) (P : ℕ → Type 0) (t : ℕ) (path : List ℕ) (n : ℕ) (roles : List Role) (opened : List Opened) (start : ℕ) (before to : ℕ)
    → IsFirstPath E P t path → IsWidening E P t path n roles opened start to → before < length opened → (opened_at opened before).from ≤ start → start < to → to < length path
    → E (opened_at opened before).line (get_or path to 0) → get_or path to 0 ≢ t → get_or path start 0 < n
    → IsWidening E P t path n (set roles (get_or path start 0) Open) (opened ++ (record { line = get_or path start 0; origin = Jump before start; from = to }) ∷ []) (start + 1) to
widening_jump E P t path n roles opened start before to f w b low ahead within arc away l =
    widening_more E P t path n roles opened start to (record { line = get_or path start 0; origin = Jump before start; from = to }) (start + 1) w
    (record { known = b; ahead = ahead; within = within; is = refl; arc = arc; reached = low; passed = w.passed }) (omega arith) l (f.inside start (omega arith)).0
    later (λ h. (omega arith, first)) (omega arith) (λ i h. elim (last_or_less i start h) [ inl less ↦ inl less | inr last ↦ inr (ap (λ k. get_or path k 0) (sym last)) ])
  where
    later : (i : ℕ) → start ≤ i → get_or path i 0 ≢ get_or path start 0 → start + 1 ≤ i
    later i h n = elim (eqb_tells i start) [ inl same ↦ absurd (n (ap (λ k. get_or path k 0) same.1)) | inr other ↦ (let m = other.1 in omega arith) ]

    first : get_or path (start + 1) 0 ≢ t
    first = elim (eqb_tells (start + 1) to) [
      | inl same ↦ rw same.1 away
      | inr other ↦ (let m = other.1 in (f.inside (start + 1) (omega arith)).1)
    ]

pub grown_jump : (E : ℕ → ℕ → Type 0) (P : ℕ → Type 0) (t : ℕ) (path : List ℕ) (n : ℕ) (roles : List Role) (opened : List Opened) (start limit : ℕ) (o : Opened)
    → IsWidening E P t path n roles opened start limit → o.line < n → get_or path start 0 ≡ o.line → (P o.line → ⊥)
    → IsGrown P path roles opened start (set roles o.line Open) (opened ++ o ∷ []) (start + 1)
grown_jump E P t path n roles opened start limit o w l is clear = record {
  more = (let e = length_push opened o in omega arith);
  same = λ k h. opened_old opened o k h;
  kept = λ v k. elim k [
    | inl first ↦ inr (rw (← first.1) (rw is (line_new opened o)), rw (← first.1) (rw is clear))
    | inr q ↦ inr (line_old opened o v q.0, q.1)
  ];
  left = (
      let e = length_push opened o in
      let s = w.size in
      let f = far_no_more roles o.line (omega arith) in
      omega arith
      );
}

-- the row of an open line that was read
pub row_read : (rows : List (List ℕ)) (opened : List Opened) (before : ℕ) (o : Opened) (row : List ℕ) → row ≡ row_of rows o.line → o ≡ get_or opened before o → before < length opened
    → row ≡ row_of rows (opened_at opened before).line
row_read rows opened before o row e r l = e ∙ ap (λ (p : Opened). row_of rows p.line) (get_or_read opened before o l r _)

-- what arcs to one line more of a row may enter
pub kept_more : (P : ℕ → Type 0) (path row : List ℕ) (i : ℕ) (a : List Role) (as_ : List Opened) (j : ℕ) (b : List Role) (bs : List Opened) (k : ℕ) → i < length row
    → ((v : ℕ) → IsIn (take i row) v → IsKept P path as_ j v) → IsGrown P path a as_ j b bs k → IsKept P path bs k (get_or row i 0)
    → (v : ℕ) → IsIn (take (i + 1) row) v → IsKept P path bs k v
kept_more P path row i a as_ j b bs k l old g new v h = elim (IsIn-more_cases row i 0 v l h) [
  | inl p ↦ g.kept v (old v p)
  | inr same ↦ rw (← same) new
]

-- a line of the row of an open line that was read
pub row_entry : (rows : List (List ℕ)) (opened : List Opened) (before : ℕ) (o : Opened) (row : List ℕ) (i : ℕ) → row ≡ row_of rows o.line → o ≡ get_or opened before o → before < length opened
    → i < length row → IsIn (row_of rows (opened_at opened before).line) (get_or row i 0)
row_entry rows opened before o row i e r l h = rw (← row_read rows opened before o row e r l) (IsIn-get_or row i 0 h)
