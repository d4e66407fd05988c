-- Fans of open lines: where they begin, how a step and a jump carry them on, and how they end in two paths.
use Rattle.std.proofs.Common.{◌≡◌, ◌⊎◌, inl, inr, refl, sym, ap, ◌∙◌, ℕ, ◌+◌, ◌<◌, ◌≤◌, List, [], ◌∷◌, ◌++◌, length, drop, get_or, arith}
use Rattle.std.proofs.lemmas.List.{append_assoc, drop_more, length_push, length-append, length-drop, get_or_append_left}
use Rattle.il_core.specs.LineGraph.{IsIn}
use Rattle.flow_graph.specs.Search.{IsWalk}
use Rattle.flow_graph.proofs.Members.{IsIn-append_left, IsIn-append_right, IsIn-append_cases, IsIn-push_cases, IsIn-get_or}
use Rattle.flow_graph.proofs.Spreading.{walk_on}
use Rattle.disjoint_paths.specs.Pair.{ArePaths}
use Rattle.disjoint_paths.specs.FirstPath.{IsInside, IsFirstPath}
use Rattle.disjoint_paths.specs.Fan.{IsFan}
use Rattle.disjoint_paths.proofs.Lists.{Differ-append, Differ-left, Differ-apart, Differ-between, Differ-swap, IsIn-drop, part, drop_part, part_more, place_in_part}
use Rattle.disjoint_paths.proofs.Walks.{walk_join, walk_split, walk_last, LeadsTo-from_walk}

-- the fan of line t
pub fan_start : (E : ℕ → ℕ → Type 0) (P : ℕ → Type 0) (t : ℕ) (path seen : List ℕ) → IsFirstPath E P t path → IsFan E P t path seen t 0 [] []
fan_start E P t path seen f = record {
  leads = refl;
  other = λ x w. w;
  differ = f.differ;
  known = λ v h. absurd h;
  inside = λ v h. absurd h;
}

-- a step to a line that is neither known nor on the first path
pub fan_step : (E : ℕ → ℕ → Type 0) (P : ℕ → Type 0) (t : ℕ) (path seen now : List ℕ) (u from line : ℕ) (to beside : List ℕ) → IsFan E P t path seen u from to beside
    → ((v : ℕ) → IsIn seen v → IsIn now v) → IsIn now line → E u line → (IsIn path line → ⊥) → (IsIn seen line → ⊥) → IsInside P t line
    → IsFan E P t path now line from (to ++ line ∷ []) beside
fan_step E P t path seen now u from line to beside f more new arc off fresh inside = record {
  leads = walk_on E t to u line f.leads arc;
  other = f.other;
  differ = Differ-between to (beside ++ drop from path) line f.differ (λ h. fresh (f.known line (IsIn-append_left to beside line h))) behind;
  known = λ v h. elim (cases v h) [ inl old ↦ more v (f.known v old) | inr same ↦ rw (← same) new ];
  inside = λ v h. elim (cases v h) [ inl old ↦ f.inside v old | inr same ↦ rw (← same) inside ];
}
  where
    behind : IsIn (beside ++ drop from path) line → ⊥
    behind h = elim (IsIn-append_cases beside (drop from path) line h) [
      | inl p ↦ fresh (f.known line (IsIn-append_right to beside line p))
      | inr q ↦ off (IsIn-drop from path line q)
    ]

    cases : (v : ℕ) → IsIn ((to ++ line ∷ []) ++ beside) v → IsIn (to ++ beside) v ⊎ (line ≡ v)
    cases v h = elim (IsIn-append_cases (to ++ line ∷ []) beside v h) [
      | inl p ↦ elim (IsIn-push_cases to line v p) [ inl old ↦ inl (IsIn-append_left to beside v old) | inr same ↦ inr same ]
      | inr q ↦ inl (IsIn-append_right to beside v q)
    ]

-- a walk that goes on along the first path behind an index, where an arc leads to that index
swapped : (E : ℕ → ℕ → Type 0) (t u x : ℕ) (to beside f k : List ℕ) (p : ℕ) (rest : List ℕ) → IsWalk E t to u → E u p → IsWalk E t (beside ++ (f ++ (k ++ p ∷ rest))) x
    → IsWalk E t (to ++ p ∷ rest) x
swapped E t u x to beside f k p rest leads arc w =
    let a = walk_split E t beside (f ++ (k ++ p ∷ rest)) x w in
    let b = walk_split E a.0 f (k ++ p ∷ rest) x a.2 in
    let c = walk_split E b.0 k (p ∷ rest) x b.2 in
    walk_join E t to u (p ∷ rest) x leads (arc, c.2.1)

swapped_at : (E : ℕ → ℕ → Type 0) (t u x : ℕ) (to beside f k r : List ℕ) (p : ℕ) (rest : List ℕ) → r ≡ p ∷ rest → IsWalk E t to u → E u p → IsWalk E t (beside ++ (f ++ (k ++ r))) x
    → IsWalk E t (to ++ r) x
swapped_at E t u x to beside f k r p rest e leads arc w = rw e (swapped E t u x to beside f k p rest leads arc (rw e at w))

-- a walk as far as a line on it
as_far : (E : ℕ → ℕ → Type 0) (t x : ℕ) (beside g : List ℕ) (w : ℕ) (ys : List ℕ) → IsWalk E t (beside ++ ((g ++ w ∷ []) ++ ys)) x → IsWalk E t (beside ++ (g ++ w ∷ [])) w
as_far E t x beside g w ys h =
    let a = walk_split E t (beside ++ (g ++ w ∷ [])) ys x (rw (append_assoc beside (g ++ w ∷ []) ys) h) in
    let e = walk_last E t (beside ++ g) w a.0 (rw (append_assoc beside g (w ∷ [])) a.1) in
    rw (← e) at a.1

-- a jump: the other path goes on to a line of the first path, and an arc leads to a later line of it
pub fan_jump : (E : ℕ → ℕ → Type 0) (P : ℕ → Type 0) (t : ℕ) (path seen now : List ℕ) (u from place into : ℕ) (to beside : List ℕ) → IsFirstPath E P t path
    → IsFan E P t path seen u from to beside → ((v : ℕ) → IsIn seen v → IsIn now v) → ((i : ℕ) → i < place + 1 → IsIn now (get_or path i 0))
    → from ≤ place → place < into → into < length path → E u (get_or path into 0)
    → IsFan E P t path now (get_or path place 0) into (beside ++ part path from (place + 1)) to
fan_jump E P t path seen now u from place into to beside first f more passed low ahead within arc = record {
  leads = (
      let w = f.other first.stop first.walk in
      let v = rw (split, last) at w in
      rw last (as_far E t first.stop beside (part path from place) (get_or path place 0) (part path (place + 1) into ++ drop into path) v)
      );
  other = λ x w. swapped_at E t u x to beside (part path from (place + 1)) (part path (place + 1) into) (drop into path) (get_or path into 0) (drop (into + 1) path)
      (drop_more path into 0 within) f.leads arc (rw split at (f.other x w));
  differ = Differ-swap to beside (part path from (place + 1)) (part path (place + 1) into) (drop into path) (rw split at f.differ);
  known = λ v h. elim (cases v h) [ inl old ↦ more v (f.known v old) | inr q ↦ (let b = q.2 in rw (← q.3) (passed q.0 (omega arith))) ];
  inside = λ v h. elim (cases v h) [ inl old ↦ f.inside v old | inr q ↦ (let b = q.2 in rw (← q.3) (first.inside q.0 (omega arith))) ];
}
  where
    split : drop from path ≡ part path from (place + 1) ++ (part path (place + 1) into ++ drop into path)
    split = drop_part path from (place + 1) (omega arith) ∙ ap (λ ys. part path from (place + 1) ++ ys) (drop_part path (place + 1) into (omega arith))

    last : part path from (place + 1) ≡ part path from place ++ get_or path place 0 ∷ []
    last = part_more path from place low (omega arith)

    cases : (v : ℕ) → IsIn ((beside ++ part path from (place + 1)) ++ to) v → IsIn (to ++ beside) v ⊎ ((i : ℕ) × (from ≤ i) × (i < place + 1) × (get_or path i 0 ≡ v))
    cases v h = elim (IsIn-append_cases (beside ++ part path from (place + 1)) to v h) [
      | inl p ↦ elim (IsIn-append_cases beside (part path from (place + 1)) v p) [
        | inl b ↦ inl (IsIn-append_right to beside v b)
        | inr q ↦ inr (place_in_part path from (place + 1) v (omega arith) q)
      ]
      | inr q ↦ inl (IsIn-append_left to beside v q)
    ]

-- the first path of a fan goes on to a target that is line t, or neither known nor on the first path
end_new : (E : ℕ → ℕ → Type 0) (P : ℕ → Type 0) (t : ℕ) (path seen lines : List ℕ) (u from x : ℕ) (to beside : List ℕ) → IsFan E P t path seen u from to beside
    → ((v : ℕ) → IsIn seen v → IsIn lines v) → ((x ≡ t) ⊎ ((IsIn path x → ⊥) × (IsIn lines x → ⊥))) → IsIn (to ++ beside) x → ⊥
end_new E P t path seen lines u from x to beside f more (inl same) h = (f.inside x h).1 same
end_new E P t path seen lines u from x to beside f more (inr other) h = other.1 (more x (f.known x h))

pub end_first : (E : ℕ → ℕ → Type 0) (P : ℕ → Type 0) (t : ℕ) (path seen lines : List ℕ) (u from x : ℕ) (to beside : List ℕ) → IsFan E P t path seen u from to beside
    → ((v : ℕ) → IsIn seen v → IsIn lines v) → E u x → P x → ((x ≡ t) ⊎ ((IsIn path x → ⊥) × (IsIn lines x → ⊥))) → IsFirstPath E P t (to ++ x ∷ [])
end_first E P t path seen lines u from x to beside f more arc p end = record {
  stop = x;
  walk = walk_on E t to u x f.leads arc;
  ends = λ h. p;
  differ = Differ-append to (x ∷ []) (Differ-left to (beside ++ drop from path) f.differ) ((λ h. h), tt) apart;
  inside = inside;
}
  where
    apart : (v : ℕ) → IsIn to v → IsIn (x ∷ []) v → ⊥
    apart v h (inl same) = end_new E P t path seen lines u from x to beside f more end (IsIn-append_left to beside x (rw same h))
    apart v h (inr none) = none

    inside : (i : ℕ) → i + 1 < length (to ++ x ∷ []) → IsInside P t (get_or (to ++ x ∷ []) i 0)
    inside i l =
        let e = length_push to x in
        let s : i < length to = omega arith in
        let g = get_or_append_left to (x ∷ []) 0 i s in
        rw g (f.inside (get_or to i 0) (IsIn-append_left to beside (get_or to i 0) (IsIn-get_or to i 0 s)))

pub end_pair : (E : ℕ → ℕ → Type 0) (P : ℕ → Type 0) (t : ℕ) (path seen lines : List ℕ) (u from x : ℕ) (to beside : List ℕ) → IsFirstPath E P t path → from < length path
    → IsFan E P t path seen u from to beside → ((v : ℕ) → IsIn seen v → IsIn lines v) → E u x → P x → ((x ≡ t) ⊎ ((IsIn path x → ⊥) × (IsIn lines x → ⊥)))
    → ArePaths E P t (to ++ x ∷ []) (beside ++ drop from path)
end_pair E P t path seen lines u from x to beside first low f more arc p end = record {
  left_leads = LeadsTo-from_walk E P t (to ++ x ∷ []) x (let e = length_push to x in omega arith) (walk_on E t to u x f.leads arc) p;
  right_leads = LeadsTo-from_walk E P t (beside ++ drop from path) first.stop (let a = length-append beside (drop from path) in let d = length-drop from path in omega arith)
      (f.other first.stop first.walk) (first.ends (omega arith));
  apart = λ v l r. elim (IsIn-push_cases to x v l) [
    | inl old ↦ absurd (Differ-apart to (beside ++ drop from path) f.differ v old r)
    | inr same ↦ sym same ∙ home end (rw same r)
  ];
}
  where
    home : (x ≡ t) ⊎ ((IsIn path x → ⊥) × (IsIn lines x → ⊥)) → IsIn (beside ++ drop from path) x → x ≡ t
    home (inl same) h = same
    home (inr other) h = elim (IsIn-append_cases beside (drop from path) x h) [
      | inl b ↦ absurd (other.1 (more x (f.known x (IsIn-append_right to beside x b))))
      | inr q ↦ absurd (other.0 (IsIn-drop from path x q))
    ]
