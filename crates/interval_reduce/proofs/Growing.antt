-- Intervals grow: what stays true while one takes node after node, and while a level takes interval after interval.
use Rattle.std.proofs.Common.{◌≡◌, ◌≢◌, ◌⊎◌, inl, inr, refl, sym, ◌∙◌, ap, ℕ, ◌+◌, ◌<◌, Bool, true, false, cond, eqb, Option, Some, None, List, [], ◌∷◌, ◌++◌, length, set, get_or, take, replicate, arith, append-nil, append_assoc}
use Rattle.std.specs.Prelude.{not, ◌==◌, filter, ◌↔◌}
use Rattle.std.specs.List.{count_by}
use Rattle.std.proofs.lemmas.List.{length-set, get_or-set_same, get_or-set_other, flat_map_more}
use Rattle.std.proofs.lemmas.List.Sums.{sum_by-set}
use Rattle.std.proofs.lemmas.Bool.Decides.{eqb_tells}
use Rattle.il_core.specs.LineGraph.{IsIn}
use Rattle.flow_graph.specs.Search.{IsMarked, IsUnmarked, Reaches, row_of}
use Rattle.flow_graph.proofs.Members.{IsIn-append_left, IsIn-append_right, IsIn-append_cases, IsIn-push, IsIn-push_cases, IsIn-more_cases, IsIn-more_old, IsIn-more_new}
use Rattle.flow_graph.proofs.Spreading.{marked_within, marked_new, marked_old, marked_cases, none_marked, walk_on}
use Rattle.interval_reduce.specs.declared.interval.Interval.{Interval}
use Rattle.interval_reduce.specs.Interval.{Fits, Takes, IsIntervalOf}
use Rattle.interval_reduce.specs.Level.{MayBeHead, GoesOn, IsLevel}
use Rattle.interval_reduce.specs.Choice.{Precedes, IsLeastOf, IsFitting}
use Rattle.interval_reduce.specs.Growth.{AreMarked, AreFree, IsBorder, IsBorderAfter, AreConverse, IsTakenNext, members_of}
use Rattle.interval_reduce.proofs.ReductionDown.{last_arc}

-- a node is marked, or it is not
pub unmarked_not : (marks : List Bool) (v : ℕ) → IsUnmarked marks v → IsMarked marks v → ⊥
unmarked_not marks v u m = cc

pub not_marked : (marks : List Bool) (v : ℕ) → (IsMarked marks v → ⊥) → IsUnmarked marks v
not_marked marks v h = by_mark (get_or marks v false) refl
  where
    by_mark : (m : Bool) → get_or marks v false ≡ m → m ≡ false
    by_mark true e = absurd (h e)
    by_mark false e = refl

-- what is left of a list with one node more
removed_more : (xs : List ℕ) (x v y : ℕ) (kept : List ℕ) → (IsIn kept v ↔ (IsIn xs v × (v ≢ x))) → ((eqb y x ≡ true) × (y ≡ x)) ⊎ ((eqb y x ≡ false) × (y ≢ x))
    → IsIn (cond (not (eqb y x)) (y ∷ kept) kept) v ↔ (IsIn (y ∷ xs) v × (v ≢ x))
removed_more xs x v y kept same (inl e) = rw e.0 (
  λ h. (inr (same.0 h).0, (same.0 h).1),
  λ q. elim q.0 [ inl f ↦ absurd (q.1 (sym f ∙ e.1)) | inr i ↦ same.1 (i, q.1) ],
)
removed_more xs x v y kept same (inr o) = rw o.0 (
  λ h. elim h [ inl f ↦ (inl f, λ g. o.1 (f ∙ g)) | inr i ↦ (inr (same.0 i).0, (same.0 i).1) ],
  λ q. elim q.0 [ inl f ↦ inl f | inr i ↦ inr (same.1 (i, q.1)) ],
)

-- what is left where a node is removed
pub IsIn-removed : (xs : List ℕ) (x v : ℕ) → IsIn (filter (λ w. not (w == x)) xs) v ↔ (IsIn xs v × (v ≢ x))
IsIn-removed [] x v = (λ h. absurd h, λ q. q.0)
IsIn-removed (y ∷ xs) x v = removed_more xs x v y (filter (λ w. not (w == x)) xs) (IsIn-removed xs x v) (eqb_tells y x)

-- the border after a node is removed and nodes of a row are added
pub border_after : (was : List ℕ) (x : ℕ) (row : List ℕ) (taken : List Bool) (now : List ℕ)
    → ((v : ℕ) → IsIn now v ↔ (IsIn (filter (λ w. not (w == x)) was) v ⊎ (IsIn row v × IsUnmarked taken v))) → IsBorderAfter x row taken was now
border_after was x row taken now h v = (
  λ i. elim ((h v).0 i) [ inl old ↦ inl ((IsIn-removed was x v).0 old) | inr new ↦ inr new ],
  λ q. (h v).1 (elim q [ inl old ↦ inl ((IsIn-removed was x v).1 old) | inr new ↦ inr new ]),
)

-- the nodes of a front of a row that are not taken, with one node more
pub free_push : (taken : List Bool) (row : List ℕ) (i : ℕ) (start was : List ℕ) → i < length row → IsUnmarked taken (get_or row i 0)
    → ((v : ℕ) → IsIn was v ↔ (IsIn start v ⊎ (IsIn (take i row) v × IsUnmarked taken v)))
    → (v : ℕ) → IsIn (was ++ get_or row i 0 ∷ []) v ↔ (IsIn start v ⊎ (IsIn (take (i + 1) row) v × IsUnmarked taken v))
free_push taken row i start was l u h v = (
  λ j. elim (IsIn-push_cases was (get_or row i 0) v j) [
    | inl old ↦ elim ((h v).0 old) [ inl s ↦ inl s | inr t ↦ inr (IsIn-more_old row i 0 v l t.0, t.1) ]
    | inr same ↦ inr (rw (← same) (IsIn-more_new row i 0 l), rw (← same) u)
  ],
  λ q. elim q [
    | inl s ↦ IsIn-append_left was (get_or row i 0 ∷ []) v ((h v).1 (inl s))
    | inr t ↦ elim (IsIn-more_cases row i 0 v l t.0) [
      | inl old ↦ IsIn-append_left was (get_or row i 0 ∷ []) v ((h v).1 (inr (old, t.1)))
      | inr same ↦ rw (← same) (IsIn-push was (get_or row i 0))
    ]
  ],
)

pub free_skip : (taken : List Bool) (row : List ℕ) (i : ℕ) (start was : List ℕ) → i < length row → IsMarked taken (get_or row i 0)
    → ((v : ℕ) → IsIn was v ↔ (IsIn start v ⊎ (IsIn (take i row) v × IsUnmarked taken v)))
    → (v : ℕ) → IsIn was v ↔ (IsIn start v ⊎ (IsIn (take (i + 1) row) v × IsUnmarked taken v))
free_skip taken row i start was l m h v = (
  λ j. elim ((h v).0 j) [ inl s ↦ inl s | inr t ↦ inr (IsIn-more_old row i 0 v l t.0, t.1) ],
  λ q. elim q [
    | inl s ↦ (h v).1 (inl s)
    | inr t ↦ elim (IsIn-more_cases row i 0 v l t.0) [
      | inl old ↦ (h v).1 (inr (old, t.1))
      | inr same ↦ absurd (unmarked_not taken v t.1 (rw same at m))
    ]
  ],
)

-- the least with a property is the least with another that the same numbers have
pub least_same : (P Q : ℕ → Type 0) → ((v : ℕ) → P v → Q v) → ((v : ℕ) → Q v → P v) → (o : Option ℕ) → IsLeastOf P o → IsLeastOf Q o
least_same P Q there back None h = λ v q. h v (back v q)
least_same P Q there back (Some w) h = (there w h.0, λ v q. h.1 v (back v q))

-- marks after one node more is marked
pub AreMarked-push : (marks : List Bool) (xs : List ℕ) (v : ℕ) → v < length marks → AreMarked marks xs → AreMarked (set marks v true) (xs ++ v ∷ [])
AreMarked-push marks xs v l m k = (
  λ h. elim (marked_cases marks v k h) [ inl same ↦ rw (← same) (IsIn-push xs v) | inr old ↦ IsIn-append_left xs (v ∷ []) k ((m k).0 old) ],
  λ i. elim (IsIn-push_cases xs v k i) [ inl old ↦ marked_old marks v k l ((m k).1 old) | inr same ↦ rw (← same) (marked_new marks v l) ],
)

-- none are marked at first
pub AreMarked-none : (n : ℕ) → AreMarked (replicate n false) []
AreMarked-none n k = (λ h. none_marked n k h, λ i. absurd i)

-- one mark more leaves one node less without
pub fewer_after : (marks : List Bool) (v : ℕ) → v < length marks → IsUnmarked marks v → count_by not (set marks v true) + 1 ≡ count_by not marks
fewer_after marks v l u =
    let s = sum_by-set (λ b. cond (not b) 1 0) marks v true false l in
    let t = rw u at s in
    omega (arith, t)

-- the border is free after a node is taken
pub AreFree-after : (was : List Bool) (before : List ℕ) (node : ℕ) (row : List ℕ) (taken : List Bool) (border : List ℕ) → node < length was
    → ((v : ℕ) → IsIn row v → v < length was) → taken ≡ set was node true → IsBorderAfter node row taken before border → AreFree was before → AreFree taken border
AreFree-after was before node row taken border l below t b f v i =
    let size = ap length t ∙ length-set was node true in
    elim ((b v).0 i) [
      | inl old ↦
          let o = f v old.0 in (
            omega (arith, o.0, size),
            not_marked taken v (λ m. elim (marked_cases was node v (rw t at m)) [ inl same ↦ old.1 (sym same) | inr k ↦ unmarked_not was v o.1 k ]),
          )
      | inr new ↦ let k = below v new.0 in (omega (arith, k, size), new.1)
    ]

-- the border behind one node more
pub IsBorder-push : (E : ℕ → ℕ → Type 0) (earlier : List ℕ) (x : ℕ) (row : List ℕ) (taken : List Bool) (was now : List ℕ) → Reaches E 0 x
    → ((v : ℕ) → E x v ↔ IsIn row v) → AreMarked taken (earlier ++ x ∷ []) → IsBorderAfter x row taken was now → IsBorder (Reaches E 0) E earlier was
    → IsBorder (Reaches E 0) E (earlier ++ x ∷ []) now
IsBorder-push E earlier x row taken was now r s m after b v = (there, back)
  where
    there : IsIn now v → MayBeHead (Reaches E 0) E (earlier ++ x ∷ []) v
    there i = elim ((after v).0 i) [
      | inl old ↦
          let h = (b v).0 old.0 in
          record {
            node = h.node;
            outside = λ k. elim (IsIn-push_cases earlier x v k) [ inl e ↦ h.outside e | inr same ↦ old.1 (sym same) ];
            «from» = h.from;
            inside = IsIn-append_left earlier (x ∷ []) h.from h.inside;
            arc = h.arc;
          }
      | inr new ↦
          let e = (s v).1 new.0 in
          record {
            node = (r.0 ++ v ∷ [], walk_on E 0 r.0 x v r.1 e);
            outside = λ k. unmarked_not taken v new.1 ((m v).1 k);
            «from» = x;
            inside = IsIn-push earlier x;
            arc = e;
          }
    ]

    back : MayBeHead (Reaches E 0) E (earlier ++ x ∷ []) v → IsIn now v
    back h = elim (IsIn-push_cases earlier x h.from h.inside) [
      | inl old ↦ (after v).1 (inl (
        (b v).1 (record { node = h.node; outside = λ k. h.outside (IsIn-append_left earlier (x ∷ []) v k); «from» = h.from; inside = old; arc = h.arc }),
        λ e. h.outside (rw e (IsIn-push earlier x)),
      ))
      | inr same ↦ (after v).1 (inr ((s v).0 (rw (← same) at h.arc), not_marked taken v (λ k. h.outside ((m v).0 k))))
    ]

-- the least fitting node of the border is the least that the interval may take
pub fits_same : (preds : List (List ℕ)) (earlier members border : List ℕ) (inside : List Bool) (o : Option ℕ)
    → IsBorder (Reaches (Precedes preds) 0) (Precedes preds) (earlier ++ members) border → AreMarked inside members → IsIn (earlier ++ members) 0
    → IsLeastOf (IsFitting border preds inside) o → IsLeastOf (Fits (Reaches (Precedes preds) 0) (Precedes preds) earlier members) o
fits_same preds earlier members border inside o b n z = least_same (IsFitting border preds inside) (Fits (Reaches (Precedes preds) 0) (Precedes preds) earlier members) there back o
  where
    there : (v : ℕ) → IsFitting border preds inside v → Fits (Reaches (Precedes preds) 0) (Precedes preds) earlier members v
    there v f =
        let h = (b v).0 f.0 in
        record {
          node = h.node;
          not_earlier = λ i. h.outside (IsIn-append_left earlier members v i);
          not_taken = λ i. h.outside (IsIn-append_right earlier members v i);
          entered_inside = λ u p. (n u).0 (f.1 u p);
        }

    back : (v : ℕ) → Fits (Reaches (Precedes preds) 0) (Precedes preds) earlier members v → IsFitting border preds inside v
    back v f = (
      (b v).1 (elim (last_arc (Precedes preds) 0 f.node.0 v f.node.1) [
        | inl e ↦ absurd (out (rw e at z))
        | inr t ↦ record { node = f.node; outside = out; «from» = t.0; inside = IsIn-append_right earlier members t.0 (f.entered_inside t.0 t.1); arc = t.1 }
      ]),
      λ u p. (n u).1 (f.entered_inside u p),
    )
      where
        out : IsIn (earlier ++ members) v → ⊥
        out i = elim (IsIn-append_cases earlier members v i) [ inl e ↦ f.not_earlier e | inr t ↦ f.not_taken t ]

-- what stays true while an interval grows
pub record Growing (preds : List (List ℕ)) (earlier : List ℕ) (head : ℕ) (taken : List Bool) (border members : List ℕ) : Type 0 where
  pub marked : AreMarked taken (earlier ++ members)
  pub at_border : IsBorder (Reaches (Precedes preds) 0) (Precedes preds) (earlier ++ members) border
  pub start : IsIn (earlier ++ members) 0
  pub goes : (more : List ℕ) → Takes (Reaches (Precedes preds) 0) (Precedes preds) earlier members more
      → IsIntervalOf (Reaches (Precedes preds) 0) (Precedes preds) earlier head (members ++ more)

pub growing_start : (preds succs : List (List ℕ)) (earlier : List ℕ) (head : ℕ) (was taken : List Bool) (before border members : List ℕ)
    → AreConverse preds succs → Reaches (Precedes preds) 0 head → head < length was
    → taken ≡ set was head true → members ≡ head ∷ [] → IsBorderAfter head (row_of succs head) taken before border
    → AreMarked was earlier → IsBorder (Reaches (Precedes preds) 0) (Precedes preds) earlier before → IsIn (earlier ++ head ∷ []) 0
    → Growing preds earlier head taken border members
growing_start preds succs earlier head was taken before border members c r l t h after m b z =
    let k : AreMarked taken (earlier ++ head ∷ []) = rw t (AreMarked-push was earlier head l m) in
    rw h (record {
      marked = k;
      at_border = IsBorder-push (Precedes preds) earlier head (row_of succs head) taken before border r (λ v. c head v) k after b;
      start = z;
      goes = λ more g. (more, refl, g);
    })

pub growing_on : (preds succs : List (List ℕ)) (earlier : List ℕ) (head v : ℕ) (was held taken : List Bool) (before border old members : List ℕ)
    → AreConverse preds succs → IsLeastOf (IsFitting before preds held) (Some v) → v < length was
    → taken ≡ set was v true → members ≡ old ++ v ∷ [] → IsBorderAfter v (row_of succs v) taken before border → AreMarked held old
    → Growing preds earlier head was before old → Growing preds earlier head taken border members
growing_on preds succs earlier head v was held taken before border old members c least l t e after within g =
    let m : AreMarked taken ((earlier ++ old) ++ v ∷ []) = rw t (AreMarked-push was (earlier ++ old) v l g.marked) in
    let b = IsBorder-push (Precedes preds) (earlier ++ old) v (row_of succs v) taken before border ((g.at_border v).0 least.0.0).node (λ w. c v w) m after g.at_border in
    let z = IsIn-append_left (earlier ++ old) (v ∷ []) 0 g.start in
    rw e (record {
      marked = rw (append_assoc earlier old (v ∷ [])) at m;
      at_border = rw (append_assoc earlier old (v ∷ [])) at b;
      start = rw (append_assoc earlier old (v ∷ [])) at z;
      goes = λ more h. rw (append_assoc old (v ∷ []) more) (g.goes (v ∷ more) (fits_same preds earlier old before held (Some v) g.at_border within g.start least, h));
    })

pub growing_end : (preds : List (List ℕ)) (earlier : List ℕ) (head : ℕ) (taken inside : List Bool) (border members : List ℕ)
    → IsLeastOf (IsFitting border preds inside) None → AreMarked inside members → Growing preds earlier head taken border members
    → IsTakenNext (Reaches (Precedes preds) 0) (Precedes preds) earlier (record { head = head; members = members }) taken border
growing_end preds earlier head taken inside border members none within g = record {
  interval = rw (append-nil members) at (g.goes [] (fits_same preds earlier members border inside None g.at_border within g.start none));
  marked = g.marked;
  at_border = g.at_border;
}

-- marks of members, where one is added
pub within_push : (was inside : List Bool) (old members : List ℕ) (v : ℕ) → v < length was → inside ≡ set was v true → members ≡ old ++ v ∷ [] → AreMarked was old → AreMarked inside members
within_push was inside old members v l s e m = rw (s, e) (AreMarked-push was old v l m)

-- a node that is unmarked is marked no more
pub unmarked_more : (start was : List Bool) (nodes : List ℕ) (i : ℕ) → i < length nodes → get_or nodes i 0 < length was
    → ((v : ℕ) → IsMarked was v → IsMarked start v × (IsIn (take i nodes) v → ⊥))
    → (v : ℕ) → IsMarked (set was (get_or nodes i 0) false) v → IsMarked start v × (IsIn (take (i + 1) nodes) v → ⊥)
unmarked_more start was nodes i l k h v m = elim (eqb_tells v (get_or nodes i 0)) [
  | inl same ↦
      let n : get_or (set was (get_or nodes i 0) false) (get_or nodes i 0) false ≡ false = get_or-set_same was (get_or nodes i 0) false false k in
      absurd (unmarked_not (set was (get_or nodes i 0) false) (get_or nodes i 0) n (rw same.1 at m))
  | inr other ↦
      let o = h v (sym (get_or-set_other was (get_or nodes i 0) v false false other.1) ∙ m) in
      (o.0, λ j. elim (IsIn-more_cases nodes i 0 v l j) [ inl old ↦ o.1 old | inr same ↦ other.1 (sym same) ])
]

-- where all marked nodes are unmarked, none is
pub none_left : (was now : List Bool) (members nodes : List ℕ) → nodes ≡ members → AreMarked was members → ((v : ℕ) → IsMarked now v → IsMarked was v × (IsIn nodes v → ⊥)) → AreMarked now []
none_left was now members nodes e m h v = (λ k. let q = h v k in q.1 (rw e ((m v).0 q.0)), λ i. absurd i)

-- members are below the number of marks
pub members_within : (marks : List Bool) (members : List ℕ) → AreMarked marks members → (v : ℕ) → IsIn members v → v < length marks
members_within marks members m v i = marked_within marks v ((m v).1 i)

-- what stays true while intervals are made
pub record Leveling (preds : List (List ℕ)) (level : List Interval) (taken : List Bool) (border : List ℕ) : Type 0 where
  pub marked : AreMarked taken (members_of level)
  pub at_border : IsBorder (Reaches (Precedes preds) 0) (Precedes preds) (members_of level) border
  pub start : IsIn (members_of level) 0
  pub goes : (more : List Interval) → GoesOn (Reaches (Precedes preds) 0) (Precedes preds) (members_of level) more
      → IsLevel (Reaches (Precedes preds) 0) (Precedes preds) (level ++ more)

-- no node is at the border of no interval
pub no_border : (N : ℕ → Type 0) (E : ℕ → ℕ → Type 0) → IsBorder N E [] []
no_border N E v = (λ i. absurd i, λ h. absurd h.inside)

-- an interval has its head
head_held : (N : ℕ → Type 0) (E : ℕ → ℕ → Type 0) (earlier : List ℕ) (head : ℕ) (members : List ℕ) → IsIntervalOf N E earlier head members → IsIn members head
head_held N E earlier head members h = rw h.1 (inl refl)

pub leveling_start : (preds : List (List ℕ)) (i : Interval) (level : List Interval) (taken : List Bool) (border : List ℕ) → i.head ≡ 0
    → IsTakenNext (Reaches (Precedes preds) 0) (Precedes preds) [] i taken border → level ≡ i ∷ [] → Leveling preds level taken border
leveling_start preds i level taken border h t e =
    let z = rw h at (head_held (Reaches (Precedes preds) 0) (Precedes preds) [] i.head i.members t.interval) in
    rw e (record {
      marked = rw (append-nil i.members) t.marked;
      at_border = rw (append-nil i.members) t.at_border;
      start = rw (append-nil i.members) z;
      goes = λ more g. (h, rw h at t.interval, rw (append-nil i.members) at g);
    })

pub leveling_on : (preds : List (List ℕ)) (was : List Interval) (i : Interval) (level : List Interval) (taken : List Bool) (before border : List ℕ)
    → IsLeastOf (IsIn before) (Some i.head) → IsTakenNext (Reaches (Precedes preds) 0) (Precedes preds) (members_of was) i taken border
    → level ≡ was ++ i ∷ [] → IsBorder (Reaches (Precedes preds) 0) (Precedes preds) (members_of was) before → IsIn (members_of was) 0
    → ((more : List Interval) → GoesOn (Reaches (Precedes preds) 0) (Precedes preds) (members_of was) more → IsLevel (Reaches (Precedes preds) 0) (Precedes preds) (was ++ more))
    → Leveling preds level taken border
leveling_on preds was i level taken before border least t e b z goes =
    let f : members_of was ++ i.members ≡ members_of (was ++ i ∷ []) = flat_map_more (λ (j : Interval). j.members) [] was i in
    let next = least_same (IsIn before) (MayBeHead (Reaches (Precedes preds) 0) (Precedes preds) (members_of was)) (λ v. (b v).0) (λ v. (b v).1) (Some i.head) least in
    rw e (record {
      marked = rw (← f) t.marked;
      at_border = rw (← f) t.at_border;
      start = rw (← f) (IsIn-append_left (members_of was) i.members 0 z);
      goes = λ more h. rw (append_assoc was (i ∷ []) more) (goes (i ∷ more) (next, t.interval, rw (← f) at h));
    })

pub leveling_end : (preds : List (List ℕ)) (level : List Interval) (taken : List Bool) (border : List ℕ) → IsLeastOf (IsIn border) None
    → Leveling preds level taken border → IsLevel (Reaches (Precedes preds) 0) (Precedes preds) level
leveling_end preds level taken border none g =
    rw (append-nil level) at (g.goes [] (least_same (IsIn border) (MayBeHead (Reaches (Precedes preds) 0) (Precedes preds) (members_of level))
    (λ v. (g.at_border v).0) (λ v. (g.at_border v).1) None none))

-- node 0 stays in the list
pub start_push : (xs : List ℕ) (x : ℕ) → IsIn xs 0 → IsIn (xs ++ x ∷ []) 0
start_push xs x i = IsIn-append_left xs (x ∷ []) 0 i
