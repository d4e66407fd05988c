-- The routes are collected arc by arc and line by line, and then the entries route by route.
use Rattle.std.proofs.Common.{◌≡◌, ◌⊎◌, ◌↔◌, inl, inr, sym, ap, ◌∙◌, subst, ℕ, ◌+◌, ◌<◌, ◌≤◌, Bool, List, [], ◌∷◌, ◌++◌, length, map, take, get_or, arith}
use Rattle.std.proofs.lemmas.Bool.{cases_lt}
use Rattle.std.proofs.lemmas.List.{length-map, map-append, take_more}
use Rattle.il_core.specs.LineGraph.{IsIn}
use Rattle.flow_graph.specs.Search.{IsMarked, IsUnmarked}
use Rattle.flow_graph.specs.Reached.{IsReached}
use Rattle.flow_graph.specs.declared.graph.Arc.{Arc}
use Rattle.flow_graph.specs.declared.graph.Node.{Node}
use Rattle.flow_graph.specs.declared.graph.FlowGraph.{FlowGraph}
use Rattle.flow_graph.proofs.Members.{IsIn-push_cases, IsIn-push, IsIn-append_left, IsIn-more_cases, IsIn-more_old, IsIn-more_new}
use Rattle.regular_algebra.specs.Relation.{Joins}
use Rattle.regular_algebra.specs.Relations.{ends_of}
use Rattle.regular_algebra.specs.declared.steps.Ends.{Ends}
use Rattle.regular_algebra.specs.declared.steps.Entry.{Entry}
use Rattle.regular_algebra.specs.declared.relation.BitRelation.{BitRelation}
use Rattle.data_use.specs.Points.{Carries}
use Rattle.data_use.specs.Routes.{IsRoute}
use Rattle.data_use.specs.Sums.{ends_along, EachCarries}

-- no line is marked and unmarked
not_both : (marks : List Bool) (k : ℕ) → IsMarked marks k → IsUnmarked marks k → ⊥
not_both marks k m u = cc

-- an arc of a marked tail is collected
pub arc-marked : (old was new arcs : List Arc) (marks : List Bool) (i : ℕ) (d : Arc) → i < length arcs
    → ((a : Arc) → IsIn was a ↔ (IsIn old a ⊎ (IsIn (take i arcs) a × IsMarked marks a.tail))) → IsMarked marks (get_or arcs i d).tail
    → new ≡ was ++ get_or arcs i d ∷ [] → (a : Arc) → IsIn new a ↔ (IsIn old a ⊎ (IsIn (take (i + 1) arcs) a × IsMarked marks a.tail))
arc-marked old was new arcs marks i d l each m e a = (
  λ h.
      elim (IsIn-push_cases was (get_or arcs i d) a (subst (λ s. IsIn s a) e h)) [
        | inl w ↦ elim ((each a).0 w) [ inl o ↦ inl o | inr p ↦ inr (IsIn-more_old arcs i d a l p.0, p.1) ]
        | inr same ↦ inr (subst (λ (b : Arc). IsIn (take (i + 1) arcs) b × IsMarked marks b.tail) same (IsIn-more_new arcs i d l, m))
      ],
  λ h.
      subst (λ s. IsIn s a) (sym e)
      (elim h [
        | inl o ↦ IsIn-append_left was _ a ((each a).1 (inl o))
        | inr p ↦ elim (IsIn-more_cases arcs i d a l p.0) [
          | inl q ↦ IsIn-append_left was _ a ((each a).1 (inr (q, p.1)))
          | inr same ↦ subst (IsIn (was ++ get_or arcs i d ∷ [])) same (IsIn-push was (get_or arcs i d))
        ]
      ]),
)

-- and every other one is passed over
pub arc-unmarked : (old was new arcs : List Arc) (marks : List Bool) (i : ℕ) (d : Arc) → i < length arcs
    → ((a : Arc) → IsIn was a ↔ (IsIn old a ⊎ (IsIn (take i arcs) a × IsMarked marks a.tail))) → IsUnmarked marks (get_or arcs i d).tail
    → new ≡ was → (a : Arc) → IsIn new a ↔ (IsIn old a ⊎ (IsIn (take (i + 1) arcs) a × IsMarked marks a.tail))
arc-unmarked old was new arcs marks i d l each m e a = (
  λ w. elim ((each a).0 (subst (λ s. IsIn s a) e w)) [ inl o ↦ inl o | inr p ↦ inr (IsIn-more_old arcs i d a l p.0, p.1) ],
  λ h.
      subst (λ s. IsIn s a) (sym e)
      ((each a).1
      (elim h [
        | inl o ↦ inl o
        | inr p ↦ elim (IsIn-more_cases arcs i d a l p.0) [
          | inl q ↦ inr (q, p.1)
          | inr same ↦ absurd (not_both marks _ (subst (λ (b : Arc). IsMarked marks b.tail) (sym same) p.1) m)
        ]
      ])),
)

-- the exits of the lines below a bound are collected
abbrev pub HasExits : List Arc → ℕ → List Bool → ℕ → List Arc → Type 0
HasExits old head marks bound now = (a : Arc) → IsIn now a ↔ (IsIn old a ⊎ ((a.tail < bound) × (a.head ≡ head) × IsMarked marks a.tail))

pub exit-marked : (old was new : List Arc) (head : ℕ) (marks : List Bool) (i : ℕ) → HasExits old head marks i was → IsMarked marks i
    → new ≡ was ++ record { tail = i; head = head } ∷ [] → HasExits old head marks (i + 1) new
exit-marked old was new head marks i each m e a = (
  λ h.
      elim (IsIn-push_cases was (record { tail = i; head = head }) a (subst (λ s. IsIn s a) e h)) [
        | inl w ↦ elim ((each a).0 w) [ inl o ↦ inl o | inr p ↦ inr (let l = p.0 in omega arith, p.1, p.2) ]
        | inr same ↦ inr (let t = ap (λ (b : Arc). b.tail) same in omega arith, sym (ap (λ (b : Arc). b.head) same), subst (λ (b : Arc). IsMarked marks b.tail) same m)
      ],
  λ h.
      subst (λ s. IsIn s a) (sym e)
      (elim h [ inl o ↦ IsIn-append_left was _ a ((each a).1 (inl o)) | inr p ↦ by_line p (cases_lt a.tail i) ]),
)
  where
    by_line : ((a.tail < i + 1) × (a.head ≡ head) × IsMarked marks a.tail) → (a.tail < i) ⊎ (i ≤ a.tail) → IsIn (was ++ record { tail = i; head = head } ∷ []) a
    by_line p (inl lower) = IsIn-append_left was _ a ((each a).1 (inr (lower, p.1, p.2)))
    by_line p (inr upper) =
        let same : i ≡ a.tail = let l = p.0 in omega arith in
        let it : ◌≡◌ {A = Arc} (record { tail = i; head = head }) a = ap (λ t. record { tail = t; head = head }) same ∙ ap (λ h. record { tail = a.tail; head = h }) (sym p.1) in
        subst (IsIn (was ++ record { tail = i; head = head } ∷ [])) it (IsIn-push was (record { tail = i; head = head }))

pub exit-unmarked : (old was new : List Arc) (head : ℕ) (marks : List Bool) (i : ℕ) → HasExits old head marks i was → IsUnmarked marks i → new ≡ was
    → HasExits old head marks (i + 1) new
exit-unmarked old was new head marks i each m e a = (
  λ w. elim ((each a).0 (subst (λ s. IsIn s a) e w)) [ inl o ↦ inl o | inr p ↦ inr (let l = p.0 in omega arith, p.1, p.2) ],
  λ h. subst (λ s. IsIn s a) (sym e) ((each a).1 (elim h [ inl o ↦ inl o | inr p ↦ by_line p (cases_lt a.tail i) ])),
)
  where
    by_line : ((a.tail < i + 1) × (a.head ≡ head) × IsMarked marks a.tail) → (a.tail < i) ⊎ (i ≤ a.tail) → IsIn old a ⊎ ((a.tail < i) × (a.head ≡ head) × IsMarked marks a.tail)
    by_line p (inl lower) = inr (lower, p.1, p.2)
    by_line p (inr upper) = let same : a.tail ≡ i = let l = p.0 in omega arith in absurd (not_both marks i (subst (IsMarked marks) same p.2) m)

-- what is collected in the end, with the exit of the last line or without it
abbrev pub IsCollected : FlowGraph → List Bool → List Arc → Type 0
IsCollected g marks was = (a : Arc) → IsIn was a ↔ ((IsIn g.arcs a × IsMarked marks a.tail) ⊎ ((a.head ≡ length g.nodes) × IsMarked marks a.tail))

pub routes-with_last : (g : FlowGraph) (marks : List Bool) (was new : List Arc) (last head : ℕ) → last + 1 ≡ length g.nodes → head ≡ length g.nodes + 1
    → ((k : ℕ) → IsMarked marks k ↔ IsReached g.arcs k) → IsCollected g marks was → IsMarked marks last → new ≡ was ++ record { tail = last; head = head } ∷ [] → (a : Arc) → IsIn new a ↔ IsRoute g a
routes-with_last g marks was new last head size behind exact each m e a = (
  λ h.
      elim (IsIn-push_cases was end a (subst (λ s. IsIn s a) e h)) [
        | inl w ↦ elim ((each a).0 w) [ inl p ↦ ((exact a.tail).0 p.1, inl p.0) | inr p ↦ ((exact a.tail).0 p.1, inr (inl p.0)) ]
        | inr same ↦ subst (IsRoute g) same ((exact last).0 m, inr (inr (behind, size)))
      ],
  λ r.
      let k = (exact a.tail).1 r.0 in
      subst (λ s. IsIn s a) (sym e)
      (elim r.1 [
        | inl i ↦ IsIn-append_left was _ a ((each a).1 (inl (i, k)))
        | inr x ↦ elim x [
          | inl h ↦ IsIn-append_left was _ a ((each a).1 (inr (h, k)))
          | inr p ↦ subst (IsIn (was ++ end ∷ [])) (it p) (IsIn-push was end)
        ]
      ]),
)
  where
    end : Arc
    end = record { tail = last; head = head }

    it : ((a.head ≡ length g.nodes + 1) × (a.tail + 1 ≡ length g.nodes)) → end ≡ a
    it p =
        let same : last ≡ a.tail = let t = p.1 in omega arith in
        ap (λ t. record { tail = t; head = head }) same ∙ ap (λ h. record { tail = a.tail; head = h }) (behind ∙ sym p.0)

pub routes-without_last : (g : FlowGraph) (marks : List Bool) (was new : List Arc) (last : ℕ) → last + 1 ≡ length g.nodes
    → ((k : ℕ) → IsMarked marks k ↔ IsReached g.arcs k) → IsCollected g marks was → IsUnmarked marks last → new ≡ was → (a : Arc) → IsIn new a ↔ IsRoute g a
routes-without_last g marks was new last size exact each m e a = (
  λ w. elim ((each a).0 (subst (λ s. IsIn s a) e w)) [ inl p ↦ ((exact a.tail).0 p.1, inl p.0) | inr p ↦ ((exact a.tail).0 p.1, inr (inl p.0)) ],
  λ r.
      let k = (exact a.tail).1 r.0 in
      subst (λ s. IsIn s a) (sym e)
      ((each a).1 (elim r.1 [ inl i ↦ inl (i, k) | inr x ↦ elim x [ inl h ↦ inr (h, k) | inr p ↦ absurd (not_both marks last (subst (IsMarked marks) (it p.1) k) m) ] ])),
)
  where
    it : a.tail + 1 ≡ length g.nodes → a.tail ≡ last
    it t = omega arith

-- the arcs and then the exits of all lines are collected
pub collected : (g : FlowGraph) (marks : List Bool) (none mid was xs : List Arc) → none ≡ [] → xs ≡ g.arcs → length marks ≡ length g.nodes
    → ((a : Arc) → IsIn mid a ↔ (IsIn none a ⊎ (IsIn xs a × IsMarked marks a.tail)))
    → ((a : Arc) → IsIn was a ↔ (IsIn mid a ⊎ ((a.head ≡ length marks) × IsMarked marks a.tail))) → IsCollected g marks was
collected g marks none mid was xs e f size first second a = (
  λ w.
      elim ((second a).0 w) [
        | inl m ↦ elim ((first a).0 m) [ inl n ↦ absurd (subst (λ s. IsIn s a) e n) | inr p ↦ inl (subst (λ s. IsIn s a) f p.0, p.1) ]
        | inr p ↦ inr (p.0 ∙ size, p.1)
      ],
  λ h. (second a).1 (elim h [ inl p ↦ inl ((first a).1 (inr (subst (λ s. IsIn s a) (sym f) p.0, p.1))) | inr p ↦ inr (p.0 ∙ sym size, p.1) ]),
)

-- one end more
pub along-more : (was new : List Ends) (e : Ends) (arcs : List Arc) (i : ℕ) (d : Arc) → i < length arcs → was ≡ map ends_along (take i arcs)
    → e.tail ≡ (get_or arcs i d).tail → e.head ≡ (get_or arcs i d).head → new ≡ was ++ e ∷ [] → new ≡ map ends_along (take (i + 1) arcs)
along-more was new e arcs i d l before tail head grown =
    let a = get_or arcs i d in
    let ends : ◌≡◌ {A = Ends} e (ends_along a) = ap (λ t. record { tail = t; head = e.head }) tail ∙ ap (λ h. record { tail = a.tail; head = h }) head in
    grown ∙ ap (λ s. s ++ e ∷ []) before ∙ ap (λ x. map ends_along (take i arcs) ++ x ∷ []) ends
    ∙ sym (ap (map ends_along) (take_more arcs i d l) ∙ map-append ends_along (take i arcs) (a ∷ []))

-- there are as many entries as routes
pub entries-many : (entries : List (Entry BitRelation)) (arcs : List Arc) → ends_of entries ≡ map ends_along arcs → length entries ≡ length arcs
entries-many entries arcs e = sym (length-map entries (λ (x : Entry BitRelation). record { tail = x.tail; head = x.head })) ∙ (ap length e ∙ length-map arcs ends_along)

-- one entry more has the ends of its route
pub ends-more : (was new : List (Entry BitRelation)) (e : Entry BitRelation) (arcs : List Arc) (i : ℕ) (d : Arc) → i < length arcs → ends_of was ≡ map ends_along (take i arcs)
    → e.tail ≡ (get_or arcs i d).tail → e.head ≡ (get_or arcs i d).head → new ≡ was ++ e ∷ [] → ends_of new ≡ map ends_along (take (i + 1) arcs)
ends-more was new e arcs i d l before tail head grown =
    along-more (ends_of was) (ends_of new) (record { tail = e.tail; head = e.head }) arcs i d l before tail head
    (ap ends_of grown ∙ map-append (λ (x : Entry BitRelation). record { tail = x.tail; head = x.head }) was (e ∷ []))

-- one entry more carries what its tail does
pub values-more : (nodes : List Node) (group : List ℕ) (was new : List (Entry BitRelation)) (e : Entry BitRelation) → EachCarries nodes group was
    → ((x y : ℕ) → Joins e.value x y ↔ Carries nodes group (length group) e.tail x y) → new ≡ was ++ e ∷ [] → EachCarries nodes group new
values-more nodes group was new e each this grown f h =
    elim (IsIn-push_cases was e f (subst (λ s. IsIn s f) grown h)) [
      | inl old ↦ each f old
      | inr same ↦ subst (λ (x : Entry BitRelation). (a b : ℕ) → Joins x.value a b ↔ Carries nodes group (length group) x.tail a b) same this
    ]
