-- The graphs of levels: their nodes, their arcs, and the owners of nodes.
use Rattle.std.proofs.Common.{◌≡◌, ◌≢◌, inl, inr, refl, sym, ◌∙◌, ap, ℕ, ◌+◌, ◌<◌, Bool, true, false, cond, eqb, List, [], ◌∷◌, ◌++◌, length, set, get_or, take, drop, ◌-◌, arith}
use Rattle.std.specs.Prelude.{◌↔◌, ◌||◌}
use Rattle.std.specs.List.{list_any}
use Rattle.std.proofs.lemmas.List.{get_or-set_same, get_or-set_other, take_rest}
use Rattle.std.proofs.lemmas.List.Folds.{list_any_more}
use Rattle.std.proofs.lemmas.Bool.Decides.{eqb_tells}
use Rattle.flow_graph.specs.declared.graph.Arc.{Arc}
use Rattle.flow_graph.specs.Graph.{arc_to, Joins, heads_from, tails_into}
use Rattle.flow_graph.specs.Search.{IsMarked, IsUnmarked, AreBelow, Reaches, row_of}
use Rattle.flow_graph.proofs.Spreading.{walk_along}
use Rattle.flow_graph.proofs.LineArcs.{Joins-from_heads, heads_from-Joins, Joins-from_tails, tails_into-Joins}
use Rattle.interval_reduce.specs.Choice.{Precedes}
use Rattle.interval_reduce.specs.declared.interval.Interval.{Interval}
use Rattle.interval_reduce.specs.Growth.{AreConverse, members_of}
use Rattle.flow_graph.proofs.Members.{IsIn-more_cases, IsIn-more_old, IsIn-more_new, IsIn-push, IsIn-push_cases, IsIn-append_left, IsIn-append_right}
use Rattle.interval_reduce.specs.Arcs.{IsCarried}

-- the arcs of a front that leave marked lines, with one arc more
pub marked_push : (marks : List Bool) (arcs : List Arc) (i : ℕ) (d : Arc) (was : List Arc) → i < length arcs → IsMarked marks (get_or arcs i d).tail
    → ((a b : ℕ) → Joins was a b ↔ (Joins (take i arcs) a b × IsMarked marks a))
    → (a b : ℕ) → Joins (was ++ get_or arcs i d ∷ []) a b ↔ (Joins (take (i + 1) arcs) a b × IsMarked marks a)
marked_push marks arcs i d was l m h a b = (
  λ j. elim (IsIn-push_cases was (get_or arcs i d) (arc_to a b) j) [
    | inl old ↦ let o = (h a b).0 old in (IsIn-more_old arcs i d (arc_to a b) l o.0, o.1)
    | inr same ↦ (rw (← same) (IsIn-more_new arcs i d l), here same)
  ],
  λ q. elim (IsIn-more_cases arcs i d (arc_to a b) l q.0) [
    | inl old ↦ IsIn-append_left was (get_or arcs i d ∷ []) (arc_to a b) ((h a b).1 (old, q.1))
    | inr same ↦ rw (← same) (IsIn-push was (get_or arcs i d))
  ],
)
  where
    here : get_or arcs i d ≡ arc_to a b → IsMarked marks a
    here same = let t : (get_or arcs i d).tail ≡ a = ap (λ (x : Arc). x.tail) same in rw t at m

pub marked_skip : (marks : List Bool) (arcs : List Arc) (i : ℕ) (d : Arc) (was : List Arc) → i < length arcs → IsUnmarked marks (get_or arcs i d).tail
    → ((a b : ℕ) → Joins was a b ↔ (Joins (take i arcs) a b × IsMarked marks a))
    → (a b : ℕ) → Joins was a b ↔ (Joins (take (i + 1) arcs) a b × IsMarked marks a)
marked_skip marks arcs i d was l u h a b = (
  λ j. let o = (h a b).0 j in (IsIn-more_old arcs i d (arc_to a b) l o.0, o.1),
  λ q. elim (IsIn-more_cases arcs i d (arc_to a b) l q.0) [ inl old ↦ (h a b).1 (old, q.1) | inr same ↦ absurd (clash same q.1) ],
)
  where
    clash : get_or arcs i d ≡ arc_to a b → IsMarked marks a → ⊥
    clash same m = let t : (get_or arcs i d).tail ≡ a = ap (λ (x : Arc). x.tail) same in let n = rw t at u in cc

-- the arcs of a front between different owners, with one arc more
pub carried_push : (own : ℕ → ℕ) (arcs : List Arc) (i : ℕ) (d : Arc) (was : List Arc) → i < length arcs
    → own (get_or arcs i d).tail ≢ own (get_or arcs i d).head
    → ((a b : ℕ) → Joins was a b ↔ IsCarried own (take i arcs) a b)
    → (a b : ℕ) → Joins (was ++ arc_to (own (get_or arcs i d).tail) (own (get_or arcs i d).head) ∷ []) a b ↔ IsCarried own (take (i + 1) arcs) a b
carried_push own arcs i d was l n h a b = (
  λ j. elim (IsIn-push_cases was (arc_to (own x.tail) (own x.head)) (arc_to a b) j) [
    | inl old ↦ let o = (h a b).0 old in (o.0, o.1, o.2, IsIn-more_old arcs i d (arc_to o.1 o.2) l o.3, o.4, o.5)
    | inr same ↦
        let t : own x.tail ≡ a = ap (λ (y : Arc). y.tail) same in
        let e : own x.head ≡ b = ap (λ (y : Arc). y.head) same in
        (λ f. n (t ∙ f ∙ sym e), x.tail, x.head, IsIn-more_new arcs i d l, t, e)
  ],
  λ q. elim (IsIn-more_cases arcs i d (arc_to q.1 q.2) l q.3) [
    | inl old ↦ IsIn-append_left was (arc_to (own x.tail) (own x.head) ∷ []) (arc_to a b) ((h a b).1 (q.0, q.1, q.2, old, q.4, q.5))
    | inr same ↦
        let t : x.tail ≡ q.1 = ap (λ (y : Arc). y.tail) same in
        let e : x.head ≡ q.2 = ap (λ (y : Arc). y.head) same in
        let f : arc_to (own x.tail) (own x.head) ≡ arc_to a b = both _ a _ b (ap own t ∙ q.4) (ap own e ∙ q.5) in
        rw (← f) (IsIn-push was (arc_to (own x.tail) (own x.head)))
  ],
)
  where
    x : Arc
    x = get_or arcs i d

    both : (s t u v : ℕ) → s ≡ t → u ≡ v → arc_to s u ≡ arc_to t v
    both s t u v e f = rw (e, f) refl

pub carried_skip : (own : ℕ → ℕ) (arcs : List Arc) (i : ℕ) (d : Arc) (was : List Arc) → i < length arcs
    → own (get_or arcs i d).tail ≡ own (get_or arcs i d).head
    → ((a b : ℕ) → Joins was a b ↔ IsCarried own (take i arcs) a b)
    → (a b : ℕ) → Joins was a b ↔ IsCarried own (take (i + 1) arcs) a b
carried_skip own arcs i d was l n h a b = (
  λ j. let o = (h a b).0 j in (o.0, o.1, o.2, IsIn-more_old arcs i d (arc_to o.1 o.2) l o.3, o.4, o.5),
  λ q. elim (IsIn-more_cases arcs i d (arc_to q.1 q.2) l q.3) [
    | inl old ↦ (h a b).1 (q.0, q.1, q.2, old, q.4, q.5)
    | inr same ↦
        let t : (get_or arcs i d).tail ≡ q.1 = ap (λ (y : Arc). y.tail) same in
        let e : (get_or arcs i d).head ≡ q.2 = ap (λ (y : Arc). y.head) same in
        absurd (q.0 (sym q.4 ∙ ap own (sym t) ∙ n ∙ ap own e ∙ q.5))
  ],
)

or_right : (a b : Bool) → b ≡ true → (a || b) ≡ true
or_right true b e = refl
or_right false b e = e

or_left : (a b : Bool) → b ≡ false → (a || b) ≡ a
or_left true b e = refl
or_left false b e = e

-- the owners after one member more is noted
pub noted_more : (was owners members : List ℕ) (i head : ℕ) → i < length members → get_or members i 0 < length owners
    → ((v : ℕ) → get_or owners v 0 ≡ cond (list_any (eqb v) (take i members)) head (get_or was v 0))
    → (v : ℕ) → get_or (set owners (get_or members i 0) head) v 0 ≡ cond (list_any (eqb v) (take (i + 1) members)) head (get_or was v 0)
noted_more was owners members i head l k h v = elim (eqb_tells v (get_or members i 0)) [
  | inl same ↦
      let t : list_any (eqb v) (take (i + 1) members) ≡ true = list_any_more (eqb v) members i 0 l ∙ or_right _ _ same.0 in
      rw t (rw same.1 (get_or-set_same owners (get_or members i 0) head 0 k))
  | inr other ↦
      let t : list_any (eqb v) (take (i + 1) members) ≡ list_any (eqb v) (take i members) = list_any_more (eqb v) members i 0 l ∙ or_left _ _ other.0 in
      rw t (get_or-set_other owners (get_or members i 0) v head 0 other.1 ∙ h v)
]

-- the nodes of the first of intervals, and those of the others
pub first_below : (n : ℕ) (level : List Interval) (first : Interval) → 0 < length level → first ≡ get_or level 0 first → AreBelow n (members_of level) → AreBelow n first.members
first_below n [] first l e b = absurd (omega arith)
first_below n (i ∷ rest) first l e b = λ k j. b k (IsIn-append_left i.members (members_of rest) k (rw e at j))

pub others_below : (n : ℕ) (level : List Interval) → 0 < length level → AreBelow n (members_of level) → AreBelow n (members_of (take (length level - 1) (drop 1 level)))
others_below n [] l b = absurd (omega arith)
others_below n (i ∷ rest) l b = rw (take_rest (i ∷ rest) 1) (λ k j. b k (IsIn-append_right i.members (members_of rest) k j))

-- the rows of tails hold the predecessors
pub preceded : (arcs : List Arc) (rows : List (List ℕ)) → ((k : ℕ) → row_of rows k ≡ tails_into arcs k) → (u v : ℕ) → Precedes rows u v ↔ Joins arcs u v
preceded arcs rows r u v = (λ h. Joins-from_tails arcs v u (rw (r v) at h), λ j. rw (r v) (tails_into-Joins arcs v u j))

-- the rows of tails and of heads are of the same arcs
pub converse : (arcs : List Arc) (preds succs : List (List ℕ)) → ((k : ℕ) → row_of preds k ≡ tails_into arcs k) → ((k : ℕ) → row_of succs k ≡ heads_from arcs k) → AreConverse preds succs
converse arcs preds succs p s u v = (
  λ h. rw (s u) (heads_from-Joins arcs u v ((preceded arcs preds p u v).0 h)),
  λ i. (preceded arcs preds p u v).1 (Joins-from_heads arcs u v (rw (s u) at i)),
)

-- along the same arcs the same nodes are reached
pub reaches_same : (E F : ℕ → ℕ → Type 0) → ((u v : ℕ) → E u v ↔ F u v) → (v : ℕ) → Reaches E 0 v ↔ Reaches F 0 v
reaches_same E F e v = (
  λ r. (r.0, walk_along E F (λ a b. (e a b).0) 0 r.0 v r.1),
  λ r. (r.0, walk_along F E (λ a b. (e a b).1) 0 r.0 v r.1),
)
