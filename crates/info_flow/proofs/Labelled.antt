-- Where the labels of all lines are consistent, no line that is not marked has two paths to marked lines that share it alone.
use Rattle.std.proofs.Common.{◌≡◌, ◌⊎◌, inl, inr, refl, sym, subst, ◌∙◌, ℕ, ◌+◌, ◌<◌, ◌≤◌, Bool, true, false, eqb, Option, Some, None, List, [], ◌∷◌, length, take, get_or, arith}
use Rattle.std.specs.Prelude.{not}
use Rattle.std.proofs.lemmas.Bool.{cases_lt, false≢true}
use Rattle.std.proofs.lemmas.Bool.Decides.{nat_tests}
use Rattle.std.proofs.lemmas.List.{take_all}
use Rattle.std.proofs.lemmas.Option.{same_Some}
use Rattle.flow_graph.proofs.Members.{IsIn-more_cases}
use Rattle.il_core.specs.LineGraph.{IsIn}
use Rattle.flow_graph.specs.declared.graph.FlowGraph.{FlowGraph}
use Rattle.flow_graph.specs.Graph.{Joins, arc_to, IsWellFormed}
use Rattle.flow_graph.specs.Search.{IsWalk, IsMarked, IsUnmarked, row_of}
use Rattle.disjoint_paths.specs.Pair.{LeadsTo, HasPair}
use Rattle.info_flow.specs.Growth.{AreRows, IsDecided, AreDecided}
use Rattle.info_flow.specs.Labels.{label_at, is_other, Agree, IsConsistent}
use Rattle.info_flow.proofs.PairsOfPaths.{next_of}

-- a label that is not another one is this one
same_label : (a b : Option ℕ) (x : ℕ) → is_other a b ≡ false → a ≡ Some x → b ≡ Some x
same_label None b x o e = absurd (cc)
same_label (Some y) None x o e = absurd (false≢true (sym o))
same_label (Some y) (Some z) x o e = let same : y ≡ z = equal y z o in rw same at e
  where
    equal : (y z : ℕ) → not (eqb y z) ≡ false → y ≡ z
    equal y z n = grind (arith, nat_tests)

-- agreement of the lines of a row, one after the other
pub agree_none : (row : List ℕ) (labels : List (Option ℕ)) (label : Option ℕ) → Agree (take 0 row) labels label
agree_none row labels label = λ h i. absurd i

pub agree_more : (row : List ℕ) (i d : ℕ) (labels : List (Option ℕ)) (label here : Option ℕ) (other : Bool) → i < length row
    → here ≡ label_at labels (get_or row i d) → other ≡ is_other here label → other ≡ false → Agree (take i row) labels label → Agree (take (i + 1) row) labels label
agree_more row i d labels label here other l e o f w = λ h j. elim (IsIn-more_cases row i d h l j) [
  | inl old ↦ w h old
  | inr same ↦ subst (λ k. is_other (label_at labels k) label ≡ false) same (subst (λ x. is_other x label ≡ false) e (sym o ∙ f))
]

pub agree_all : (row : List ℕ) (i : ℕ) (labels : List (Option ℕ)) (label : Option ℕ) → length row ≤ i → Agree (take i row) labels label → Agree row labels label
agree_all row i labels label l w = subst (λ xs. Agree xs labels label) (take_all i row l) w

-- consistent labels of the lines, one after the other
pub consistent_more : (rows : List (List ℕ)) (marks : List Bool) (labels : List (Option ℕ)) (n : ℕ) (row : List ℕ) → row ≡ row_of rows n → IsConsistent row marks labels n
    → ((k : ℕ) → k < n → IsConsistent (row_of rows k) marks labels k) → (k : ℕ) → k < n + 1 → IsConsistent (row_of rows k) marks labels k
consistent_more rows marks labels n row e h w k l = elim (cases_lt k n) [
  | inl m ↦ w k m
  | inr m ↦
      let same : n ≡ k = omega arith in
      subst (λ j. IsConsistent (row_of rows j) marks labels j) same (subst (λ x. IsConsistent x marks labels n) e h)
]

marked_or_not : (marks : List Bool) (k : ℕ) → IsMarked marks k ⊎ IsUnmarked marks k
marked_or_not marks k = told (get_or marks k false) refl
  where
    told : (b : Bool) → get_or marks k false ≡ b → IsMarked marks k ⊎ IsUnmarked marks k
    told true e = inl e
    told false e = inr e

-- a marked line on some lines that is the label of a line
record IsMet (marks : List Bool) (labels : List (Option ℕ)) (a : ℕ) (lines : List ℕ) : Type 0 where
  pub line : ℕ
  pub there : IsIn lines line
  pub marked : IsMarked marks line
  pub label : label_at labels a ≡ Some line

module _ (g : FlowGraph) (rows : List (List ℕ)) (marks : List Bool) (labels : List (Option ℕ)) (w : IsWellFormed g) (r : AreRows g rows)
    (all : (k : ℕ) → k < length g.nodes → IsConsistent (row_of rows k) marks labels k) where
  -- the label of a line from which an arc leads to a labelled line
  label_behind : (a b x : ℕ) → IsUnmarked marks a → Joins g.arcs a b → label_at labels b ≡ Some x → label_at labels a ≡ Some x
  label_behind a b x u j e = same_label (label_at labels b) (label_at labels a) x ((all a ((w.arcs (arc_to a b) j).tail_inside)).kept u b (next_of g rows r a b j)) e

  -- a walk to a marked line meets one that is the label of its first line
  met_on : (a : ℕ) (lines : List ℕ) (x : ℕ) → a < length g.nodes → IsWalk (Joins g.arcs) a lines x → IsMarked marks x → IsMet marks labels a (a ∷ lines)
  met_on a [] x l e m = let here : IsMarked marks a = rw e m in record { line = a; there = inl refl; marked = here; label = (all a l).own here }
  met_on a (b ∷ rest) x l t m = elim (marked_or_not marks a) [
    | inl here ↦ record { line = a; there = inl refl; marked = here; label = (all a l).own here }
    | inr u ↦
        let n = met_on b rest x ((w.arcs (arc_to a b) t.0).head_inside) t.1 m in
        record { line = n.line; there = inr n.there; marked = n.marked; label = label_behind a b n.line u t.0 n.label }
  ]

  met_by : (t : ℕ) (lines : List ℕ) → IsUnmarked marks t → LeadsTo (Joins g.arcs) (IsMarked marks) t lines → IsMet marks labels t lines
  met_by t [] u h = absurd h
  met_by t (b ∷ rest) u h =
      let n = met_on b rest h.0 ((w.arcs (arc_to t b) h.1.0).head_inside) h.1.1 h.2 in
      record { line = n.line; there = n.there; marked = n.marked; label = label_behind t b n.line u h.1.0 n.label }

  -- both paths of a pair meet the same one, so it is the line that they share
  no_pair : (t : ℕ) → IsUnmarked marks t → HasPair (Joins g.arcs) (IsMarked marks) t → ⊥
  no_pair t u h =
      let left = met_by t h.0 u h.2.left_leads in
      let right = met_by t h.1 u h.2.right_leads in
      let same : right.line ≡ left.line = same_Some right.line left.line (sym right.label ∙ left.label) in
      let start : left.line ≡ t = h.2.apart left.line left.there (subst (IsIn h.1) same right.there) in
      false≢true (sym u ∙ subst (IsMarked marks) start left.marked)

  pub decided_by_labels : AreDecided g marks
  decided_by_labels k l d = elim (marked_or_not marks k) [ inl m ↦ m | inr u ↦ absurd (no_pair k u d.1) ]
