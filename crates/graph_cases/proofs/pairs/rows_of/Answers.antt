use Rattle.std.proofs.Common.{◌≡◌, ◌⊎◌, ◌∙◌, inl, inr, sym, ℕ, ◌<◌, List, [], ◌∷◌, ◌++◌, length, set, arith}
use Rattle.std.proofs.lemmas.Bool.Decides.{eqb_tells}
use Rattle.std.proofs.lemmas.List.{length-set, get_or-set_same, get_or-set_other}
use Rattle.il_core.specs.LineGraph.{IsIn}
use Rattle.flow_graph.specs.Search.{row_of}
use Rattle.flow_graph.proofs.Members.{IsIn-push_cases}
use Rattle.graph_cases.proofs.pairs.rows_of.Goals as goal
use Rattle.graph_cases.proofs.pairs.rows_of.Goals.{then-tail-count+then-head-count+then-tail-head+in_ok-join, else-tail-count}

-- a line of a row behind one arc more
joined : (rows : List (List ℕ)) (x h : ℕ) → x < length rows → (a k : ℕ) → IsIn (row_of (set rows x (row_of rows x ++ h ∷ [])) a) k
    → IsIn (row_of rows a) k ⊎ ((a ≡ x) × (h ≡ k))
joined rows x h l a k i = elim (eqb_tells a x) [
  | inl same ↦
      let e : row_of (set rows x (row_of rows x ++ h ∷ [])) a ≡ row_of rows x ++ h ∷ [] = rw same.1 (get_or-set_same rows x (row_of rows x ++ h ∷ []) [] l) in
      elim (IsIn-push_cases (row_of rows x) h k (rw e at i)) [ inl old ↦ inl (rw same.1 old) | inr new ↦ inr (same.1, new) ]
  | inr other ↦ inl (rw (get_or-set_other rows x a (row_of rows x ++ h ∷ []) [] other.1) at i)
]

pub loop-tail-preserved : goal.loop-tail-preserved
loop-tail-preserved c = elim c.if-tail-count.branch [
  | then-tail-count+then-head-count+then-tail-head+in_ok-join w ↦
      let s = c.loop-tail.invariant.size in
      let l = w.if-tail-count.true in
      let h = w.if-head-count.true in
      let n = w.if-tail-head.true in
      rw (w.rows-is, w.in_ok-join.ensures)
      (record {
        size = length-set c.loop-tail.rows.items _ _ ∙ s;
        below = λ a k i. elim (joined c.loop-tail.rows.items _ _ (omega arith) a k i) [ inl old ↦ c.loop-tail.invariant.below a k old | inr new ↦ rw (← new.1) h ];
        simple = λ k i. elim (joined c.loop-tail.rows.items _ _ (omega arith) k k i) [ inl old ↦ c.loop-tail.invariant.simple k old | inr new ↦ n (sym new.0 ∙ sym new.1) ];
      })
  | else-tail-count w ↦ rw w.rows-is c.loop-tail.invariant
]
