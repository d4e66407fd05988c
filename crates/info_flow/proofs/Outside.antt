-- In a well formed graph no line outside a closed set of relevant lines has two paths into it that share that line alone.
use Rattle.std.proofs.Common.{◌≡◌, inl, inr, refl, sym, ap, ◌∙◌, ℕ, Bool, true, Some, None, List, [], ◌∷◌, length, slice_get, arith}
use Rattle.std.proofs.lemmas.Option.{slice_get_cases}
use Rattle.il_core.specs.LineGraph.{IsIn}
use Rattle.flow_graph.specs.declared.graph.NodeKind.{NodeKind}
use Rattle.flow_graph.specs.declared.graph.NodeKind.TheVariants.{Test, Last}
use Rattle.flow_graph.specs.declared.graph.Node.{Node}
use Rattle.flow_graph.specs.declared.graph.FlowGraph.{FlowGraph}
use Rattle.flow_graph.specs.Graph.{Joins, heads_from, arc_to, arc_count, IsWellFormed}
use Rattle.flow_graph.proofs.LineArcs.{heads_from-Joins}
use Rattle.disjoint_paths.specs.Pair.{ArePaths, HasPair}
use Rattle.info_flow.specs.Relevance.{IsClosed}

-- two members of a list of one element are one
one_member : (xs : List ℕ) (a b : ℕ) → length xs ≡ 1 → IsIn xs a → IsIn xs b → a ≡ b
one_member [] a b l i j = absurd i
one_member (x ∷ []) a b l (inl e) (inl d) = sym e ∙ d
one_member (x ∷ []) a b l (inr i) j = absurd i
one_member (x ∷ []) a b l (inl e) (inr j) = absurd j
one_member (x ∷ y ∷ xs) a b l i j = absurd (omega arith)

no_member : (xs : List ℕ) (a : ℕ) → length xs ≡ 0 → IsIn xs a → ⊥
no_member [] a l i = i
no_member (x ∷ xs) a l i = omega arith

-- an arc leaves one of the nodes
pub tail_of : (g : FlowGraph) (a b : ℕ) → IsWellFormed g → Joins g.arcs a b → (n : Node) × (slice_get g.nodes a ≡ Some n)
tail_of g a b w j = elim (slice_get_cases g.nodes a).1 [
  | inl t ↦ (t.0, t.2)
  | inr t ↦ let l = (w.arcs (arc_to a b) j).tail_inside in absurd (omega (arith, l, t.0))
]

-- no arc leaves the last node
pub none_leaves : (g : FlowGraph) (a b : ℕ) (n : Node) → IsWellFormed g → slice_get g.nodes a ≡ Some n → n.kind ≡ Last → Joins g.arcs a b → ⊥
none_leaves g a b n w e k j = no_member (heads_from g.arcs a) b ((w.nodes a n e).arcs_leave ∙ ap arc_count k) (heads_from-Joins g.arcs a b j)

-- where one arc leaves a line, no two paths from it share it alone
one_arc : (g : FlowGraph) (P : ℕ → Type 0) (t : ℕ) → IsWellFormed g → ((a b : ℕ) → Joins g.arcs t a → Joins g.arcs t b → a ≡ b) → HasPair (Joins g.arcs) P t → ⊥
one_arc g P t w one p = by_paths p.0 p.1 p.2
  where
    by_paths : (left right : List ℕ) → ArePaths (Joins g.arcs) P t left right → ⊥
    by_paths [] right r = r.left_leads
    by_paths (a ∷ left) [] r = r.right_leads
    by_paths (a ∷ left) (b ∷ right) r =
        let x : Joins g.arcs t a = r.left_leads.1.0 in
        let y : Joins g.arcs t b = r.right_leads.1.0 in
        let same : a ≡ t = r.apart a (inl refl) (inl (sym (one a b x y))) in
        (w.arcs (arc_to t a) x).goes_elsewhere (sym same)

pub no_pair_outside : (g : FlowGraph) (v : ℕ) (relevant : ℕ → Bool) (needs : ℕ → ℕ → Bool) → IsWellFormed g → IsClosed g v relevant needs
    → (t : ℕ) → (relevant t ≡ true → ⊥) → HasPair (Joins g.arcs) (λ x. relevant x ≡ true) t → ⊥
no_pair_outside g v relevant needs w c t out p = elim (slice_get_cases g.nodes t).1 [
  | inl x ↦ by_kind x.0 x.2 x.0.kind refl
  | inr x ↦ one_arc g (λ y. relevant y ≡ true) t w (λ a b i j. let l = tail_of g t a w i in let e : Some l.0 ≡ None = sym l.1 ∙ x.1 in absurd (cc)) p
]
  where
    by_kind : (n : Node) → slice_get g.nodes t ≡ Some n → (k : NodeKind) → n.kind ≡ k → ⊥
    by_kind n e Test k = out (c.tested t (n, e, k) p)
    by_kind n e Last k = one_arc g (λ x. relevant x ≡ true) t w (λ a b i j. absurd (none_leaves g t a n w e k i)) p
    by_kind n e k h = one_arc g (λ x. relevant x ≡ true) t w (λ a b i j. one_member (heads_from g.arcs t) a b ((w.nodes t n e).arcs_leave ∙ ap arc_count h) (heads_from-Joins g.arcs t a i) (heads_from-Joins g.arcs t b j)) p
