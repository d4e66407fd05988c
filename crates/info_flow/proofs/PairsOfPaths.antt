-- Pairs of paths over rows are pairs of paths along arcs.
use Rattle.std.proofs.Common.{◌≡◌, refl, ℕ, true, Option, Some, None, List, [], ◌∷◌, length, arith}
use Rattle.std.specs.Prelude.{◌↔◌, IfSome, IfNone, is_some}
use Rattle.flow_graph.specs.declared.graph.FlowGraph.{FlowGraph}
use Rattle.flow_graph.specs.Graph.{Joins, arc_to, IsWellFormed}
use Rattle.flow_graph.specs.Search.{StayBelow}
use Rattle.flow_graph.proofs.LineArcs.{heads_from-Joins, Joins-from_heads}
use Rattle.flow_graph.proofs.Spreading.{walk_along}
use Rattle.disjoint_paths.specs.declared.pair.Pair.{Pair}
use Rattle.disjoint_paths.specs.FirstPath.{IsNext}
use Rattle.disjoint_paths.specs.Pair.{LeadsTo, HasPair, IsPair}
use Rattle.info_flow.specs.Growth.{AreRows}

-- what an answer says of a pair
pub pair_told : (E : ℕ → ℕ → Type 0) (P : ℕ → Type 0) (t : ℕ) (o : Option Pair) → IfSome o (IsPair E P t) → IfNone o (HasPair E P t → ⊥)
    → (is_some o ≡ true) ↔ HasPair E P t
pair_told E P t None s n = (λ e. absurd (cc), λ h. absurd (n h))
pair_told E P t (Some p) s n = (λ e. (s.0, s.1, s.4), λ h. refl)

-- a pair of paths along arcs of one kind is one along arcs of another where each is one of those
leads_along : (E F : ℕ → ℕ → Type 0) (P : ℕ → Type 0) → ((a b : ℕ) → E a b → F a b) → (t : ℕ) (lines : List ℕ) → LeadsTo E P t lines → LeadsTo F P t lines
leads_along E F P f t [] h = h
leads_along E F P f t (b ∷ lines) h = (h.0, walk_along E F f t (b ∷ lines) h.0 h.1, h.2)

pub pair_along : (E F : ℕ → ℕ → Type 0) (P : ℕ → Type 0) → ((a b : ℕ) → E a b → F a b) → (t : ℕ) → HasPair E P t → HasPair F P t
pair_along E F P f t h = (
  h.0,
  h.1,
  record {
    left_leads = leads_along E F P f t h.0 h.2.left_leads;
    right_leads = leads_along E F P f t h.1 h.2.right_leads;
    apart = h.2.apart;
  },
)

-- rows and arcs
joins_of : (g : FlowGraph) (rows : List (List ℕ)) → AreRows g rows → (a b : ℕ) → IsNext rows a b → Joins g.arcs a b
joins_of g rows r a b i = Joins-from_heads g.arcs a b (rw (r.each a) at i)

pub next_of : (g : FlowGraph) (rows : List (List ℕ)) → AreRows g rows → (a b : ℕ) → Joins g.arcs a b → IsNext rows a b
next_of g rows r a b j = rw (r.each a) (heads_from-Joins g.arcs a b j)

pub rows_below : (g : FlowGraph) (rows : List (List ℕ)) → IsWellFormed g → AreRows g rows → StayBelow (length rows) rows
rows_below g rows w r a k i = let l = (w.arcs (arc_to a k) (joins_of g rows r a k i)).head_inside in let e = r.size in omega arith

pub none_to_itself : (g : FlowGraph) (rows : List (List ℕ)) → IsWellFormed g → AreRows g rows → (a : ℕ) → IsNext rows a a → ⊥
none_to_itself g rows w r a i = (w.arcs (arc_to a a) (joins_of g rows r a a i)).goes_elsewhere refl

pub pair_by_rows : (g : FlowGraph) (rows : List (List ℕ)) → AreRows g rows → (P : ℕ → Type 0) (t : ℕ) → HasPair (IsNext rows) P t ↔ HasPair (Joins g.arcs) P t
pair_by_rows g rows r P t = (pair_along (IsNext rows) (Joins g.arcs) P (joins_of g rows r) t, pair_along (Joins g.arcs) (IsNext rows) P (next_of g rows r) t)
