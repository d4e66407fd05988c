-- The size of a region is what is tallied down the tree of its long paths.
use Rattle.std.proofs.Common.{◌≡◌, inl, inr, refl, sym, ap, ◌∙◌, subst, ℕ, zero, suc, ◌+◌, ◌<◌, Option, Some, List, [], ◌∷◌, ◌++◌, map, length, slice_get, arith}
use Rattle.std.proofs.lemmas.Bool.{cases_lt}
use Rattle.std.proofs.lemmas.List.{length-map}
use Rattle.std.proofs.lemmas.Option.{slice_get_past}
use Rattle.il_core.specs.LineGraph.{IsIn}
use Rattle.il_core.specs.Procedure.{Procedure}
use Rattle.il_core.specs.Checked.{IsChecked}
use Rattle.flow_graph.specs.Graph.{graph_of, node_of, returned_from}
use Rattle.flow_graph.specs.declared.graph.Node.{Node}
use Rattle.control_flow.specs.Loop.{IsAssertion}
use Rattle.control_flow.specs.Control.{IsControlOf, IsShape}
use Rattle.control_flow.specs.declared.control.Control.{Control}
use Rattle.control_flow.specs.declared.control.LoopInfo.{LoopInfo}
use Rattle.control_flow.specs.declared.control.Shape.TheVariants.{Reducible}
use Rattle.sym_terms.specs.Tree.{Tree, variable}
use Rattle.sym_terms.specs.Measure.{measured}
use Rattle.sym_terms.specs.Identity.{own_values}
use Rattle.sym_terms.specs.declared.measuring.TermMeasure.{TermMeasure}
use Rattle.test_graph.specs.Decision.{decision_at}
use Rattle.region_paths.specs.Region.{first_lines}
use Rattle.region_paths.specs.Laws.{BeginsRegion, PathsAreListed}
use Rattle.region_paths.specs.PathTree.{long_tree, long_paths}
use Rattle.region_paths.specs.Size.{IsPast}
use Rattle.region_paths.specs.Tally.{tallied, limit_of, empty}
use Rattle.region_paths.specs.Walk.{LeadInside, region_tree_of}
use Rattle.region_paths.specs.declared.tally.Tally.{Tally}
use Rattle.region_paths.proofs.Cuts.{head_inside}
use Rattle.region_paths.proofs.Totals.{limit_of_tree}

map-push : (xs : List Tree) (x : Tree) → map measured (xs ++ x ∷ []) ≡ map measured xs ++ measured x ∷ []
map-push [] x = refl
map-push (y ∷ xs) x = ap (λ (k : List TermMeasure). measured y ∷ k) (map-push xs x)

-- the sizes of one place more
pub sizes_more : (n : ℕ) → map measured (own_values (n + 1)) ≡ map measured (own_values n) ++ (let m : TermMeasure = record { nodes = 1; weight = 1; depth = 1 } in m) ∷ []
sizes_more n = let e : n + 1 ≡ suc n = omega arith in ap (λ (k : ℕ). map measured (own_values k)) e ∙ map-push (own_values n) (variable n)

in_index : {X : Type 0} (xs : List X) (x : X) → IsIn xs x → (k : ℕ) × (slice_get xs k ≡ Some x)
in_index [] x h = absurd h
in_index (y ∷ xs) x (inl e) = (zero, ap Some e)
in_index (y ∷ xs) x (inr h) = let t = in_index xs x h in (suc t.0, t.1)

assertion_inside : (nodes : List Node) (k : ℕ) → IsAssertion nodes k → k < length nodes
assertion_inside nodes k a = elim (cases_lt k (length nodes)) [
  | inl low ↦ low
  | inr high ↦ absurd (let none = slice_get_past nodes k high in let h = rw none at a in cc)
]

pub lead_inside : (p : Procedure) (c : Control) → IsControlOf (graph_of p) c → LeadInside p c.loops
lead_inside p c h l i k j =
    let t = in_index c.loops l i in
    let lead = ((h.loops.each t.0 l t.1).leading.exact k).0 j in
    let inside = assertion_inside (graph_of p).nodes k (lead.3 k lead.2 (omega arith)) in
    omega (arith, inside, length-map p.lines (node_of (returned_from 0 p.places)))

-- a control whose shape is reducible tells the regions
pub begins : (p : Procedure) (c : Control) (pc : ℕ) → IsChecked p → IsControlOf (graph_of p) c → c.shape ≡ Reducible → IsIn (first_lines c.loops) pc → BeginsRegion p c.loops pc
begins p c pc checked h e i = record {
  checked = checked;
  regions = record { loops_of = h.loops; reducible = subst (IsShape (graph_of p)) e h.shape };
  first = i;
}

pub first_inside : (p : Procedure) (loops : List LoopInfo) (pc : ℕ) → BeginsRegion p loops pc → pc < length p.lines
first_inside p loops pc b = by_case b.first
  where
    by_case : IsIn (first_lines loops) pc → pc < length p.lines
    by_case (inl e) = omega (arith, e, b.checked.some_lines)
    by_case (inr i) = head_inside p pc b.checked ((b.regions.loops_of.heads.exact pc).0 i)

-- the tally down the tree of the long paths tells the limit that is passed
pub past_told : (p : Procedure) (loops : List LoopInfo) (pc : ℕ) (o : Option Tally) → PathsAreListed → BeginsRegion p loops pc
    → o ≡ tallied (region_tree_of p loops (length p.lines) (decision_at p pc)) (own_values (length p.places)) empty → IsPast p loops pc (limit_of o)
unfolding long_tree long_paths
past_told p loops pc o listed b e =
    (long_paths p loops pc, (listed p loops pc b).long, sym (ap limit_of e ∙ limit_of_tree (long_tree p loops pc) (own_values (length p.places))))

-- the same, as the code's values say it
pub past_from : (p : Procedure) (loops : List LoopInfo) (pc : ℕ) (o : Option Tally) (ls : List LoopInfo) (room : ℕ) (a : Tally) → PathsAreListed → BeginsRegion p loops pc
    → ls ≡ loops → room ≡ length p.lines → a ≡ empty → o ≡ tallied (region_tree_of p ls room (decision_at p pc)) (own_values (length p.places)) a → IsPast p loops pc (limit_of o)
past_from p loops pc o ls room a listed b e f g h =
    past_told p loops pc o listed b
    (h ∙ ap (λ (x : List LoopInfo). tallied (region_tree_of p x room (decision_at p pc)) (own_values (length p.places)) a) e
    ∙ ap (λ (n : ℕ). tallied (region_tree_of p loops n (decision_at p pc)) (own_values (length p.places)) a) f
    ∙ ap (tallied (region_tree_of p loops (length p.lines) (decision_at p pc)) (own_values (length p.places))) g)
