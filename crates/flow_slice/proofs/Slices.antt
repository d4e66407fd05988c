-- What `slice` answers, from the distances: the lines are a slice, the checks of a procedure hold, and the lists are exact.
use Rattle.std.proofs.Common.{◌≡◌, inl, inr, refl, sym, ap, subst, ◌∙◌, ℕ, zero, suc, ◌+◌, ◌<◌, Bool, true, false, Option, Some, None, List, [], ◌∷◌, length, map, slice_get, arith}
use Rattle.std.specs.Prelude.{◌↔◌, not, nat_lt}
use Rattle.std.specs.Option.{option_map}
use Rattle.std.proofs.lemmas.Bool.{false≢true}
use Rattle.std.proofs.lemmas.Bool.Decides.{nat_tests}
use Rattle.std.proofs.lemmas.List.{length-map}
use Rattle.std.proofs.lemmas.Option.{slice_get-map, slice_get_cases, same_Some}
use Rattle.il_core.specs.Procedure.{Procedure, Instruction, instruction_of}
use Rattle.il_core.specs.Checked.{IsChecked, NamedProcedure, procedure_of}
use Rattle.il_core.specs.LineGraph.{heads_of, heads_at}
use Rattle.il_core.specs.declared.line.Place.{Place}
use Rattle.il_core.specs.declared.line.Line.{Line}
use Rattle.flow_graph.specs.declared.graph.Node.{Node}
use Rattle.flow_graph.specs.declared.graph.NodeKind.TheVariants.{Test}
use Rattle.flow_graph.specs.declared.graph.FlowGraph.{FlowGraph}
use Rattle.flow_graph.specs.Graph.{Joins, arc_to, graph_of, node_of, returned_from, kind_of}
use Rattle.flow_graph.specs.Reached.{IsReached, Lists}
use Rattle.flow_graph.specs.Search.{IsMarked}
use Rattle.flow_graph.proofs.LineArcs.{heads_from_graph, Joins-from_HasArc}
use Rattle.flow_graph.proofs.Formed.{graph_formed}
use Rattle.info_flow.specs.Relevance.{IsTest}
use Rattle.info_flow.specs.Growth.{is_relevant}
use Rattle.info_flow.proofs.Listing.{lists_same}
use Rattle.flow_slice.specs.declared.sliced.Fixed.{Fixed}
use Rattle.flow_slice.specs.Nearer.{IsNearer}
use Rattle.flow_slice.specs.Slice.{IsSlice, IsOutline, IsSliced, IsFixedTo, sliced}
use Rattle.flow_slice.specs.Distance.{HasDistance, AreDistances, distance_at, is_shorter, side_of}
use Rattle.flow_slice.specs.Sides.{sliced_from, HaveHeadsBelow, AreFixed, side_at}

-- the lines that are made of lines
length_sliced : (marks : List Bool) (ds : List (Option ℕ)) (k : ℕ) (lines : List Instruction) → length (sliced_from marks ds k lines) ≡ length lines
length_sliced marks ds k [] = refl
length_sliced marks ds k (i ∷ rest) = ap suc (length_sliced marks ds (k + 1) rest)

sliced_at : (marks : List Bool) (ds : List (Option ℕ)) (k : ℕ) (lines : List Instruction) (j : ℕ) (i : Instruction) → slice_get lines j ≡ Some i
    → slice_get (sliced_from marks ds k lines) j ≡ Some (sliced (is_relevant marks (k + j)) (side_of ds (heads_of (k + j) i)) i)
sliced_at marks ds k [] j i e = absurd (cc)
sliced_at marks ds k (x ∷ rest) zero i e =
    let same : x ≡ i = same_Some x i e in
    let here : k + 0 ≡ k = omega arith in
    rw (here, same) refl
sliced_at marks ds k (x ∷ rest) (suc j) i e =
    let there : k + suc j ≡ (k + 1) + j = omega arith in
    rw there (sliced_at marks ds (k + 1) rest j i e)

-- the arcs of a checked procedure enter its lines
pub heads_below : (p : Procedure) (n : ℕ) → IsChecked p → n ≡ length p.lines → HaveHeadsBelow n p.lines
heads_below p n c e k i there h j =
    let l = ((graph_formed p c).arcs (arc_to k h) (Joins-from_HasArc p k h (rw there j))).head_inside in
    let m = length-map p.lines (node_of (returned_from 0 p.places)) in
    omega (arith, l, m, e)

-- a shorter distance is that of a nearer line
nearer_told : (E : ℕ → ℕ → Type 0) (P : ℕ → Type 0) (a b : ℕ) (x y : Option ℕ) → HasDistance E P a x → HasDistance E P b y → (is_shorter x y ≡ true) ↔ IsNearer E P a b
nearer_told E P a b None y h g = (λ e. absurd (false≢true e), λ n. absurd (h n.0 n.1))
nearer_told E P a b (Some n) None h g = (λ e. (h.lines, h.leads, λ others l. absurd (g others l)), λ t. refl)
nearer_told E P a b (Some n) (Some m) h g = (
  λ e. (h.lines, h.leads, λ others l. let s = h.size in let low = g.least others l in let less = below e in omega (arith, s, low, less)),
  λ t. let low = h.least t.0 t.1 in let far = t.2 g.lines g.leads in let s = g.size in let less : n < m = omega (arith, low, far, s) in tested less,
)
  where
    below : nat_lt n m ≡ true → n < m
    below e = grind (arith, nat_tests)

    tested : n < m → nat_lt n m ≡ true
    tested l = grind (arith, nat_tests)

not_false : (b : Bool) → (not b ≡ false) ↔ (b ≡ true)
not_false true = (λ e. refl, λ e. refl)
not_false false = (λ e. absurd (false≢true (sym e)), λ e. absurd (false≢true e))

-- the side to which a test is fixed
pub side_told : (p : Procedure) (marks : List Bool) (ds : List (Option ℕ)) (count : ℕ) → AreDistances (Joins (graph_of p).arcs) (IsMarked marks) count ds
    → (k : ℕ) → IsFixedTo (graph_of p) (is_relevant marks) k (side_at ds p.lines k)
side_told p marks ds count d k met unmet e =
    let heads : heads_at k (slice_get p.lines k) ≡ met ∷ unmet ∷ [] = sym (heads_from_graph p k) ∙ e in
    let told = nearer_told (Joins (graph_of p).arcs) (IsMarked marks) unmet met (distance_at ds unmet) (distance_at ds met) (d.each unmet) (d.each met) in
    let test = not_false (is_shorter (distance_at ds unmet) (distance_at ds met)) in
    rw heads (λ x. told.0 (test.0 x), λ y. test.1 (told.1 y))

-- a procedure with these lines is a slice
pub slice_made : (p q : Procedure) (marks : List Bool) (ds : List (Option ℕ)) (count : ℕ) → q.places ≡ p.places → q.lines ≡ sliced_from marks ds 0 p.lines
    → AreDistances (Joins (graph_of p).arcs) (IsMarked marks) count ds → IsSlice p (is_relevant marks) q
slice_made p q marks ds count places lines d = record {
  taken = side_at ds p.lines;
  fixed = λ k t r. side_told p marks ds count d k;
  places = places;
  size = rw lines (length_sliced marks ds 0 p.lines);
  lines = λ k i e. let here : 0 + k ≡ k = omega arith in rw (lines, e) (rw here at (sliced_at marks ds 0 p.lines k i e));
}

-- lines and places that are made of those of a procedure are a slice of it
pub slice_by : (p : NamedProcedure) (g : FlowGraph) (name : List ℕ) (places : List Place) (lines : List Line) (marks : List Bool) (ds : List (Option ℕ)) (count : ℕ)
    → g ≡ graph_of (procedure_of p) → places ≡ p.places → map instruction_of lines ≡ sliced_from marks ds 0 (map instruction_of p.lines)
    → AreDistances (Joins g.arcs) (IsMarked marks) count ds → IsSlice (procedure_of p) (is_relevant marks) (procedure_of (record { name = name; places = places; lines = lines }))
slice_by p g name places lines marks ds count e same made d =
    slice_made (procedure_of p) (procedure_of (record { name = name; places = places; lines = lines })) marks ds count same made (rw e at d)

-- the number of nodes is that of lines
pub count_told : (p : Procedure) (g : FlowGraph) (n : ℕ) → g ≡ graph_of p → n ≡ length g.nodes → n ≡ length p.lines
count_told p g n e s = s ∙ ap (λ (x : FlowGraph). length x.nodes) e ∙ length-map p.lines (node_of (returned_from 0 p.places))

-- a test is one by its instruction
test_told : (p : Procedure) (k : ℕ) → IsTest (graph_of p).nodes k ↔ ((i : Instruction) × (slice_get p.lines k ≡ Some i) × (kind_of i ≡ Test))
test_told p k = (there, back)
  where
    node : Instruction → Node
    node = node_of (returned_from 0 p.places)

    there : IsTest (graph_of p).nodes k → (i : Instruction) × (slice_get p.lines k ≡ Some i) × (kind_of i ≡ Test)
    there t = elim (slice_get_cases p.lines k).1 [
      | inl x ↦
          let made : Some (node_of (returned_from 0 p.places) x.0) ≡ Some t.0 = sym (slice_get-map (node_of (returned_from 0 p.places)) p.lines k ∙ ap (option_map (node_of (returned_from 0 p.places))) x.2) ∙ t.1 in
          (x.0, x.2, ap (λ (n : Node). n.kind) (same_Some _ t.0 made) ∙ t.2)
      | inr x ↦
          let none : None ≡ Some t.0 = sym (slice_get-map (node_of (returned_from 0 p.places)) p.lines k ∙ ap (option_map (node_of (returned_from 0 p.places))) x.1) ∙ t.1 in absurd (cc)
    ]

    back : (i : Instruction) × (slice_get p.lines k ≡ Some i) × (kind_of i ≡ Test) → IsTest (graph_of p).nodes k
    back t = (node_of (returned_from 0 p.places) t.0, slice_get-map (node_of (returned_from 0 p.places)) p.lines k ∙ ap (option_map (node_of (returned_from 0 p.places))) t.1, t.2)

-- what a slice of a procedure keeps and fixes
pub outline_of : (p : Procedure) (marks reached : List Bool) (ds : List (Option ℕ)) (count : ℕ) (keep : List ℕ) (fixed : List Fixed)
    → AreDistances (Joins (graph_of p).arcs) (IsMarked marks) count ds → ((k : ℕ) → IsMarked reached k ↔ IsReached (graph_of p).arcs k)
    → Lists (λ k. IsMarked reached k × IsMarked marks k) keep → AreFixed p.lines reached marks ds fixed
    → IsOutline (graph_of p) (is_relevant marks) (record { keep = keep; fixed = fixed })
outline_of p marks reached ds count keep fixed d r k f = record {
  keep = lists_same _ _ keep (λ x. (λ h. ((r x).0 h.0, h.1), λ h. ((r x).1 h.0, h.1))) k;
  fixed = lists_same _ _ (map (λ y. y.line) fixed) (λ x. (
    λ h. ((r x).0 h.0, (test_told p x).1 h.2, h.1),
    λ h. ((r x).1 h.0, h.2, (test_told p x).0 h.1),
  )) f.tests;
  sides = λ y i. subst (IsFixedTo (graph_of p) (is_relevant marks) y.line) (sym (f.sides y i)) (side_told p marks ds count d y.line);
}

-- the answer for a procedure
pub sliced_of : (p q : NamedProcedure) (marks reached : List Bool) (ds : List (Option ℕ)) (count : ℕ) (keep : List ℕ) (fixed : List Fixed) → q.name ≡ p.name
    → IsSlice (procedure_of p) (is_relevant marks) (procedure_of q) → AreDistances (Joins (graph_of (procedure_of p)).arcs) (IsMarked marks) count ds
    → ((k : ℕ) → IsMarked reached k ↔ IsReached (graph_of (procedure_of p)).arcs k) → Lists (λ k. IsMarked reached k × IsMarked marks k) keep
    → AreFixed (procedure_of p).lines reached marks ds fixed → IsSliced p (is_relevant marks) (record { proc = q; keep = keep; fixed = fixed })
sliced_of p q marks reached ds count keep fixed name made d r k f =
    record { name = name; slice = made; outline = outline_of (procedure_of p) marks reached ds count keep fixed d r k f }
