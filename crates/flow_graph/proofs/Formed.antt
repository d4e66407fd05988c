-- The graph of a checked procedure is well formed, its nodes use places of the procedure alone, and their masks are exact.
use Rattle.std.proofs.Common.{◌≡◌, ◌≢◌, inl, inr, refl, sym, ap, subst, ◌∙◌, ℕ, ◌+◌, ◌<◌, ◌≤◌, Bool, true, false, List, [], ◌∷◌, length, map, arith, Option, Some, None, slice_get}
use Rattle.std.specs.Prelude.{◌↔◌, IsSome, IfSome}
use Rattle.std.specs.Int.{bit_at}
use Rattle.std.specs.Option.{option_map}
use Rattle.std.proofs.lemmas.List.{length-map}
use Rattle.std.proofs.lemmas.Option.{slice_get-map, slice_get_within, same_Some}
use Rattle.il_core.specs.Procedure.{Procedure, Instruction, instruction_of, pre, assign, if_true, otherwise, end_if, loop, end_loop, exit, exit_when, label, goto, skip, assert, return, end_procedure}
use Rattle.il_core.specs.Expression.{Expression}
use Rattle.il_core.specs.LineGraph.{IsIn, heads_of, heads_at}
use Rattle.il_core.specs.Checked.{IsChecked, FitsAt, IsTarget, Suits}
use Rattle.il_core.specs.declared.line.Line.{Line}
use Rattle.il_core.specs.declared.line.Place.{Place}
use Rattle.flow_graph.specs.declared.graph.NodeKind.{NodeKind}
use Rattle.flow_graph.specs.declared.graph.NodeKind.TheVariants.{Assign, Test, Last}
use Rattle.flow_graph.specs.declared.graph.Node.{Node}
use Rattle.flow_graph.specs.declared.graph.Arc.{Arc}
use Rattle.flow_graph.specs.Reading.{Reads}
use Rattle.flow_graph.specs.Graph.{kind_of, IsRead, reads_of, written_by, last_reads_of, returned_from, IsReturned, node_of, graph_of, arc_count, IsSoundArc, IsSoundNode, IsWellFormed, UsesPlaces, HasPlaces, ReadsExactly}
use Rattle.flow_graph.proofs.PlaceBits.{no_bits, mask-sound, mask-whole, whole_within, condition_within, returned-sound, returned-whole, returned_within}
use Rattle.flow_graph.proofs.LineArcs.{HasArc-from_Joins, heads_from_graph, arcs_in_order}

-- where an arc that leaves line pc may go
record Lands (count pc h : ℕ) : Type 0 where
  pub inside : h < count
  pub later : h ≢ 0
  pub other : pc ≢ h

lands_next : (count pc h : ℕ) → pc + 1 < count → pc + 1 ≡ h → Lands count pc h
lands_next count pc h l e = record { inside = omega arith; later = λ z. omega arith; other = λ z. omega arith }

lands_target : (count pc q h : ℕ) → IsTarget count pc q → q ≡ h → Lands count pc h
lands_target count pc q h t e =
    let a = t.inside in let b = t.later in let n = t.other in
    record { inside = omega arith; later = λ z. omega arith; other = λ z. n (e ∙ sym z) }

only_next : (count pc h : ℕ) → pc + 1 < count → IsIn ((pc + 1) ∷ []) h → Lands count pc h
only_next count pc h l (inl e) = lands_next count pc h l e
only_next count pc h l (inr n) = absurd n

only_target : (count pc q h : ℕ) → IsTarget count pc q → IsIn (q ∷ []) h → Lands count pc h
only_target count pc q h t (inl e) = lands_target count pc q h t e
only_target count pc q h t (inr n) = absurd n

-- an arc of a line that fits lands on another line than it leaves, and not on line 0
lands : (places : List Place) (count pc : ℕ) (i : Instruction) (h : ℕ) → FitsAt places count pc i → 2 ≤ count → IsIn (heads_of pc i) h → Lands count pc h
lands places count pc (pre e) h f m i = only_next count pc h (omega (arith, f.0, m)) i
lands places count pc (assign p e) h f m i = only_next count pc h f.0 i
lands places count pc (if_true e q) h f m (inl i) = lands_next count pc h f.0 i
lands places count pc (if_true e q) h f m (inr i) = only_target count pc q h f.1 i
lands places count pc (otherwise q) h f m i = only_target count pc q h f i
lands places count pc end_if h f m i = only_next count pc h f i
lands places count pc loop h f m i = only_next count pc h f i
lands places count pc (end_loop q) h f m i = only_target count pc q h f i
lands places count pc (exit q) h f m i = only_target count pc q h f i
lands places count pc (exit_when e q) h f m (inl i) = lands_target count pc q h f.1 i
lands places count pc (exit_when e q) h f m (inr i) = only_next count pc h f.0 i
lands places count pc label h f m i = only_next count pc h f i
lands places count pc (goto q) h f m i = only_target count pc q h f i
lands places count pc skip h f m i = only_next count pc h f i
lands places count pc (assert e) h f m i = only_next count pc h f.0 i
lands places count pc (return q) h f m i = only_target count pc q h f.1 i
lands places count pc (end_procedure e) h f m i = absurd i

arc_lands : (p : Procedure) (a h : ℕ) (o : Option Instruction) → IsChecked p → slice_get p.lines a ≡ o → IsIn (heads_at a o) h → (a < length p.lines) × Lands (length p.lines) a h
arc_lands p a h None c e i = absurd i
arc_lands p a h (Some x) c e i = (slice_get_within p.lines a x e, lands p.places (length p.lines) a x h (c.fits a x e) c.some_lines i)

sound_arc : (p : Procedure) (a : Arc) → IsChecked p → IsIn (graph_of p).arcs a → IsSoundArc (length p.lines) a
sound_arc p a c i =
    let t = arc_lands p a.tail a.head (slice_get p.lines a.tail) c refl (HasArc-from_Joins p a.tail a.head i) in
    record { tail_inside = t.0; head_inside = t.1.inside; enters_no_start = t.1.later; goes_elsewhere = t.1.other }

-- a line of the last kind is the last
last_kind : (places : List Place) (count pc : ℕ) (i : Instruction) → FitsAt places count pc i → kind_of i ≡ Last → pc + 1 ≡ count
last_kind places count pc (end_procedure e) f k = f.0
last_kind places count pc i f k = absurd (cc)

-- and the last line is of the last kind
kind_of_last : (p : Procedure) (pc : ℕ) (i : Instruction) → IsChecked p → slice_get p.lines pc ≡ Some i → pc + 1 ≡ length p.lines → kind_of i ≡ Last
kind_of_last p pc i c e l =
    let w = c.ends in
    let same : w.1 ≡ pc = omega (arith, w.2, l) in
    let g : slice_get p.lines pc ≡ Some (end_procedure w.0) = subst (λ (x : ℕ). slice_get p.lines x ≡ Some (end_procedure w.0)) same w.3 in
    let t : i ≡ end_procedure w.0 = same_Some i (end_procedure w.0) (sym e ∙ g) in
    rw t refl

-- the kind of a line tells how many arcs leave it
arc_count_of : (pc : ℕ) (i : Instruction) → length (heads_of pc i) ≡ arc_count (kind_of i)
arc_count_of pc (if_true e q) = refl
arc_count_of pc (exit_when e q) = refl
arc_count_of pc i = refl

assigns_of : (i : Instruction) → IsSome (written_by i) ↔ (kind_of i ≡ Assign)
assigns_of (assign p e) = ((λ x. refl), λ x. refl)
assigns_of i = ((λ x. absurd (cc)), λ x. absurd (cc))

-- an assignment writes a place
writes_within : (places : List Place) (count pc : ℕ) (i : Instruction) → FitsAt places count pc i → IfSome (written_by i) (λ p. p < length places)
writes_within places count pc (assign p e) f = slice_get_within places p f.1.target f.1.there
writes_within places count pc i f = tt

writes_below : (n : ℕ) (o : Option ℕ) → n ≤ 64 → IfSome o (λ p. p < n) → IfSome o (λ p. p < 64)
writes_below n None l h = tt
writes_below n (Some p) l h = omega arith

only_these : (i : Instruction) → kind_of i ≢ Assign → kind_of i ≢ Test → reads_of i ≡ 0
only_these (assign p e) a t = absurd (a refl)
only_these (if_true e q) a t = absurd (t refl)
only_these (exit_when e q) a t = absurd (t refl)
only_these i a t = refl

only_last : (r : ℕ) (k : NodeKind) → k ≢ Last → last_reads_of r k ≡ 0
only_last r Last n = absurd (n refl)
only_last r k n = refl

-- an element of a mapped list is what one of the list is mapped to
mapped : {X Y : Type 0} (f : X → Y) (xs : List X) (k : ℕ) (y : Y) → slice_get (map f xs) k ≡ Some y → (x : X) × (slice_get xs k ≡ Some x) × (f x ≡ y)
mapped {X = X} f xs k y e = by_place (slice_get xs k) refl (sym (slice_get-map f xs k) ∙ e)
  where
    by_place : (o : Option X) → slice_get xs k ≡ o → option_map f o ≡ Some y → (x : X) × (slice_get xs k ≡ Some x) × (f x ≡ y)
    by_place None g h = absurd (cc)
    by_place (Some x) g h = (x, g, same_Some (f x) y h)

sound_line : (p : Procedure) (k : ℕ) (i : Instruction) → IsChecked p → slice_get p.lines k ≡ Some i
    → IsSoundNode (length p.lines) (graph_of p).arcs k (node_of (returned_from 0 p.places) i)
sound_line p k i c e = record {
  last = (last_kind p.places (length p.lines) k i (c.fits k i e), kind_of_last p k i c e);
  arcs_leave = ap length (heads_from_graph p k ∙ ap (heads_at k) e) ∙ arc_count_of k i;
  assigns = assigns_of i;
  writes_low = writes_below (length p.places) (written_by i) c.few_places (writes_within p.places (length p.lines) k i (c.fits k i e));
  only_these_read = only_these i;
  only_last_returns = only_last (returned_from 0 p.places) (kind_of i);
}

sound_node : (p : Procedure) (k : ℕ) (n : Node) → IsChecked p → slice_get (graph_of p).nodes k ≡ Some n → IsSoundNode (length p.lines) (graph_of p).arcs k n
sound_node p k n c e =
    let t = mapped (node_of (returned_from 0 p.places)) p.lines k n e in
    subst (IsSoundNode (length p.lines) (graph_of p).arcs k) t.2 (sound_line p k t.0 c t.1)

-- the graph of a checked procedure is well formed
pub graph_formed : (p : Procedure) → IsChecked p → IsWellFormed (graph_of p)
graph_formed p c =
    let n : length p.lines ≡ length (graph_of p).nodes = sym (length-map p.lines (node_of (returned_from 0 p.places))) in
    record {
      some_nodes = rw n at c.some_lines;
      few_nodes = rw n at c.few_lines;
      in_order = arcs_in_order 0 p.lines;
      arcs = λ a i. rw n at (sound_arc p a c i);
      nodes = λ k x e. subst (λ (m : ℕ). IsSoundNode m (graph_of p).arcs k x) n (sound_node p k x c e);
    }

suits_within : (flag : Bool) (places : List Place) (e : Expression) (p : ℕ) → Suits flag places e → Reads e p → p < length places
suits_within true places e p t h = condition_within places e p t h
suits_within false places e p t h = whole_within places e p t h

-- a line that fits reads places alone
reads_within : (places : List Place) (count pc : ℕ) (i : Instruction) (p : ℕ) → FitsAt places count pc i → IsRead i p → p < length places
reads_within places count pc (assign q e) p f h = suits_within f.1.target.flag places e p f.1.typed h
reads_within places count pc (if_true e q) p f h = condition_within places e p f.2.typed h
reads_within places count pc (exit_when e q) p f h = condition_within places e p f.2.typed h
reads_within places count pc i p f h = absurd h

reads-sound : (i : Instruction) (p : ℕ) → bit_at (reads_of i) p ≡ 1 → IsRead i p
reads-sound (assign q e) p h = mask-sound e p h
reads-sound (if_true e q) p h = mask-sound e p h
reads-sound (exit_when e q) p h = mask-sound e p h
reads-sound i p h = no_bits p h

reads-whole : (i : Instruction) (p : ℕ) → p < 64 → IsRead i p → bit_at (reads_of i) p ≡ 1
reads-whole (assign q e) p l h = mask-whole e p l h
reads-whole (if_true e q) p l h = mask-whole e p l h
reads-whole (exit_when e q) p l h = mask-whole e p l h
reads-whole i p l h = absurd h

-- the mask of the variables that are handed back has exactly their bits
returned_bits : (places : List Place) → length places ≤ 64 → (p : ℕ) → (bit_at (returned_from 0 places) p ≡ 1) ↔ IsReturned places p
returned_bits places few p = (there, back)
  where
    there : bit_at (returned_from 0 places) p ≡ 1 → IsReturned places p
    there h = let t = returned-sound 0 places p h in let e : t.0 ≡ p = omega (arith, t.1) in subst (IsReturned places) e t.2

    back : IsReturned places p → bit_at (returned_from 0 places) p ≡ 1
    back h = let l = returned_within places p h in let e : 0 + p ≡ p = omega arith in subst (λ (q : ℕ). bit_at (returned_from 0 places) q ≡ 1) e (returned-whole 0 places p (omega arith) h)

last_bits : (places : List Place) → length places ≤ 64 → (k : NodeKind) → k ≡ Last → (p : ℕ) → (bit_at (last_reads_of (returned_from 0 places) k) p ≡ 1) ↔ IsReturned places p
last_bits places few Last e p = returned_bits places few p
last_bits places few k e p = absurd (cc)

uses_line : (p : Procedure) (k : ℕ) (i : Instruction) → IsChecked p → slice_get p.lines k ≡ Some i → UsesPlaces p.places (node_of (returned_from 0 p.places) i)
uses_line p k i c e = record {
  reads = λ q h. reads_within p.places (length p.lines) k i q (c.fits k i e) (reads-sound i q h);
  writes = writes_within p.places (length p.lines) k i (c.fits k i e);
  returns = last_bits p.places c.few_places (kind_of i);
}

-- the nodes of a checked procedure's graph use its places alone
pub graph_placed : (p : Procedure) → IsChecked p → HasPlaces (graph_of p) p.places
graph_placed p c = record { few = c.few_places; each = each }
  where
    each : (k : ℕ) (n : Node) → slice_get (graph_of p).nodes k ≡ Some n → UsesPlaces p.places n
    each k n e =
        let t = mapped (node_of (returned_from 0 p.places)) p.lines k n e in
        subst (UsesPlaces p.places) t.2 (uses_line p k t.0 c t.1)

-- the masks of a checked procedure's graph are exact
pub graph_reads : (p : Procedure) → IsChecked p → ReadsExactly p.lines (graph_of p).nodes
graph_reads p c k i n e g q =
    let t = mapped (node_of (returned_from 0 p.places)) p.lines k n g in
    let same : t.0 ≡ i = same_Some t.0 i (sym t.1 ∙ e) in
    let is : node_of (returned_from 0 p.places) i ≡ n = subst (λ (x : Instruction). node_of (returned_from 0 p.places) x ≡ n) same t.2 in
    subst (λ (m : Node). (bit_at m.reads q ≡ 1) ↔ IsRead i q) is
    (reads-sound i q, λ h. let l = reads_within p.places (length p.lines) k i q (c.fits k i e) h in let few = c.few_places in reads-whole i q (omega arith) h)

-- mapping by two functions in one go
map_both : {X Y Z : Type 0} (f : Y → Z) (g : X → Y) (xs : List X) → map (λ x. f (g x)) xs ≡ map f (map g xs)
map_both f g [] = refl
map_both f g (x ∷ xs) = ap (λ ys. f (g x) ∷ ys) (map_both f g xs)

-- the nodes of lines
pub node_lists : (r s : ℕ) (xs ys : List Line) → r ≡ s → xs ≡ ys → map (λ line. node_of r (instruction_of line)) xs ≡ map (node_of s) (map instruction_of ys)
node_lists r s xs ys e f = rw (e, f) (map_both (node_of s) instruction_of ys)
