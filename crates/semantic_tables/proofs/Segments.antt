-- Where a walk goes on behind a line.
use Rattle.std.proofs.Common.{◌≡◌, refl, sym, ap, ◌∙◌, subst, ℕ, zero, suc, ◌+◌, ◌-◌, ◌<◌, ◌≤◌, Bool, true, false, Option, Some, None, List, [], ◌∷◌, length, slice_get, drop, arith}
use Rattle.std.specs.Prelude.{if◌then◌else◌}
use Rattle.std.proofs.lemmas.Option.{same_Some, none-some, slice_get_within}
use Rattle.il_core.specs.Procedure.{Procedure}
use Rattle.il_core.specs.declared.line.Next.TheVariants as next
use Rattle.il_core.specs.declared.line.Stop.TheVariants as stop
use Rattle.control_flow.specs.declared.control.LoopInfo.{LoopInfo}
use Rattle.test_graph.specs.Decision.{decision_at}
use Rattle.test_graph.specs.Lowered.{Unfolds}
use Rattle.test_graph.proofs.Speaking.{decides-below}
use Rattle.region_paths.specs.Region.{is_head, leading_of}
use Rattle.region_paths.specs.PathTree.{PathTree, stops, grafted, passed, tree_to, leading_tree}
use Rattle.region_paths.proofs.Walking.{in_at}
use Rattle.semantic_tables.specs.Walk.{explored_procedure, IsExploration, is_long, head_tree, head_in, leading_in, behind, leading_lines, lines_left, IsOnward, GoesOn}
use Rattle.semantic_tables.specs.declared.exploration.Exploration.{Exploration}
use Rattle.semantic_tables.specs.declared.segment.Segment.TheVariants.{Region, Leading}
use Rattle.semantic_tables.specs.declared.segment.Onward.{Onward}
use Rattle.semantic_tables.specs.declared.segment.Onward.TheVariants.{Stops, On}

-- there is a loop at each index within
pub loop_there : (loops : List LoopInfo) (at : ℕ) → at < length loops → (l : LoopInfo) × (slice_get loops at ≡ Some l)
loop_there [] at h = absurd (omega arith)
loop_there (l ∷ loops) zero h = (l, refl)
loop_there (l ∷ loops) (suc at) h = loop_there loops at (omega (arith, h))

chosen : (b : Bool) (s t : PathTree) → b ≡ true → (if b then s else t) ≡ s
chosen true s t e = refl
chosen false s t e = absurd (cc)

other : (b : Bool) (s t : PathTree) → b ≡ false → (if b then s else t) ≡ t
other true s t e = absurd (cc)
other false s t e = refl

-- a list from one of its places on
drop_step : (xs : List ℕ) (k : ℕ) (x : ℕ) → slice_get xs k ≡ Some x → drop k xs ≡ x ∷ drop (k + 1) xs
drop_step [] k x e = absurd (none-some x e)
drop_step (y ∷ xs) zero x e = ap (λ (z : ℕ). z ∷ xs) (same_Some y x e)
drop_step (y ∷ xs) (suc k) x e = let n : suc k + 1 ≡ suc (k + 1) = omega arith in drop_step xs k x e ∙ ap (λ (j : ℕ). x ∷ drop j (y ∷ xs)) (sym n)

drop_end : (xs : List ℕ) (k : ℕ) → None ≡ slice_get xs k → drop k xs ≡ []
drop_end [] zero e = refl
drop_end [] (suc k) e = refl
drop_end (y ∷ xs) zero e = absurd (none-some y e)
drop_end (y ∷ xs) (suc k) e = drop_end xs k e

-- a leading assertion that is left, with those behind it
pub lead_on : (p : Procedure) (o : Option LoopInfo) (l : LoopInfo) (from line : ℕ) → o ≡ Some l → slice_get l.leading from ≡ Some line
    → leading_tree p (head_in o) (drop from (leading_in o)) ≡ grafted (passed (leading_tree p (head_in o) (drop (from + 1) (leading_in o)))) (decision_at p line)
lead_on p None l from line e h = absurd (none-some l e)
lead_on p (Some m) l from line e h =
    let there : slice_get m.leading from ≡ Some line = subst (λ (x : LoopInfo). slice_get x.leading from ≡ Some line) (sym (same_Some m l e)) h in
    ap (leading_tree p m.head) (drop_step m.leading from line there)

-- no leading assertion is left
pub lead_ends : (p : Procedure) (o : Option LoopInfo) (l : LoopInfo) (from : ℕ) → o ≡ Some l → None ≡ slice_get l.leading from
    → leading_tree p (head_in o) (drop from (leading_in o)) ≡ stops (stop.Head l.head)
lead_ends p None l from e h = absurd (none-some l e)
lead_ends p (Some m) l from e h =
    let same = same_Some m l e in
    let there : None ≡ slice_get m.leading from = subst (λ (x : LoopInfo). None ≡ slice_get x.leading from) (sym same) h in
    ap (leading_tree p m.head) (drop_end m.leading from there) ∙ ap (λ (x : LoopInfo). stops (stop.Head x.head)) same

leading_of_some : (o : Option LoopInfo) (l : LoopInfo) → o ≡ Some l → leading_in o ≡ l.leading
leading_of_some o l e = ap leading_in e

-- the lines to which a loop leads are the procedure's
pub line_inside : (g : Exploration) (at from line : ℕ) (l : LoopInfo) → IsExploration g → slice_get g.loops.now at ≡ Some l → slice_get l.leading from ≡ Some line → line < length (explored_procedure g).lines
line_inside g at from line l k e h = k.leading l (in_at g.loops.now at l e) line (in_at l.leading from line h)

less_left : (n k : ℕ) → k < n → n - (k + 1) < n - k
less_left n k h = omega (arith, h)

-- the next leading assertion
pub leads_on : (g : Exploration) (at from line id : ℕ) (l : LoopInfo) → IsExploration g → at < length g.loops.now → slice_get g.loops.now at ≡ Some l → slice_get l.leading from ≡ Some line
    → Unfolds g.graph.now.nodes g.graph.now.entries id (decision_at (explored_procedure g) line)
    → IsOnward g (lines_left g.loops.now (Leading at from)) (leading_tree (explored_procedure g) (head_in (slice_get g.loops.now at)) (drop from (leading_in (slice_get g.loops.now at)))) id (Leading at (from + 1))
leads_on g at from line id l k inside e h u = record {
  segment_there = inside;
  fewer = subst (λ (xs : List ℕ). length xs - (from + 1) < length xs - from) (sym (leading_of_some (slice_get g.loops.now at) l e))
      (less_left (length l.leading) from (slice_get_within l.leading from line h));
  decision = decision_at (explored_procedure g) line;
  unfolds = u;
  places = decides-below (explored_procedure g) line k.checked;
  same = lead_on (explored_procedure g) (slice_get g.loops.now at) l from line e h;
}

-- the same with more lines left, and for the same tree
pub goes_as : (g : Exploration) (a b : ℕ) (t u : PathTree) (o : Onward) → a ≤ b → u ≡ t → GoesOn g a t o → GoesOn g b u o
goes_as g a b t u (Stops end) l e h = e ∙ h
goes_as g a b t u (On id segment) l e h = record {
  segment_there = h.segment_there;
  fewer = omega (arith, h.fewer, l);
  decision = h.decision;
  unfolds = h.unfolds;
  places = h.places;
  same = e ∙ h.same;
}

leading_few : (loops : List LoopInfo) (at : ℕ) → length (leading_in (slice_get loops at)) ≤ leading_lines loops
leading_few [] at = omega arith
leading_few (l ∷ loops) zero = omega arith
leading_few (l ∷ loops) (suc at) = omega (arith, leading_few loops at)

pub few_left : (loops : List LoopInfo) (at room : ℕ) → lines_left loops (Leading at 0) ≤ lines_left loops (Region room)
few_left loops at room = omega (arith, leading_few loops at)

-- the tree of a head on a long path is that of its leading assertions
pub at_loop : (p : Procedure) (loops : List LoopInfo) (long : Bool) (room at q : ℕ) (l : LoopInfo) → long ≡ true → slice_get loops at ≡ Some l → is_head loops q ≡ true
    → leading_of loops q ≡ l.leading → l.head ≡ q → behind p loops long (Region room) (next.At q) ≡ behind p loops long (Leading at 0) (next.At q)
at_loop p loops false room at q l e h i j k = absurd (cc)
at_loop p loops true room at q l e h i j k =
    chosen (is_head loops q) (leading_tree p q (leading_of loops q)) (tree_to p loops (head_tree p loops true) room q) i
    ∙ ap (leading_tree p q) j ∙ ap (λ (n : ℕ). leading_tree p n l.leading) (sym k)
    ∙ ap (λ (o : Option LoopInfo). leading_tree p (head_in o) (leading_in o)) (sym h)

-- a head where a path of the table stops
pub at_head : (p : Procedure) (loops : List LoopInfo) (long : Bool) (room q : ℕ) → long ≡ false → is_head loops q ≡ true → behind p loops long (Region room) (next.At q) ≡ stops (stop.Head q)
at_head p loops true room q e i = absurd (cc)
at_head p loops false room q e i = chosen (is_head loops q) (stops (stop.Head q)) (tree_to p loops (head_tree p loops false) room q) i

-- no room is left
pub at_end : (p : Procedure) (loops : List LoopInfo) (long : Bool) (room q : ℕ) → is_head loops q ≡ false → room ≡ 0 → behind p loops long (Region room) (next.At q) ≡ stops (stop.Head q)
at_end p loops long room q i e =
    other (is_head loops q) (head_tree p loops long q) (tree_to p loops (head_tree p loops long) room q) i
    ∙ ap (λ (n : ℕ). tree_to p loops (head_tree p loops long) n q) e

-- the next line
pub at_line_on : (g : Exploration) (room less q first : ℕ) → IsExploration g → is_head g.loops.now q ≡ false → room ≡ suc less
    → Unfolds g.graph.now.nodes g.graph.now.entries first (decision_at (explored_procedure g) q)
    → IsOnward g (lines_left g.loops.now (Region room)) (behind (explored_procedure g) g.loops.now (is_long g.query) (Region room) (next.At q)) first (Region less)
at_line_on g room less q first k i e u = record {
  segment_there = tt;
  fewer = omega (arith, e);
  decision = decision_at (explored_procedure g) q;
  unfolds = u;
  places = decides-below (explored_procedure g) q k.checked;
  same = other (is_head g.loops.now q) (head_tree (explored_procedure g) g.loops.now (is_long g.query) q) (tree_to (explored_procedure g) g.loops.now (head_tree (explored_procedure g) g.loops.now (is_long g.query)) room q) i
      ∙ ap (λ (n : ℕ). tree_to (explored_procedure g) g.loops.now (head_tree (explored_procedure g) g.loops.now (is_long g.query)) n q) e;
}
