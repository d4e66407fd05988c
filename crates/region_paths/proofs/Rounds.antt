-- One node's count: from counts that are at least, or at most, the paths of some lines to those of one line more.
use Rattle.std.proofs.Common.{◌≡◌, inl, inr, refl, ◌⊎◌, sym, ap, ◌∙◌, subst, ℕ, zero, suc, ◌+◌, ◌<◌, ◌≤◌, Bool, true, false, Option, None, Some, List, [], ◌∷◌, length, slice_get, max, arith}
use Rattle.std.specs.Prelude.{slice_set, All, if◌then◌else◌}
use Rattle.std.proofs.lemmas.Bool.{cases_lt}
use Rattle.std.proofs.lemmas.List.{length-set}
use Rattle.std.proofs.lemmas.Option.{slice_get_within, get_or_from_slice_get}
use Rattle.il_core.specs.Procedure.{Procedure}
use Rattle.il_core.specs.declared.line.Next.{Next}
use Rattle.il_core.specs.declared.line.Next.TheVariants as next
use Rattle.il_core.specs.declared.line.Halt.{Halt}
use Rattle.control_flow.specs.declared.control.LoopInfo.{LoopInfo}
use Rattle.sym_terms.specs.declared.term.Term.{Term}
use Rattle.sym_terms.specs.declared.term.Literal.{Literal}
use Rattle.test_graph.specs.Decision.{Decision, ask, done, decision_at}
use Rattle.test_graph.specs.Lowered.{Unfolds, IsLowered}
use Rattle.test_graph.specs.declared.graph.TestNode.TheVariants.{Test, Assign, AtLine, Stop}
use Rattle.test_graph.specs.declared.graph.TestGraph.{TestGraph}
use Rattle.region_paths.specs.Region.{is_head, leading_of}
use Rattle.region_paths.specs.PathTree.{PathTree, grafted, below, leading_tree, tree_to}
use Rattle.region_paths.specs.Walk.{region_tree_of}
use Rattle.region_paths.specs.Count.{leaves, capped, counted, IsHeadCount, AreHeadCounts, CountAtLeast, CountAtMost, IsRaised}
use Rattle.region_paths.proofs.Nodes.{at_test, at_assign, at_line, at_stop}
use Rattle.region_paths.proofs.Walking.{beyond, at_head, at_other, line_unfolds}
use Rattle.region_paths.proofs.Counts.{leaves_some, there, node_inside}

pub counted_some : (p : Procedure) (loops : List LoopInfo) (n : ℕ) (d : Decision) → 1 ≤ counted p loops n d
counted_some p loops zero d = omega arith
counted_some p loops (suc n) d = omega (arith, leaves_some (region_tree_of p loops n d))

pub counted_few : (p : Procedure) (loops : List LoopInfo) (n : ℕ) (d : Decision) → counted p loops n d ≤ 16385
counted_few p loops zero d = omega arith
counted_few p loops (suc n) d = omega arith

grafted_more : (f g : Next → PathTree) → ((to : Next) → leaves (f to) ≤ leaves (g to)) → (d : Decision) → leaves (grafted f d) ≤ leaves (grafted g d)
grafted_more f g h (ask c a b) = omega (arith, grafted_more f g h a, grafted_more f g h b)
grafted_more f g h (done o to) = h to

below_more : (loops : List LoopInfo) (at_head s t : ℕ → PathTree) → ((q : ℕ) → leaves (s q) ≤ leaves (t q)) → (to : Next)
    → leaves (below loops at_head s to) ≤ leaves (below loops at_head t to)
below_more loops at_head s t h (next.Halted k) = omega arith
below_more loops at_head s t h (next.At q) = either (is_head loops q)
  where
    either : (b : Bool) → leaves (if b then at_head q else s q) ≤ leaves (if b then at_head q else t q)
    either true = omega arith
    either false = h q

-- more lines have no fewer paths
tree_more : (p : Procedure) (loops : List LoopInfo) (at_head : ℕ → PathTree) (n q : ℕ) → leaves (tree_to p loops at_head n q) ≤ leaves (tree_to p loops at_head (suc n) q)
tree_more p loops at_head zero q = leaves_some (tree_to p loops at_head (suc zero) q)
tree_more p loops at_head (suc n) q =
    grafted_more _ _ (below_more loops at_head (λ r. tree_to p loops at_head n r) (λ r. tree_to p loops at_head (suc n) r) (tree_more p loops at_head n)) (decision_at p q)

pub counted_more : (p : Procedure) (loops : List LoopInfo) (n : ℕ) (d : Decision) → counted p loops n d ≤ counted p loops (suc n) d
counted_more p loops zero d = counted_some p loops (suc zero) d
counted_more p loops (suc n) d =
    omega (
      arith,
      grafted_more (beyond p loops n) (beyond p loops (suc n))
          (below_more loops (λ q. leading_tree p q (leading_of loops q)) (λ q. tree_to p loops (λ h. leading_tree p h (leading_of loops h)) n q)
          (λ q. tree_to p loops (λ h. leading_tree p h (leading_of loops h)) (suc n) q) (tree_more p loops (λ h. leading_tree p h (leading_of loops h)) n)) d,
    )

pub counted_far : (p : Procedure) (loops : List LoopInfo) (k n : ℕ) (d : Decision) → counted p loops n d ≤ counted p loops (k + n) d
counted_far p loops zero n d = let e : 0 + n ≡ n = omega arith in rw e (omega arith)
counted_far p loops (suc k) n d =
    let e : suc k + n ≡ suc (k + n) = omega arith in rw e (omega (arith, counted_far p loops k n d, counted_more p loops (k + n) d))

-- the count of a head, and of another line
counted_head : (p : Procedure) (loops : List LoopInfo) (n q : ℕ) → is_head loops q ≡ true → counted p loops (suc n) (done None (next.At q)) ≡ capped (leaves (leading_tree p q (leading_of loops q)))
counted_head p loops n q e = ap (λ (t : PathTree). capped (leaves t)) (at_head p loops n q e)

counted_line : (p : Procedure) (loops : List LoopInfo) (n q : ℕ) → is_head loops q ≡ false → counted p loops (suc n) (done None (next.At q)) ≡ counted p loops n (decision_at p q)
counted_line p loops zero q e = ap (λ (t : PathTree). capped (leaves t)) (at_other p loops zero q e) ∙ omega arith
counted_line p loops (suc n) q e = ap (λ (t : PathTree). capped (leaves t)) (at_other p loops (suc n) q e)

-- what is told of a node's count, from the counts of lower nodes
abbrev Tells : ℕ → List ℕ → ℕ → Type 0
Tells x counts id = (c : ℕ) → slice_get counts id ≡ Some c → x ≡ c

pub test_least : (p : Procedure) (loops : List LoopInfo) (g : TestGraph) (n id : ℕ) (literal : Literal) (met unmet : ℕ) (d : Decision) (counts : List ℕ) (x y : ℕ) → IsLowered p g
    → slice_get g.nodes id ≡ Some (Test literal met unmet) → Unfolds g.nodes g.entries id d → id < length counts → CountAtLeast p loops g n id counts
    → Tells x counts met → Tells y counts unmet → counted p loops (suc n) d ≤ capped (x + y)
test_least p loops g n id literal met unmet d counts x y l e u low least f h =
    let t = at_test p g id literal met unmet d l e u in
    let lower = l.falls id _ e in
    let a = there counts met (omega (arith, lower.0, low)) in
    let b = there counts unmet (omega (arith, lower.1, low)) in
    let i = least.more met t.on a.0 lower.0 t.met_unfolds a.1 in
    let j = least.more unmet t.off b.0 lower.1 t.unmet_unfolds b.1 in
    subst (λ (k : Decision). counted p loops (suc n) k ≤ capped (x + y)) (sym t.same) (omega (arith, i, j, f a.0 a.1, h b.0 b.1))

pub test_most : (p : Procedure) (loops : List LoopInfo) (g : TestGraph) (n id : ℕ) (literal : Literal) (met unmet : ℕ) (d : Decision) (counts : List ℕ) (x y : ℕ) → IsLowered p g
    → slice_get g.nodes id ≡ Some (Test literal met unmet) → Unfolds g.nodes g.entries id d → id < length counts → CountAtMost p loops g n counts
    → Tells x counts met → Tells y counts unmet → capped (x + y) ≤ counted p loops (suc n) d
test_most p loops g n id literal met unmet d counts x y l e u low most f h =
    let t = at_test p g id literal met unmet d l e u in
    let lower = l.falls id _ e in
    let a = there counts met (omega (arith, lower.0, low)) in
    let b = there counts unmet (omega (arith, lower.1, low)) in
    let i = most.each met t.on a.0 t.met_unfolds a.1 in
    let j = most.each unmet t.off b.0 t.unmet_unfolds b.1 in
    let v = counted_more p loops n t.on in
    let w = counted_more p loops n t.off in
    subst (λ (k : Decision). capped (x + y) ≤ counted p loops (suc n) k) (sym t.same) (omega (arith, i, j, v, w, f a.0 a.1, h b.0 b.1))

pub assign_least : (p : Procedure) (loops : List LoopInfo) (g : TestGraph) (n id place : ℕ) (term : Term) (behind : ℕ) (d : Decision) (counts : List ℕ) (x : ℕ) → IsLowered p g
    → slice_get g.nodes id ≡ Some (Assign place term behind) → Unfolds g.nodes g.entries id d → id < length counts → CountAtLeast p loops g n id counts
    → Tells x counts behind → counted p loops (suc n) d ≤ x
assign_least p loops g n id place term behind d counts x l e u low least f =
    let t = at_assign p g id place term behind d l e u in
    let lower = l.falls id _ e in
    let a = there counts behind (omega (arith, lower, low)) in
    let i = least.more behind (done None t.to) a.0 lower t.unfolds a.1 in
    subst (λ (k : Decision). counted p loops (suc n) k ≤ x) (sym t.same) (omega (arith, i, f a.0 a.1))

pub assign_most : (p : Procedure) (loops : List LoopInfo) (g : TestGraph) (n id place : ℕ) (term : Term) (behind : ℕ) (d : Decision) (counts : List ℕ) (x : ℕ) → IsLowered p g
    → slice_get g.nodes id ≡ Some (Assign place term behind) → Unfolds g.nodes g.entries id d → id < length counts → CountAtMost p loops g n counts
    → Tells x counts behind → x ≤ counted p loops (suc n) d
assign_most p loops g n id place term behind d counts x l e u low most f =
    let t = at_assign p g id place term behind d l e u in
    let lower = l.falls id _ e in
    let a = there counts behind (omega (arith, lower, low)) in
    let i = most.each behind (done None t.to) a.0 t.unfolds a.1 in
    let v = counted_more p loops n (done None t.to) in
    subst (λ (k : Decision). x ≤ counted p loops (suc n) k) (sym t.same) (omega (arith, i, v, f a.0 a.1))

pub stop_counted : (p : Procedure) (loops : List LoopInfo) (g : TestGraph) (n id : ℕ) (h : Halt) (d : Decision) → IsLowered p g → slice_get g.nodes id ≡ Some (Stop h)
    → Unfolds g.nodes g.entries id d → counted p loops (suc n) d ≡ 1
stop_counted p loops g n id h d l e u =
    subst (λ (k : Decision). counted p loops (suc n) k ≡ 1) (sym (at_stop p g id h d l e u)) (omega arith)

-- whether the line of a node is a head, and its count then
pub head_told : (p : Procedure) (loops : List LoopInfo) (g : TestGraph) (id q first : ℕ) (d : Decision) (heads : List (Option ℕ)) (o : Option ℕ) → IsLowered p g
    → slice_get g.nodes id ≡ Some (AtLine q first) → Unfolds g.nodes g.entries id d → AreHeadCounts p loops heads
    → ((k : Option ℕ) → slice_get heads q ≡ Some k → o ≡ k) → IsHeadCount p loops q o
head_told p loops g id q first d heads o l e u h f =
    let entry = subst (λ (x : Decision). Unfolds g.nodes g.entries id x) (at_line p g id q first d l e u) u in
    let inside : q < length p.lines = subst (λ (n : ℕ). q < n) l.lines (slice_get_within g.entries q id entry) in
    let a = there heads q (omega (arith, inside, h.lines)) in
    subst (λ (k : Option ℕ). IsHeadCount p loops q k) (sym (f a.0 a.1)) (h.each q a.0 a.1)

pub head_counted : (p : Procedure) (loops : List LoopInfo) (g : TestGraph) (n id q first : ℕ) (d : Decision) (c : ℕ) → IsLowered p g
    → slice_get g.nodes id ≡ Some (AtLine q first) → Unfolds g.nodes g.entries id d → IsHeadCount p loops q (Some c) → c ≡ counted p loops (suc n) d
head_counted p loops g n id q first d c l e u h =
    h.1 ∙ sym (counted_head p loops n q h.0) ∙ ap (counted p loops (suc n)) (sym (at_line p g id q first d l e u))

-- the count of a line that is no head is that of its first node
pub line_counted : (p : Procedure) (loops : List LoopInfo) (g : TestGraph) (n id q first : ℕ) (d : Decision) → IsLowered p g
    → slice_get g.nodes id ≡ Some (AtLine q first) → Unfolds g.nodes g.entries id d → is_head loops q ≡ false → counted p loops (suc n) d ≡ counted p loops n (decision_at p q)
line_counted p loops g n id q first d l e u h =
    ap (counted p loops (suc n)) (at_line p g id q first d l e u) ∙ counted_line p loops n q h

pub line_least : (p : Procedure) (loops : List LoopInfo) (g : TestGraph) (n id q first : ℕ) (d : Decision) (counts : List ℕ) (x : ℕ) → IsLowered p g
    → slice_get g.nodes id ≡ Some (AtLine q first) → Unfolds g.nodes g.entries id d → length counts ≡ length g.nodes → CountAtLeast p loops g n id counts
    → is_head loops q ≡ false → Tells x counts first → counted p loops (suc n) d ≤ x
line_least p loops g n id q first d counts x l e u size least h f =
    let v = line_unfolds p g id q first d l e u in
    let a = there counts first (omega (arith, size, node_inside p g first (decision_at p q) l v)) in
    omega (arith, line_counted p loops g n id q first d l e u h, least.each first (decision_at p q) a.0 v a.1, f a.0 a.1)

pub line_most : (p : Procedure) (loops : List LoopInfo) (g : TestGraph) (n id q first : ℕ) (d : Decision) (counts : List ℕ) (x : ℕ) → IsLowered p g
    → slice_get g.nodes id ≡ Some (AtLine q first) → Unfolds g.nodes g.entries id d → length counts ≡ length g.nodes → CountAtMost p loops g n counts
    → is_head loops q ≡ false → Tells x counts first → x ≤ counted p loops (suc n) d
line_most p loops g n id q first d counts x l e u size most h f =
    let v = line_unfolds p g id q first d l e u in
    let a = there counts first (omega (arith, size, node_inside p g first (decision_at p q) l v)) in
    omega (arith, line_counted p loops g n id q first d l e u h, most.each first (decision_at p q) a.0 v a.1, f a.0 a.1)

-- a count that is put in place of another
pub set_cases : {X : Type 0} (xs : List X) (i : ℕ) (y : X) (k : ℕ) (x : X) → slice_get (slice_set xs i y) k ≡ Some x → ((k ≡ i) × (x ≡ y)) ⊎ ((k ≡ i → ⊥) × (slice_get xs k ≡ Some x))
set_cases [] i y k x e = absurd (cc)
set_cases (z ∷ xs) zero y zero x e = inl (refl, let h = e in cc)
set_cases (z ∷ xs) zero y (suc k) x e = inr ((λ f. omega (arith, f)), e)
set_cases (z ∷ xs) (suc i) y zero x e = inr ((λ f. omega (arith, f)), e)
set_cases (z ∷ xs) (suc i) y (suc k) x e = elim (set_cases xs i y k x e) [
  | inl h ↦ inl (omega (arith, h.0), h.1)
  | inr h ↦ inr ((λ f. h.0 (omega (arith, f))), h.1)
]

pub put_least : (p : Procedure) (loops : List LoopInfo) (g : TestGraph) (n id c : ℕ) (counts : List ℕ) → CountAtLeast p loops g n id counts
    → ((d : Decision) → Unfolds g.nodes g.entries id d → counted p loops (suc n) d ≤ c) → CountAtLeast p loops g n (id + 1) (slice_set counts id c)
put_least p loops g n id c counts l new = record { each = each; more = more }
  where
    own : (k x : ℕ) (d : Decision) → Unfolds g.nodes g.entries k d → (k ≡ id) × (x ≡ c) → counted p loops (suc n) d ≤ x
    own k x d u h = omega (arith, h.1, new d (subst (λ (j : ℕ). Unfolds g.nodes g.entries j d) h.0 u))

    each : (k : ℕ) (d : Decision) (x : ℕ) → Unfolds g.nodes g.entries k d → slice_get (slice_set counts id c) k ≡ Some x → counted p loops n d ≤ x
    each k d x u e = elim (set_cases counts id c k x e) [
      | inl h ↦ omega (arith, own k x d u h, counted_more p loops n d)
      | inr h ↦ l.each k d x u h.1
    ]

    more : (k : ℕ) (d : Decision) (x : ℕ) → k < id + 1 → Unfolds g.nodes g.entries k d → slice_get (slice_set counts id c) k ≡ Some x → counted p loops (suc n) d ≤ x
    more k d x low u e = elim (set_cases counts id c k x e) [
      | inl h ↦ own k x d u h
      | inr h ↦ l.more k d x (lower k low h.0) u h.1
    ]
      where
        lower : (k : ℕ) → k < id + 1 → (k ≡ id → ⊥) → k < id
        lower k low other = elim (cases_lt k id) [
          | inl h ↦ h
          | inr h ↦ absurd (other (omega (arith, h, low)))
        ]

pub put_most : (p : Procedure) (loops : List LoopInfo) (g : TestGraph) (n id c : ℕ) (counts : List ℕ) → CountAtMost p loops g n counts
    → ((d : Decision) → Unfolds g.nodes g.entries id d → c ≤ counted p loops (suc n) d) → CountAtMost p loops g (suc n) (slice_set counts id c)
put_most p loops g n id c counts m new = record { each = each }
  where
    own : (k x : ℕ) (d : Decision) → Unfolds g.nodes g.entries k d → (k ≡ id) × (x ≡ c) → x ≤ counted p loops (suc n) d
    own k x d u h = omega (arith, h.1, new d (subst (λ (j : ℕ). Unfolds g.nodes g.entries j d) h.0 u))

    each : (k : ℕ) (d : Decision) (x : ℕ) → Unfolds g.nodes g.entries k d → slice_get (slice_set counts id c) k ≡ Some x → x ≤ counted p loops (suc n) d
    each k d x u e = elim (set_cases counts id c k x e) [
      | inl h ↦ own k x d u h
      | inr h ↦ omega (arith, m.each k d x u h.1, counted_more p loops n d)
    ]

-- a whole round
pub round_least : (p : Procedure) (loops : List LoopInfo) (g : TestGraph) (n id : ℕ) (counts : List ℕ) → IsLowered p g → length g.nodes ≤ id → CountAtLeast p loops g n id counts
    → CountAtLeast p loops g (suc n) 0 counts
round_least p loops g n id counts lowered all l = record {
  each = λ k d x u e. l.more k d x (omega (arith, all, node_inside p g k d lowered u)) u e;
  more = λ k d x low u e. absurd (omega (arith, low));
}

-- before the first round each node counts one
pub ones_least : (p : Procedure) (loops : List LoopInfo) (g : TestGraph) (counts : List ℕ) → ((k x : ℕ) → slice_get counts k ≡ Some x → x ≡ 1) → CountAtLeast p loops g 0 0 counts
ones_least p loops g counts ones = record { each = λ k d x u e. omega (arith, ones k x e); more = λ k d x low u e. absurd (omega (arith, low)) }

pub ones_most : (p : Procedure) (loops : List LoopInfo) (g : TestGraph) (counts : List ℕ) → ((k x : ℕ) → slice_get counts k ≡ Some x → x ≡ 1) → CountAtMost p loops g 0 counts
ones_most p loops g counts ones = record { each = λ k d x u e. omega (arith, ones k x e) }

-- what holds of each element, by its number
pub all_at : {X : Type 0} (P : X → Type 0) (xs : List X) → All P xs → (k : ℕ) (x : X) → slice_get xs k ≡ Some x → P x
all_at P xs a k x e =
    subst P (get_or_from_slice_get xs k x x e) (a k x (slice_get_within xs k x e))

-- where a round changes nothing, no round does
pub climb : (p : Procedure) (loops : List LoopInfo) (g : TestGraph) (counts : List ℕ) (r : ℕ) → CountAtLeast p loops g r 0 counts
    → ((n : ℕ) → CountAtLeast p loops g n 0 counts → CountAtLeast p loops g (suc n) 0 counts) → (k : ℕ) → CountAtLeast p loops g k 0 counts
climb p loops g counts r l step zero =
    record { each = λ k d x u e. omega (arith, l.each k d x u e, counted_some p loops r d); more = λ k d x low u e. absurd (omega (arith, low)) }
climb p loops g counts r l step (suc k) = step k (climb p loops g counts r l step k)

pub same_counts : (p : Procedure) (loops : List LoopInfo) (g : TestGraph) (old counts : List ℕ) (r : ℕ) → counts ≡ old → CountAtLeast p loops g r 0 old
    → ((n : ℕ) → CountAtLeast p loops g n 0 old → CountAtLeast p loops g (suc n) 0 counts) → (k : ℕ) → CountAtLeast p loops g k 0 counts
same_counts p loops g old counts r e l step k =
    climb p loops g counts r (subst (CountAtLeast p loops g r 0) (sym e) l) (λ n x. step n (subst (CountAtLeast p loops g n 0) e x)) k

-- one count that is raised
pub raised_put : (p : Procedure) (g : TestGraph) (heads : List (Option ℕ)) (id c x y : ℕ) (counts : List ℕ) → slice_get counts id ≡ Some x → c ≡ max y x
    → ((loops : List LoopInfo) (n : ℕ) (d : Decision) → AreHeadCounts p loops heads → CountAtMost p loops g n counts → Unfolds g.nodes g.entries id d → y ≤ counted p loops (suc n) d)
    → IsRaised p g heads counts (slice_set counts id c)
raised_put p g heads id c x y counts there f new = record { size = length-set counts id c; least = least; most = most }
  where
    least : (loops : List LoopInfo) (n : ℕ) → CountAtLeast p loops g n 0 counts → CountAtLeast p loops g n 0 (slice_set counts id c)
    least loops n l = record { each = each; more = λ k d z low u e. absurd (omega (arith, low)) }
      where
        own : (k z : ℕ) (d : Decision) → Unfolds g.nodes g.entries k d → (k ≡ id) × (z ≡ c) → counted p loops n d ≤ z
        own k z d u h = omega (arith, h.1, f, l.each id d x (subst (λ (j : ℕ). Unfolds g.nodes g.entries j d) h.0 u) there)

        each : (k : ℕ) (d : Decision) (z : ℕ) → Unfolds g.nodes g.entries k d → slice_get (slice_set counts id c) k ≡ Some z → counted p loops n d ≤ z
        each k d z u e = elim (set_cases counts id c k z e) [
          | inl h ↦ own k z d u h
          | inr h ↦ l.each k d z u h.1
        ]

    most : (loops : List LoopInfo) (n : ℕ) → AreHeadCounts p loops heads → CountAtMost p loops g n counts → (m : ℕ) × CountAtMost p loops g m (slice_set counts id c)
    most loops n h m = (
      suc n,
      put_most p loops g n id c counts m
          (λ d u. omega (arith, f, new loops n d h m u, m.each id d x u there, counted_more p loops n d)),
    )

pub raised_self : (p : Procedure) (g : TestGraph) (heads : List (Option ℕ)) (counts : List ℕ) → IsRaised p g heads counts counts
raised_self p g heads counts = record { size = refl; least = λ loops n l. l; most = λ loops n h m. (n, m) }

pub raised_on : (p : Procedure) (g : TestGraph) (heads : List (Option ℕ)) (a b c : List ℕ) → IsRaised p g heads a b → IsRaised p g heads b c → IsRaised p g heads a c
raised_on p g heads a b c x y = record {
  size = y.size ∙ x.size;
  least = λ loops n l. y.least loops n (x.least loops n l);
  most = λ loops n h m. let k = x.most loops n h m in y.most loops k.0 h k.1;
}
