-- The ways through the rest of a line, node by node, and the paths through leading assertions.
use Rattle.std.proofs.Common.{◌≡◌, inl, inr, refl, ◌⊎◌, sym, ap, ◌∙◌, subst, ℕ, zero, suc, ◌+◌, ◌*◌, ◌<◌, ◌≤◌, None, Some, List, [], ◌∷◌, ◌++◌, length, slice_get, drop, get_or, ◌-◌, arith}
use Rattle.std.proofs.lemmas.Bool.{cases_lt}
use Rattle.std.proofs.lemmas.Option.{slice_get_within}
use Rattle.il_core.specs.Procedure.{Procedure}
use Rattle.il_core.specs.declared.line.Next.{Next}
use Rattle.il_core.specs.declared.line.Next.TheVariants as next
use Rattle.il_core.specs.declared.line.Halt.{Halt}
use Rattle.sym_terms.specs.Tree.{tree_of}
use Rattle.sym_terms.specs.declared.term.Term.{Term}
use Rattle.sym_terms.specs.declared.term.Literal.{Literal}
use Rattle.test_graph.specs.Decision.{Change, Decision, ask, done, decision_at}
use Rattle.test_graph.specs.Lowered.{Unfolds, IsLowered}
use Rattle.test_graph.specs.declared.graph.TestNode.TheVariants.{Test, Assign, AtLine, Stop}
use Rattle.test_graph.specs.declared.graph.TestGraph.{TestGraph}
use Rattle.region_paths.specs.PathTree.{PathTree, fork, change, stops, grafted, passed, leading_tree}
use Rattle.region_paths.specs.Count.{leaves, capped, halting, passing, AreWaysOf, AreNodeWays}
use Rattle.region_paths.specs.declared.counting.LineWays.{LineWays}
use Rattle.region_paths.proofs.Nodes.{at_test, at_assign, at_line, at_stop, node_there}

-- a tree has a path
pub leaves_some : (t : PathTree) → 1 ≤ leaves t
leaves_some (fork c a b) = omega (arith, leaves_some a, leaves_some b)
leaves_some (change c rest) = leaves_some rest
leaves_some (stops end) = omega arith

pub test_ways : (p : Procedure) (g : TestGraph) (id : ℕ) (literal : Literal) (met unmet : ℕ) (d : Decision) (a b w : LineWays) → IsLowered p g
    → slice_get g.nodes id ≡ Some (Test literal met unmet) → Unfolds g.nodes g.entries id d
    → ((x : Decision) → Unfolds g.nodes g.entries met x → AreWaysOf x a) → ((x : Decision) → Unfolds g.nodes g.entries unmet x → AreWaysOf x b)
    → ((x y : Decision) → AreWaysOf x a → AreWaysOf y b → (w.halting ≡ capped (halting x + halting y)) × (w.passing ≡ capped (passing x + passing y))) → AreWaysOf d w
test_ways p g id literal met unmet d a b w l e u first second both =
    let t = at_test p g id literal met unmet d l e u in
    let k = both t.on t.off (first t.on t.met_unfolds) (second t.off t.unmet_unfolds) in
    subst (λ (x : Decision). AreWaysOf x w) (sym t.same) (record { halting = k.0; passing = k.1 })

-- an assignment is no decision
same_ways : (o : Change) (to : Next) (w : LineWays) → AreWaysOf (done None to) w → AreWaysOf (done (Some o) to) w
same_ways o (next.Halted h) w a = record { halting = a.halting; passing = a.passing }
same_ways o (next.At q) w a = record { halting = a.halting; passing = a.passing }

pub assign_ways : (p : Procedure) (g : TestGraph) (id place : ℕ) (term : Term) (then : ℕ) (d : Decision) (w : LineWays) → IsLowered p g
    → slice_get g.nodes id ≡ Some (Assign place term then) → Unfolds g.nodes g.entries id d
    → ((x : Decision) → Unfolds g.nodes g.entries then x → AreWaysOf x w) → AreWaysOf d w
assign_ways p g id place term then d w l e u rest =
    let t = at_assign p g id place term then d l e u in
    subst (λ (x : Decision). AreWaysOf x w) (sym t.same) (same_ways (record { place = place; term = tree_of term }) t.to w (rest (done None t.to) t.unfolds))

pub line_ways_of : (p : Procedure) (g : TestGraph) (id q first : ℕ) (d : Decision) → IsLowered p g → slice_get g.nodes id ≡ Some (AtLine q first)
    → Unfolds g.nodes g.entries id d → AreWaysOf d (record { halting = 0; passing = 1 })
line_ways_of p g id q first d l e u =
    subst (λ (x : Decision). AreWaysOf x (record { halting = 0; passing = 1 })) (sym (at_line p g id q first d l e u)) (record { halting = omega arith; passing = omega arith })

pub stop_ways : (p : Procedure) (g : TestGraph) (id : ℕ) (h : Halt) (d : Decision) → IsLowered p g → slice_get g.nodes id ≡ Some (Stop h)
    → Unfolds g.nodes g.entries id d → AreWaysOf d (record { halting = 1; passing = 0 })
stop_ways p g id h d l e u =
    subst (λ (x : Decision). AreWaysOf x (record { halting = 1; passing = 0 })) (sym (at_stop p g id h d l e u)) (record { halting = omega arith; passing = omega arith })

-- a node from which decisions stand is one of the nodes
pub node_inside : (p : Procedure) (g : TestGraph) (id : ℕ) (d : Decision) → IsLowered p g → Unfolds g.nodes g.entries id d → id < length g.nodes
node_inside p g id d l u = let t = node_there p g id d l u in slice_get_within g.nodes id t.0 t.1

step_times : (n k : ℕ) → suc n * k ≡ k + n * k
step_times n k = grind arith

sum_times : (a b k : ℕ) → (a + b) * k ≡ a * k + b * k
sum_times a b k = grind arith

-- the paths of a line's decisions with a tree below each way that goes on
pub leaves-passed : (t : PathTree) (d : Decision) → leaves (grafted (passed t) d) ≡ halting d + passing d * leaves t
leaves-passed t (ask c a b) = omega (arith, leaves-passed t a, leaves-passed t b, sum_times (passing a) (passing b) (leaves t))
leaves-passed t (done o (next.Halted h)) = omega arith
leaves-passed t (done o (next.At q)) = omega arith

at_least : (n k : ℕ) → 1 ≤ k → n ≤ n * k
at_least zero k h = omega arith
at_least (suc n) k h = omega (arith, h, at_least n k h, step_times n k)

less_times : (n a b : ℕ) → a ≤ b → n * a ≤ n * b
less_times zero a b h = omega arith
less_times (suc n) a b h = omega (arith, h, less_times n a b h, step_times n a, step_times n b)

min_few : (n : ℕ) → n ≤ 16385 → capped n ≡ n
min_few n h = omega (arith, h)

min_many : (n : ℕ) → 16385 ≤ n → capped n ≡ 16385
min_many n h = omega (arith, h)

-- a sum and a product of capped numbers tell the capped sum and product
pub capped_product : (a b k : ℕ) → 1 ≤ k → capped (capped a + capped b * capped k) ≡ capped (a + b * k)
capped_product a b k some = by_size b (cases_lt 16385 b) (cases_lt 16385 k)
  where
    by_size : (b : ℕ) → (16385 < b) ⊎ (b ≤ 16385) → (16385 < k) ⊎ (k ≤ 16385) → capped (capped a + capped b * capped k) ≡ capped (a + b * k)
    by_size b (inl many) either =
        let e : capped b ≡ 16385 = min_many b (omega (arith, many)) in
        let x : 16385 ≤ 16385 * capped k = at_least 16385 (capped k) (omega (arith, some)) in
        rw e (omega (arith, x, at_least b k some, many))
    by_size b (inr few) (inr low) = rw (min_few b few, min_few k low) (omega arith)
    by_size zero (inr few) (inl high) = omega arith
    by_size (suc n) (inr few) (inl high) =
        let e : capped k ≡ 16385 = min_many k (omega (arith, high)) in
        rw (min_few (suc n) few, e) (omega (arith, step_times n 16385, step_times n k, high))

-- the paths of leading assertions from one on
pub lead_on : (p : Procedure) (head a : ℕ) (rest : List ℕ) (w : LineWays) (n m : ℕ) → AreWaysOf (decision_at p a) w → n ≡ capped (leaves (leading_tree p head rest))
    → m ≡ capped (w.halting + w.passing * n) → m ≡ capped (leaves (leading_tree p head (a ∷ rest)))
lead_on p head a rest w n m ways e f =
    f ∙ ap (λ (x : ℕ). capped (x + w.passing * n)) ways.halting ∙ ap (λ (x : ℕ). capped (capped (halting (decision_at p a)) + x * n)) ways.passing
    ∙ ap (λ (x : ℕ). capped (capped (halting (decision_at p a)) + capped (passing (decision_at p a)) * x)) e
    ∙ capped_product (halting (decision_at p a)) (passing (decision_at p a)) (leaves (leading_tree p head rest)) (leaves_some (leading_tree p head rest))
    ∙ ap capped (sym (leaves-passed (leading_tree p head rest) (decision_at p a)))

-- a number below the length of a list is that of an element
pub no_node : {X : Type 0} (xs : List X) (k : ℕ) → k < length xs → None ≡ slice_get xs k → ⊥
no_node [] k h e = omega (arith, h)
no_node (x ∷ xs) zero h e = cc
no_node (x ∷ xs) (suc k) h e = no_node xs k (omega (arith, h)) e

pub there : {X : Type 0} (xs : List X) (k : ℕ) → k < length xs → (x : X) × (slice_get xs k ≡ Some x)
there [] k h = absurd (omega (arith, h))
there (x ∷ xs) zero h = (x, refl)
there (x ∷ xs) (suc k) h = there xs k (omega (arith, h))

-- an element of a list to which one was added
pub slice_get_last : {X : Type 0} (xs : List X) (y : X) (k : ℕ) (x : X) → slice_get (xs ++ y ∷ []) k ≡ Some x → (slice_get xs k ≡ Some x) ⊎ ((k ≡ length xs) × (x ≡ y))
slice_get_last [] y zero x e = inr (refl, let h = e in cc)
slice_get_last [] y (suc k) x e = absurd (cc)
slice_get_last (z ∷ xs) y zero x e = inl e
slice_get_last (z ∷ xs) y (suc k) x e = elim (slice_get_last xs y k x e) [
  | inl h ↦ inl h
  | inr h ↦ inr (omega (arith, h.0), h.1)
]

-- the ways from one node more
pub ways_more : (g : TestGraph) (ways : List LineWays) (w : LineWays) → AreNodeWays g ways
    → ((d : Decision) → Unfolds g.nodes g.entries (length ways) d → AreWaysOf d w) → AreNodeWays g (ways ++ w ∷ [])
ways_more g ways w a new = record { each = λ id d x u e. by_case id d x u e (slice_get_last ways w id x e) }
  where
    by_case : (id : ℕ) (d : Decision) (x : LineWays) → Unfolds g.nodes g.entries id d → slice_get (ways ++ w ∷ []) id ≡ Some x
        → (slice_get ways id ≡ Some x) ⊎ ((id ≡ length ways) × (x ≡ w)) → AreWaysOf d x
    by_case id d x u e (inl h) = a.each id d x u h
    by_case id d x u e (inr h) =
        subst (λ (y : LineWays). AreWaysOf d y) (sym h.1) (new d (subst (λ (k : ℕ). Unfolds g.nodes g.entries k d) h.0 u))

drop_next : (xs : List ℕ) (k : ℕ) → k < length xs → drop k xs ≡ get_or xs k 0 ∷ drop (suc k) xs
drop_next [] k h = absurd (omega (arith, h))
drop_next (x ∷ xs) zero h = refl
drop_next (x ∷ xs) (suc k) h = drop_next xs k (omega (arith, h))

-- a list from one element on
pub drop_on : (xs : List ℕ) (k : ℕ) → 0 < k → k ≤ length xs → drop (k - 1) xs ≡ get_or xs (k - 1) 0 ∷ drop k xs
drop_on xs k some low =
    let e : suc (k - 1) ≡ k = omega (arith, some) in
    drop_next xs (k - 1) (omega (arith, some, low)) ∙ ap (λ (n : ℕ). get_or xs (k - 1) 0 ∷ drop n xs) e

-- no assertions are left
pub lead_none : (p : Procedure) (head : ℕ) (lines : List ℕ) (k : ℕ) → length lines ≤ k → 1 ≡ capped (leaves (leading_tree p head (drop k lines)))
lead_none p head [] zero h = omega arith
lead_none p head [] (suc k) h = omega arith
lead_none p head (a ∷ lines) zero h = absurd (omega (arith, h))
lead_none p head (a ∷ lines) (suc k) h = lead_none p head lines k (omega (arith, h))
