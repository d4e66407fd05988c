-- What the walk over the nodes of the lowered graph does at each kind of node.
use Rattle.std.proofs.Common.{◌≡◌, inl, inr, refl, sym, ap, ◌∙◌, subst, ℕ, zero, suc, ◌+◌, ◌-◌, ◌*◌, ◌<◌, Option, Some, None, List, [], ◌∷◌, map, length, slice_get, take, drop, arith}
use Rattle.std.specs.Prelude.{slice_set}
use Rattle.std.specs.Option.{option_map}
use Rattle.std.specs.Bool.{OnTrue}
use Rattle.std.proofs.lemmas.List.{map-set, set-set, set-get_or, take_all}
use Rattle.std.proofs.lemmas.Option.{slice_get_within, get_or_from_slice_get}
use Rattle.il_core.specs.Procedure.{Procedure}
use Rattle.il_core.specs.Checked.{IsChecked}
use Rattle.il_core.specs.declared.line.Next.{Next}
use Rattle.il_core.specs.declared.line.Next.TheVariants as next
use Rattle.il_core.specs.declared.line.Halt.{Halt}
use Rattle.sym_terms.specs.Tree.{Tree, tree_of}
use Rattle.sym_terms.specs.Measure.{measured}
use Rattle.sym_terms.specs.Substitution.{substituted, HasPlacesBelow}
use Rattle.sym_terms.specs.Comparison.{comparison_of, comparison_under, ComparesPlacesBelow}
use Rattle.sym_terms.specs.declared.term.Term.{Term}
use Rattle.sym_terms.specs.declared.term.Literal.{Literal}
use Rattle.sym_terms.specs.declared.measuring.TermMeasure.{TermMeasure}
use Rattle.test_graph.specs.Decision.{Decision, done, decision_at}
use Rattle.test_graph.specs.Way.{changed}
use Rattle.test_graph.specs.Places.{DecidesPlacesBelow}
use Rattle.test_graph.specs.Lowered.{Unfolds, IsLowered}
use Rattle.test_graph.specs.declared.graph.TestNode.TheVariants.{Test, Assign, AtLine, Stop}
use Rattle.test_graph.specs.declared.graph.TestGraph.{TestGraph}
use Rattle.test_graph.proofs.Speaking.{decides-below}
use Rattle.std.specs.Prelude.{Bool, true, false, ◌||◌, nat_eq, if◌then◌else◌}
use Rattle.std.proofs.lemmas.Bool.{eq-eqb}
use Rattle.il_core.specs.LineGraph.{IsIn}
use Rattle.control_flow.specs.declared.control.LoopInfo.{LoopInfo}
use Rattle.region_paths.specs.Region.{is_head, leading_of}
use Rattle.region_paths.specs.PathTree.{PathTree, change, grafted, below, tree_to, leading_tree}
use Rattle.region_paths.specs.Tally.{outcome, comparison_measured, with_size, with_path, tallied}
use Rattle.region_paths.specs.Walk.{StandsAt}
use Rattle.region_paths.specs.declared.tally.Tally.{Tally}
use Rattle.region_paths.proofs.Nodes.{at_test, at_assign, at_line, at_stop, first_unfolds}

-- a size that the paths which were added to a tally meet
abbrev pub met_by : TermMeasure → Tally → Option Tally → Option Tally
met_by m a o = option_map (λ (b : Tally). with_size m (b.paths - a.paths) b) o

same_option : (o : Option Tally) → o ≡ option_map (λ (b : Tally). b) o
same_option None = refl
same_option (Some b) = refl

-- what is told of a walk that ended within the paths, and of one that did not
pub on_true : (b : Bool) (X : Type 0) → b ≡ true → OnTrue b X → X
on_true true X e h = h
on_true false X e h = absurd (cc)

pub is_some : (b : Bool) (a : Tally) (o : Option Tally) → b ≡ true → outcome b a ≡ o → Some a ≡ o
is_some true a o e h = h
is_some false a o e h = absurd (cc)

pub is_none : (b : Bool) (a : Tally) (o : Option Tally) → b ≡ false → outcome b a ≡ o → None ≡ o
is_none true a o e h = absurd (cc)
is_none false a o e h = h

-- a test whose true side has too many paths
pub test_none : (p : Procedure) (g : TestGraph) (below : Next → PathTree) (id : ℕ) (literal : Literal) (met unmet : ℕ) (d : Decision) (terms : List Tree) (a : Tally) → IsLowered p g
    → slice_get g.nodes id ≡ Some (Test literal met unmet) → Unfolds g.nodes g.entries id d
    → ((x : Decision) → Unfolds g.nodes g.entries met x → None ≡ tallied (grafted below x) terms a) → None ≡ tallied (grafted below d) terms a
test_none p g below id literal met unmet d terms a l e u first =
    let t = at_test p g id literal met unmet d l e u in
    subst (λ (x : Decision). None ≡ tallied (grafted below x) terms a) (sym t.same) (rw (← first t.on t.met_unfolds) refl)

pub test_some : (p : Procedure) (g : TestGraph) (below : Next → PathTree) (id : ℕ) (literal : Literal) (met unmet : ℕ) (d : Decision) (terms : List Tree) (a b : Tally) (o : Option Tally) (m : TermMeasure)
    → IsLowered p g → slice_get g.nodes id ≡ Some (Test literal met unmet) → Unfolds g.nodes g.entries id d
    → ((x : Decision) → Unfolds g.nodes g.entries met x → Some b ≡ tallied (grafted below x) terms a)
    → ((x : Decision) → Unfolds g.nodes g.entries unmet x → o ≡ tallied (grafted below x) terms b)
    → m ≡ comparison_measured (comparison_under terms (comparison_of literal)) → met_by m a o ≡ tallied (grafted below d) terms a
test_some p g below id literal met unmet d terms a b o m l e u first second f =
    let t = at_test p g id literal met unmet d l e u in
    subst (λ (x : Decision). met_by m a o ≡ tallied (grafted below x) terms a) (sym t.same)
    (rw (← first t.on t.met_unfolds, ← second t.off t.unmet_unfolds, f) refl)

-- the measures of changed terms
pub measured_changed : (place : ℕ) (term : Tree) (terms : List Tree) (env : List TermMeasure) (m : TermMeasure) → map measured terms ≡ env → m ≡ measured (substituted terms term)
    → map measured (changed (Some (record { place = place; term = term })) terms) ≡ slice_set env place m
measured_changed place term terms env m e f =
    map-set measured terms place (substituted terms term) ∙ ap (λ (k : List TermMeasure). slice_set k place (measured (substituted terms term))) e ∙ ap (slice_set env place) (sym f)

pub assign_exact : (p : Procedure) (g : TestGraph) (below : Next → PathTree) (id place : ℕ) (term : Term) (behind : ℕ) (d : Decision) (terms : List Tree) (a : Tally) (o : Option Tally) (m : TermMeasure)
    → IsLowered p g → slice_get g.nodes id ≡ Some (Assign place term behind) → Unfolds g.nodes g.entries id d
    → ((x : Decision) → Unfolds g.nodes g.entries behind x → o ≡ tallied (grafted below x) (changed (Some (record { place = place; term = tree_of term })) terms) a)
    → m ≡ measured (substituted terms (tree_of term)) → met_by m a o ≡ tallied (grafted below d) terms a
assign_exact p g below id place term behind d terms a o m l e u rest f =
    let t = at_assign p g id place term behind d l e u in
    let k : o ≡ tallied (below t.to) (changed (Some (record { place = place; term = tree_of term })) terms) a = rest (done None t.to) t.unfolds ∙ sym (same_option _) in
    subst (λ (x : Decision). met_by m a o ≡ tallied (grafted below x) terms a) (sym t.same) (rw (k, f) refl)

pub line_exact : (p : Procedure) (g : TestGraph) (below : Next → PathTree) (id q first : ℕ) (d : Decision) (terms : List Tree) (a : Tally) (o : Option Tally) → IsLowered p g
    → slice_get g.nodes id ≡ Some (AtLine q first) → Unfolds g.nodes g.entries id d → o ≡ tallied (below (next.At q)) terms a → o ≡ tallied (grafted below d) terms a
line_exact p g below id q first d terms a o l e u h =
    subst (λ (x : Decision). o ≡ tallied (grafted below x) terms a) (sym (at_line p g id q first d l e u)) (h ∙ same_option _)

pub stop_exact : (p : Procedure) (g : TestGraph) (below : Next → PathTree) (id : ℕ) (k : Halt) (d : Decision) (terms : List Tree) (a : Tally) (o : Option Tally) → IsLowered p g
    → slice_get g.nodes id ≡ Some (Stop k) → Unfolds g.nodes g.entries id d → o ≡ tallied (below (next.Halted k)) terms a → o ≡ tallied (grafted below d) terms a
stop_exact p g below id k d terms a o l e u h =
    subst (λ (x : Decision). o ≡ tallied (grafted below x) terms a) (sym (at_stop p g id k d l e u)) (h ∙ same_option _)

-- what stands at the nodes that a test and an assignment name
pub stands_met : (p : Procedure) (g : TestGraph) (id : ℕ) (literal : Literal) (met unmet : ℕ) → IsLowered p g → slice_get g.nodes id ≡ Some (Test literal met unmet) → StandsAt p g id
    → StandsAt p g met
stands_met p g id literal met unmet l e s =
    let t = at_test p g id literal met unmet s.decision l e s.unfolds in
    let k = subst (DecidesPlacesBelow (length p.places)) t.same s.places in
    record { decision = t.on; unfolds = t.met_unfolds; places = k.1 }

pub stands_unmet : (p : Procedure) (g : TestGraph) (id : ℕ) (literal : Literal) (met unmet : ℕ) → IsLowered p g → slice_get g.nodes id ≡ Some (Test literal met unmet) → StandsAt p g id
    → StandsAt p g unmet
stands_unmet p g id literal met unmet l e s =
    let t = at_test p g id literal met unmet s.decision l e s.unfolds in
    let k = subst (DecidesPlacesBelow (length p.places)) t.same s.places in
    record { decision = t.off; unfolds = t.unmet_unfolds; places = k.2 }

pub compared_places : (p : Procedure) (g : TestGraph) (id : ℕ) (literal : Literal) (met unmet : ℕ) → IsLowered p g → slice_get g.nodes id ≡ Some (Test literal met unmet) → StandsAt p g id
    → ComparesPlacesBelow (length p.places) (comparison_of literal)
compared_places p g id literal met unmet l e s =
    let t = at_test p g id literal met unmet s.decision l e s.unfolds in
    let k = subst (DecidesPlacesBelow (length p.places)) t.same s.places in
    k.0

pub stands_then : (p : Procedure) (g : TestGraph) (id place : ℕ) (term : Term) (behind : ℕ) → IsLowered p g → slice_get g.nodes id ≡ Some (Assign place term behind) → StandsAt p g id
    → StandsAt p g behind
stands_then p g id place term behind l e s =
    let t = at_assign p g id place term behind s.decision l e s.unfolds in
    record { decision = done None t.to; unfolds = t.unfolds; places = tt }

pub assigned_places : (p : Procedure) (g : TestGraph) (id place : ℕ) (term : Term) (behind : ℕ) → IsLowered p g → slice_get g.nodes id ≡ Some (Assign place term behind) → StandsAt p g id
    → (place < length p.places) × HasPlacesBelow (length p.places) (tree_of term)
assigned_places p g id place term behind l e s =
    let t = at_assign p g id place term behind s.decision l e s.unfolds in
    subst (DecidesPlacesBelow (length p.places)) t.same s.places

pub stands_line : (p : Procedure) (g : TestGraph) (line first : ℕ) → IsChecked p → Unfolds g.nodes g.entries first (decision_at p line) → StandsAt p g first
stands_line p g line first c u = record { decision = decision_at p line; unfolds = u; places = decides-below p line c }

-- the line of a node is one of the procedure's, and its first node stands for its decisions
pub stands_first : (p : Procedure) (g : TestGraph) (id q first : ℕ) → IsChecked p → IsLowered p g → slice_get g.nodes id ≡ Some (AtLine q first) → StandsAt p g id → StandsAt p g first
stands_first p g id q first c l e s =
    let d = at_line p g id q first s.decision l e s.unfolds in
    let there = subst (λ (x : Decision). Unfolds g.nodes g.entries id x) d s.unfolds in
    let inside : q < length p.lines = subst (λ (n : ℕ). q < n) l.lines (slice_get_within g.entries q id there) in
    stands_line p g q first c (first_unfolds p g q id q first l inside there e)

-- the same, for a node of which the decisions are known
pub line_unfolds : (p : Procedure) (g : TestGraph) (id q first : ℕ) (d : Decision) → IsLowered p g → slice_get g.nodes id ≡ Some (AtLine q first) → Unfolds g.nodes g.entries id d
    → Unfolds g.nodes g.entries first (decision_at p q)
line_unfolds p g id q first d l e u =
    let there = subst (λ (x : Decision). Unfolds g.nodes g.entries id x) (at_line p g id q first d l e u) u in
    let inside : q < length p.lines = subst (λ (n : ℕ). q < n) l.lines (slice_get_within g.entries q id there) in
    first_unfolds p g q id q first l inside there e

-- one line less to go is less to do
pub line_less : (n m a b : ℕ) → a < m → n * m + a < suc n * m + b
line_less n m a b h = let e : suc n * m ≡ m + n * m = grind arith in omega (arith, e, h)

-- a list behind its first element
pub cons_of : (xs : List ℕ) (x : ℕ) → Some x ≡ slice_get xs 0 → xs ≡ x ∷ take (length xs - 1) (drop 1 xs)
cons_of [] x e = absurd (cc)
cons_of (y ∷ ys) x e =
    let n : length (y ∷ ys) - 1 ≡ length ys = omega arith in
    let same : y ≡ x = cc in
    rw n (ap (λ (k : ℕ). k ∷ ys) same ∙ ap (λ (k : List ℕ). x ∷ k) (sym (take_all (length ys) ys (omega arith))))

pub nil_of : (xs : List ℕ) → None ≡ slice_get xs 0 → xs ≡ []
nil_of [] e = refl
nil_of (y ∷ ys) e = absurd (cc)

-- a value that is put back
pub put_back : (env : List TermMeasure) (place : ℕ) (size was : TermMeasure) → slice_get env place ≡ Some was → slice_set (slice_set env place size) place was ≡ env
put_back env place size was e =
    set-set env place size was ∙ ap (slice_set env place) (sym (get_or_from_slice_get env place was was e)) ∙ set-get_or env place was

pub line_less_at : (count n m a b : ℕ) → count ≡ suc n → a < m → n * m + a < count * m + b
line_less_at count n m a b e h = subst (λ (k : ℕ). n * m + a < k * m + b) (sym e) (line_less n m a b h)

-- the same decisions over two trees that are the same at the line to which they lead
pub same_below : (x y : Next → PathTree) (d : Decision) (q : ℕ) → d ≡ done None (next.At q) → x (next.At q) ≡ y (next.At q) → grafted x d ≡ grafted y d
same_below x y d q e h = subst (λ (k : Decision). grafted x k ≡ grafted y k) (sym e) (ap (change None) h)

-- what stands below a way to a head, and to another line
abbrev pub beyond : Procedure → List LoopInfo → ℕ → Next → PathTree
beyond p loops n = below loops (λ q. leading_tree p q (leading_of loops q)) (λ q. tree_to p loops (λ h. leading_tree p h (leading_of loops h)) n q)

either : (b : Bool) (s t : PathTree) → b ≡ true → (if b then s else t) ≡ s
either true s t e = refl
either false s t e = absurd (cc)

either_not : (b : Bool) (s t : PathTree) → b ≡ false → (if b then s else t) ≡ t
either_not true s t e = absurd (cc)
either_not false s t e = refl

pub at_head : (p : Procedure) (loops : List LoopInfo) (n q : ℕ) → is_head loops q ≡ true → beyond p loops n (next.At q) ≡ leading_tree p q (leading_of loops q)
at_head p loops n q e = either (is_head loops q) _ _ e

pub at_other : (p : Procedure) (loops : List LoopInfo) (n q : ℕ) → is_head loops q ≡ false
    → beyond p loops n (next.At q) ≡ tree_to p loops (λ h. leading_tree p h (leading_of loops h)) n q
at_other p loops n q e = either_not (is_head loops q) _ _ e

-- no room is left
pub no_room : (p : Procedure) (loops : List LoopInfo) (n q : ℕ) (terms : List Tree) (a : Tally) → is_head loops q ≡ false → n ≡ 0 → with_path a ≡ tallied (beyond p loops n (next.At q)) terms a
no_room p loops n q terms a e f =
    sym (ap (λ (t : PathTree). tallied t terms a) (at_other p loops n q e ∙ ap (λ (k : ℕ). tree_to p loops (λ h. leading_tree p h (leading_of loops h)) k q) f))

-- the tree of the next line
pub more_room : (p : Procedure) (loops : List LoopInfo) (n m q : ℕ) (terms : List Tree) (a : Tally) → is_head loops q ≡ false → n ≡ suc m
    → tallied (grafted (beyond p loops m) (decision_at p q)) terms a ≡ tallied (beyond p loops n (next.At q)) terms a
more_room p loops n m q terms a e f =
    sym (ap (λ (t : PathTree). tallied t terms a) (at_other p loops n q e ∙ ap (λ (k : ℕ). tree_to p loops (λ h. leading_tree p h (leading_of loops h)) k q) f))

pub in_at : {X : Type 0} (xs : List X) (k : ℕ) (x : X) → slice_get xs k ≡ Some x → IsIn xs x
in_at [] k x e = absurd (cc)
in_at (y ∷ ys) zero x e = inl (let h = e in cc)
in_at (y ∷ ys) (suc k) x e = inr (in_at ys k x e)

drop_at : (xs : List LoopInfo) (k : ℕ) (x : LoopInfo) → slice_get xs k ≡ Some x → (rest : List LoopInfo) × (drop k xs ≡ x ∷ rest)
drop_at [] k x e = absurd (cc)
drop_at (y ∷ ys) zero x e = let h : y ≡ x = cc in (ys, ap (λ (z : LoopInfo). z ∷ ys) h)
drop_at (y ∷ ys) (suc k) x e = drop_at ys k x e

pub head_first : (x : LoopInfo) (rest : List LoopInfo) (line : ℕ) → x.head ≡ line → (is_head (x ∷ rest) line ≡ true) × (leading_of (x ∷ rest) line ≡ x.leading)
head_first x rest line e = by_test (nat_eq x.head line) (eq-eqb x.head line e)
  where
    by_test : (b : Bool) → b ≡ true → ((b || is_head rest line) ≡ true) × ((if b then x.leading else leading_of rest line) ≡ x.leading)
    by_test true h = (refl, refl)
    by_test false h = absurd (cc)

-- the loop of a head, where those before it are others'
pub head_here : (loops : List LoopInfo) (k line : ℕ) (x : LoopInfo) → slice_get loops k ≡ Some x → x.head ≡ line → is_head loops line ≡ is_head (drop k loops) line
    → leading_of loops line ≡ leading_of (drop k loops) line
    → (l : LoopInfo) × (slice_get loops k ≡ Some l) × (is_head loops line ≡ true) × (leading_of loops line ≡ l.leading) × (l.head ≡ line)
head_here loops k line x e h m n =
    let t = drop_at loops k x e in
    let f = head_first x t.0 line h in
    (x, e, m ∙ ap (λ (z : List LoopInfo). is_head z line) t.1 ∙ f.0, n ∙ ap (λ (z : List LoopInfo). leading_of z line) t.1 ∙ f.1, h)
