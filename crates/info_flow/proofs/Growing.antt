-- What the rules ask of a line, and that giving it what they ask stays below all closed sets.
use Rattle.std.proofs.Common.{◌≡◌, ◌≢◌, ◌⊎◌, inl, inr, refl, sym, ap, subst, ◌∙◌, ℕ, ◌+◌, ◌-◌, ◌^◌, ◌<◌, ◌≤◌, Bool, true, false, cond, Some, List, length, get_or, set, slice_get, arith, bit_or, get_or-set_same, get_or-set_other}
use Rattle.std.specs.Prelude.{◌↔◌, not, IfSome}
use Rattle.std.proofs.lemmas.Bool.Decides.{eqb_tells}
use Rattle.std.proofs.lemmas.List.{length-set}
use Rattle.std.proofs.lemmas.List.Sums.{sum_by-set}
use Rattle.std.proofs.lemmas.Nat.{le_or_l}
use Rattle.std.proofs.lemmas.Option.{same_Some}
use Rattle.il_core.specs.LineGraph.{IsIn}
use Rattle.flow_graph.specs.declared.graph.Node.{Node}
use Rattle.flow_graph.specs.declared.graph.FlowGraph.{FlowGraph}
use Rattle.flow_graph.specs.Graph.{heads_from, arc_to, IsWellFormed}
use Rattle.flow_graph.specs.Search.{IsMarked, AreBelow}
use Rattle.flow_graph.proofs.LineArcs.{heads_from-Joins, Joins-from_heads}
use Rattle.flow_graph.proofs.PlaceBits.{bits_of_both, bits_from_left, bits_from_right}
use Rattle.info_flow.specs.Relevance.{Assigns, ReadsPlace, IsClosed}
use Rattle.info_flow.specs.Growth.{HasPlace, Needs, IsNeededBehind, IsWanted, IsSettled, IsGrown, room, room_of}

-- the lines behind a line are nodes
pub row_below : (g : FlowGraph) (k n : ℕ) (row : List ℕ) → IsWellFormed g → row ≡ heads_from g.arcs k → n ≡ length g.nodes → AreBelow n row
row_below g k n row w e s h i = let l = (w.arcs (arc_to k h) (Joins-from_heads g.arcs k h (rw e at i))).head_inside in omega arith

-- what a node assigns has a bit
pub writes_low : (g : FlowGraph) (k : ℕ) (n : Node) → IsWellFormed g → slice_get g.nodes k ≡ Some n → IfSome n.writes (λ p. p < 64)
writes_low g k n w e = (w.nodes k n e).writes_low

-- what a line assigns and reads is what its node does
assigns_node : (g : FlowGraph) (k p : ℕ) (n : Node) → slice_get g.nodes k ≡ Some n → Assigns g.nodes k p → n.writes ≡ Some p
assigns_node g k p n e a = let same : n ≡ a.0 = same_Some n a.0 (sym e ∙ a.1) in ap (λ (x : Node). x.writes) same ∙ a.2

reads_node : (g : FlowGraph) (k p : ℕ) (n : Node) → slice_get g.nodes k ≡ Some n → ReadsPlace g.nodes k p → HasPlace n.reads p
reads_node g k p n e a = let same : a.0 ≡ n = same_Some a.0 n (sym a.1 ∙ e) in subst (λ (x : Node). HasPlace x.reads p) same a.2

-- what is needed behind a line
behind_is : (g : FlowGraph) (masks : List ℕ) (k : ℕ) (row : List ℕ) (behind : ℕ) → row ≡ heads_from g.arcs k
    → ((p : ℕ) → HasPlace behind p ↔ ((h : ℕ) × IsIn row h × Needs masks h p)) → (p : ℕ) → HasPlace behind p ↔ IsNeededBehind g masks k p
behind_is g masks k row behind e b p = (
  λ h. let t = (b p).0 h in (t.0, Joins-from_heads g.arcs k t.0 (rw e at t.1), t.2),
  λ t. (b p).1 (t.0, rw e (heads_from-Joins g.arcs k t.0 t.1), t.2),
)

pub wanted_of : (g : FlowGraph) (lines : List Bool) (masks : List ℕ) (k : ℕ) (n : Node) (row : List ℕ) (behind kept read : ℕ) (relevant : Bool)
    → slice_get g.nodes k ≡ Some n → row ≡ heads_from g.arcs k → ((p : ℕ) → HasPlace behind p ↔ ((h : ℕ) × IsIn row h × Needs masks h p))
    → ((relevant ≡ true) ↔ (IsMarked lines k ⊎ ((p : ℕ) × (n.writes ≡ Some p) × HasPlace behind p)))
    → ((p : ℕ) → HasPlace kept p ↔ (HasPlace behind p × (n.writes ≡ Some p → ⊥)))
    → ((p : ℕ) → HasPlace read p ↔ ((relevant ≡ true) × HasPlace n.reads p))
    → IsWanted g lines masks k relevant (bit_or (bit_or (get_or masks k 0) kept) read)
wanted_of g lines masks k n row behind kept read relevant e s b r u d = record {
  line = (
    λ t. elim (r.0 t) [ inl m ↦ inl m | inr x ↦ inr (x.0, (n, e, x.1), (behind_is g masks k row behind s b x.0).0 x.2) ],
    λ t. r.1 (elim t [ inl m ↦ inl m | inr x ↦ inr (x.0, assigns_node g k x.0 n e x.1, (behind_is g masks k row behind s b x.0).1 x.2) ]),
  );
  place = λ p. (there p, back p);
  more = let a = le_or_l (get_or masks k 0) kept in let b = le_or_l (bit_or (get_or masks k 0) kept) read in omega (arith, a, b);
}
  where
    there : (p : ℕ) → HasPlace (bit_or (bit_or (get_or masks k 0) kept) read) p
        → Needs masks k p ⊎ (IsNeededBehind g masks k p × (Assigns g.nodes k p → ⊥)) ⊎ ((relevant ≡ true) × ReadsPlace g.nodes k p)
    there p h = elim (bits_of_both (bit_or (get_or masks k 0) kept) read p h) [
      | inl x ↦ elim (bits_of_both (get_or masks k 0) kept p x) [
        | inl y ↦ inl y
        | inr y ↦ let t = (u p).0 y in inr (inl ((behind_is g masks k row behind s b p).0 t.0, λ a. t.1 (assigns_node g k p n e a)))
      ]
      | inr x ↦ let t = (d p).0 x in inr (inr (t.0, (n, e, t.1)))
    ]

    back : (p : ℕ) → Needs masks k p ⊎ (IsNeededBehind g masks k p × (Assigns g.nodes k p → ⊥)) ⊎ ((relevant ≡ true) × ReadsPlace g.nodes k p)
        → HasPlace (bit_or (bit_or (get_or masks k 0) kept) read) p
    back p (inl x) = bits_from_left (bit_or (get_or masks k 0) kept) read p (bits_from_left (get_or masks k 0) kept p x)
    back p (inr (inl x)) = bits_from_left (bit_or (get_or masks k 0) kept) read p
        (bits_from_right (get_or masks k 0) kept p ((u p).1 ((behind_is g masks k row behind s b p).1 x.0, λ w. x.1 (n, e, w))))
    back p (inr (inr x)) = bits_from_right (bit_or (get_or masks k 0) kept) read p ((d p).1 (x.0, reads_node g k p n e x.1))

-- what is wanted stays below closed sets
low_line : (g : FlowGraph) (v : ℕ) (lines : List Bool) (masks : List ℕ) (k : ℕ) (r : Bool) (m : ℕ) → IsGrown g v lines masks → IsWanted g lines masks k r m
    → (relevant : ℕ → Bool) (needs : ℕ → ℕ → Bool) → IsClosed g v relevant needs → r ≡ true → relevant k ≡ true
low_line g v lines masks k r m w x relevant needs c t = elim (x.line.0 t) [
  | inl y ↦ w.low_lines relevant needs c k y
  | inr y ↦ c.assigned k y.2.0 y.0 y.1 y.2.1 (w.low_places relevant needs c y.2.0 y.0 y.2.2)
]

low_place : (g : FlowGraph) (v : ℕ) (lines : List Bool) (masks : List ℕ) (k : ℕ) (r : Bool) (m : ℕ) → IsGrown g v lines masks → IsWanted g lines masks k r m
    → (relevant : ℕ → Bool) (needs : ℕ → ℕ → Bool) → IsClosed g v relevant needs → (p : ℕ) → HasPlace m p → needs k p ≡ true
low_place g v lines masks k r m w x relevant needs c p t = elim ((x.place p).0 t) [
  | inl y ↦ w.low_places relevant needs c k p y
  | inr z ↦ elim z [
    | inl y ↦ c.kept k y.0.0 p y.0.1 (w.low_places relevant needs c y.0.0 p y.0.2) y.1
    | inr y ↦ c.read k p (low_line g v lines masks k r m w x relevant needs c y.0) y.1
  ]
]

-- what holds of an element that is set and of the others
pub at_set : {X : Type 0} (P : ℕ → X → Type 0) (xs : List X) (k : ℕ) (y d : X) → k < length xs → P k y → ((j : ℕ) → P j (get_or xs j d)) → (j : ℕ) → P j (get_or (set xs k y) j d)
at_set P xs k y d l h f j = elim (eqb_tells j k) [
  | inl same ↦ subst (λ z. P z (get_or (set xs k y) z d)) (sym same.1) (subst (P k) (sym (get_or-set_same xs k y d l)) h)
  | inr other ↦ subst (P j) (sym (get_or-set_other xs k j y d other.1)) (f j)
]

-- a line gets what is wanted
pub grown_on : (g : FlowGraph) (v : ℕ) (lines : List Bool) (masks : List ℕ) (k : ℕ) (r : Bool) (m : ℕ) → k < length g.nodes → IsGrown g v lines masks
    → IsWanted g lines masks k r m → IsGrown g v (set lines k r) (set masks k m)
grown_on g v lines masks k r m l w x = record {
  lines_size = length-set lines k r ∙ w.lines_size;
  masks_size = length-set masks k m ∙ w.masks_size;
  last = λ j e. (
    at_set (λ i b. i + 1 ≡ length g.nodes → b ≡ true) lines k r false l_lines (λ h. x.line.1 (inl (w.last k h).0)) (λ i h. (w.last i h).0) j e,
    at_set (λ i b. i + 1 ≡ length g.nodes → HasPlace b v) masks k m 0 l_masks (λ h. (x.place v).1 (inl (w.last k h).1)) (λ i h. (w.last i h).1) j e,
  );
  low_lines = λ relevant needs c. at_set (λ i b. b ≡ true → relevant i ≡ true) lines k r false l_lines (low_line g v lines masks k r m w x relevant needs c) (w.low_lines relevant needs c);
  low_places = λ relevant needs c. at_set (λ i b. (p : ℕ) → HasPlace b p → needs i p ≡ true) masks k m 0 l_masks (low_place g v lines masks k r m w x relevant needs c) (w.low_places relevant needs c);
}
  where
    l_lines : k < length lines
    l_lines = rw w.lines_size l

    l_masks : k < length masks
    l_masks = rw w.masks_size l

-- a line that has what is wanted is settled
pub settled_at : (g : FlowGraph) (lines : List Bool) (masks : List ℕ) (k : ℕ) (r : Bool) (m : ℕ) → IsWanted g lines masks k r m → r ≡ get_or lines k false
    → m ≡ get_or masks k 0 → IsSettled g lines masks k
settled_at g lines masks k r m x e f = record {
  assigned = λ p a b. sym e ∙ x.line.1 (inr (p, a, b));
  read = λ p t d. rw f at ((x.place p).1 (inr (inr (e ∙ t, d))));
  kept = λ p b n. rw f at ((x.place p).1 (inr (inl (b, n))));
}

-- a mark or a mask that gets more than it had leaves less room
less_here : (a b : Bool) (m old : ℕ) → (b ≡ true → a ≡ true) → (a ≡ b → m ≡ old → ⊥) → old ≤ m → m < 2 ^ 64
    → cond (not a) 1 0 + (2 ^ 64 - m) < cond (not b) 1 0 + (2 ^ 64 - old)
less_here true true m old f n l k = let d : m ≢ old = n refl in omega arith
less_here true false m old f n l k = omega arith
less_here false true m old f n l k = let e = f refl in absurd (cc)
less_here false false m old f n l k = let d : m ≢ old = n refl in omega arith

-- there is less room after a line gets more than it had
pub less_room : (g : FlowGraph) (v : ℕ) (lines : List Bool) (masks : List ℕ) (k : ℕ) (r : Bool) (m : ℕ) → k < length g.nodes → m < 2 ^ 64
    → IsGrown g v lines masks → IsWanted g lines masks k r m → ((r ≡ get_or lines k false) × (m ≡ get_or masks k 0) → ⊥)
    → room_of (set lines k r) (set masks k m) < room_of lines masks
less_room g v lines masks k r m l fits w x other =
    let n : k < length lines = rw w.lines_size l in
    let o : k < length masks = rw w.masks_size l in
    let s = sum_by-set (λ b. cond (not b) 1 0) lines k r false n in
    let t = sum_by-set room masks k m 0 o in
    let h = less_here r (get_or lines k false) m (get_or masks k 0) (λ e. x.line.1 (inl e)) (λ a b. other (a, b)) x.more fits in
    omega (arith, s, t, h)
