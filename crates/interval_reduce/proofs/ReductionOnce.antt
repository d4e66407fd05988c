-- A graph has one derivation at most: the least of each choice is one number, and where a choice is left no list ends.
use Rattle.std.proofs.Common.{◌≡◌, refl, sym, ◌∙◌, ap, subst, ℕ, List, [], ◌∷◌, ◌++◌, length, arith}
use Rattle.il_core.specs.LineGraph.{IsIn}
use Rattle.flow_graph.specs.Graph.{Joins}
use Rattle.flow_graph.specs.Reached.{IsReached}
use Rattle.flow_graph.specs.declared.graph.FlowGraph.{FlowGraph}
use Rattle.control_flow.specs.declared.control.Shape.{Shape}
use Rattle.interval_reduce.specs.declared.interval.Interval.{Interval}
use Rattle.interval_reduce.specs.declared.interval.Derivation.{Derivation}
use Rattle.interval_reduce.specs.Interval.{IsLeast, Takes, IsIntervalOf}
use Rattle.interval_reduce.specs.Level.{GoesOn, IsLevel, AreLevels, IsLastLevel, heads_of, NextArc}
use Rattle.interval_reduce.specs.Derivation.{AreLevelsOf, order_by, IsDerivationOf}

least_once : (P : ℕ → Type 0) (v w : ℕ) → IsLeast P v → IsLeast P w → v ≡ w
least_once P v w a b = let l = a.1 w b.0 in let m = b.1 v a.0 in omega arith

same_interval : (i j : Interval) → i.head ≡ j.head → i.members ≡ j.members → i ≡ j
same_interval i j e f = λ t. record { head = e t; members = f t }

same_derivation : (a b : Derivation) → a.levels ≡ b.levels → a.order ≡ b.order → a ≡ b
same_derivation a b e f = λ t. record { levels = e t; order = f t }

module _ (N : ℕ → Type 0) (E : ℕ → ℕ → Type 0) where
  takes_once : (earlier front xs ys : List ℕ) → Takes N E earlier front xs → Takes N E earlier front ys → xs ≡ ys
  takes_once earlier front [] [] a b = refl
  takes_once earlier front [] (y ∷ ys) a b = absurd (a y b.0.0)
  takes_once earlier front (x ∷ xs) [] a b = absurd (b x a.0.0)
  takes_once earlier front (x ∷ xs) (y ∷ ys) a b =
      let e = least_once _ x y a.0 b.0 in
      let t = takes_once earlier (front ++ x ∷ []) xs ys a.1 (subst (λ (z : ℕ). Takes N E earlier (front ++ z ∷ []) ys) (sym e) b.1) in
      cc

  interval_once : (earlier : List ℕ) (h : ℕ) (xs ys : List ℕ) → IsIntervalOf N E earlier h xs → IsIntervalOf N E earlier h ys → xs ≡ ys
  interval_once earlier h xs ys a b = a.1 ∙ ap (λ (l : List ℕ). h ∷ l) (takes_once earlier (h ∷ []) a.0 b.0 a.2 b.2) ∙ sym b.1

  goes_once : (earlier : List ℕ) (xs ys : List Interval) → GoesOn N E earlier xs → GoesOn N E earlier ys → xs ≡ ys
  goes_once earlier [] [] a b = refl
  goes_once earlier [] (j ∷ ys) a b = absurd (a j.head b.0.0)
  goes_once earlier (i ∷ xs) [] a b = absurd (b i.head a.0.0)
  goes_once earlier (i ∷ xs) (j ∷ ys) a b =
      let e = least_once _ i.head j.head a.0 b.0 in
      let f = interval_once earlier i.head i.members j.members a.1 (subst (λ (h : ℕ). IsIntervalOf N E earlier h j.members) (sym e) b.1) in
      let t = goes_once (earlier ++ i.members) xs ys a.2 (subst (λ (m : List ℕ). GoesOn N E (earlier ++ m) ys) (sym f) b.2) in
      let s = same_interval i j e f in
      cc

  level_once : (xs ys : List Interval) → IsLevel N E xs → IsLevel N E ys → xs ≡ ys
  level_once [] ys a b = absurd a
  level_once (i ∷ xs) [] a b = absurd b
  level_once (i ∷ xs) (j ∷ ys) a b =
      let f = interval_once [] 0 i.members j.members a.1 b.1 in
      let t = goes_once i.members xs ys a.2 (subst (λ (m : List ℕ). GoesOn N E m ys) (sym f) b.2) in
      let s = same_interval i j (a.0 ∙ sym b.0) f in
      cc

levels_once : (N : ℕ → Type 0) (E : ℕ → ℕ → Type 0) (x : List Interval) (xs : List (List Interval)) (y : List Interval) (ys : List (List Interval))
    → AreLevels N E x xs → AreLevels N E y ys → ◌≡◌ {A = List (List Interval)} (x ∷ xs) (y ∷ ys)
levels_once N E x [] y [] a b = let e = level_once N E x y a.0 b.0 in cc
levels_once N E x [] y (next ∷ ys) a b = absurd (b.1 (subst IsLastLevel (level_once N E x y a.0 b.0) a.1))
levels_once N E x (next ∷ xs) y [] a b = absurd (a.1 (subst IsLastLevel (sym (level_once N E x y a.0 b.0)) b.1))
levels_once N E x (p ∷ xs) y (q ∷ ys) a b =
    let e = level_once N E x y a.0 b.0 in
    let t = levels_once (IsIn (heads_of x)) (NextArc E x) p xs q ys a.2 (subst (λ (l : List Interval). AreLevels (IsIn (heads_of l)) (NextArc E l) q ys) (sym e) b.2) in
    cc

graph_levels_once : (g : FlowGraph) (xs ys : List (List Interval)) → AreLevelsOf g xs → AreLevelsOf g ys → xs ≡ ys
graph_levels_once g [] ys a b = absurd a
graph_levels_once g (x ∷ xs) [] a b = absurd b
graph_levels_once g (x ∷ xs) (y ∷ ys) a b = levels_once (IsReached g.arcs) (λ u v. Joins g.arcs u v × IsReached g.arcs u) x xs y ys a b

-- no graph of a shape has two derivations
pub derived_once : (g : FlowGraph) (shape : Shape) (a b : Derivation) → IsDerivationOf g shape a → IsDerivationOf g shape b → a ≡ b
derived_once g shape a b p q =
    let e = graph_levels_once g a.levels b.levels p.levels q.levels in
    same_derivation a b e (p.order ∙ ap (order_by (length g.nodes) shape) e ∙ sym q.order)
