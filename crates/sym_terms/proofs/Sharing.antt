-- Equal terms of a pool stand at one position.
use Rattle.std.proofs.Common.{◌≡◌, ◌∙◌, refl, sym, ap, ℕ, ℤ, ◌<◌, ◌↔◌, IsTrue, Bool, Some, List, length, get_or, slice_get, arith}
use Rattle.std.proofs.lemmas.Option.{slice_get-get_or, slice_get_within}
use Rattle.sym_terms.specs.declared.node.TermId.{TermId}
use Rattle.sym_terms.specs.declared.node.TermNode.{TermNode}
use Rattle.sym_terms.specs.declared.node.TermNode.TheVariants.{Num, Var, Add, Mul, Div, Mod}
use Rattle.sym_terms.specs.Tree.{Tree, number, variable, sum, product, quotient, remainder}
use Rattle.sym_terms.specs.Nodes.{NamesBelow, IsPool, tree_at, node_term}
use Rattle.sym_terms.proofs.Terms.{term_of_node}

-- a node of two sides that have these terms
record Sides (nodes : List TermNode) (make : TermId → TermId → TermNode) (n : TermNode) (u v : Tree) : Type 0 where
  left : TermId
  right : TermId
  node : n ≡ make left right
  left_term : tree_at nodes left ≡ u
  right_term : tree_at nodes right ≡ v

of-number : (nodes : List TermNode) (n : TermNode) (c : ℤ) → node_term nodes n ≡ number c → n ≡ Num c
of-number nodes (Num d) c e = cc e
of-number nodes (Var p) c e = cc e
of-number nodes (Add x y) c e = cc e
of-number nodes (Mul x y) c e = cc e
of-number nodes (Div x y) c e = cc e
of-number nodes (Mod x y) c e = cc e

of-variable : (nodes : List TermNode) (n : TermNode) (p : ℕ) → node_term nodes n ≡ variable p → n ≡ Var p
of-variable nodes (Num c) p e = cc e
of-variable nodes (Var q) p e = cc e
of-variable nodes (Add x y) p e = cc e
of-variable nodes (Mul x y) p e = cc e
of-variable nodes (Div x y) p e = cc e
of-variable nodes (Mod x y) p e = cc e

of-sum : (nodes : List TermNode) (n : TermNode) (u v : Tree) → node_term nodes n ≡ sum u v → Sides nodes Add n u v
of-sum nodes (Num c) u v e = let h : ⊥ = cc e in absurd h
of-sum nodes (Var p) u v e = let h : ⊥ = cc e in absurd h
of-sum nodes (Add x y) u v e = record { left = x; right = y; node = refl; left_term = cc e; right_term = cc e }
of-sum nodes (Mul x y) u v e = let h : ⊥ = cc e in absurd h
of-sum nodes (Div x y) u v e = let h : ⊥ = cc e in absurd h
of-sum nodes (Mod x y) u v e = let h : ⊥ = cc e in absurd h

of-product : (nodes : List TermNode) (n : TermNode) (u v : Tree) → node_term nodes n ≡ product u v → Sides nodes Mul n u v
of-product nodes (Num c) u v e = let h : ⊥ = cc e in absurd h
of-product nodes (Var p) u v e = let h : ⊥ = cc e in absurd h
of-product nodes (Add x y) u v e = let h : ⊥ = cc e in absurd h
of-product nodes (Mul x y) u v e = record { left = x; right = y; node = refl; left_term = cc e; right_term = cc e }
of-product nodes (Div x y) u v e = let h : ⊥ = cc e in absurd h
of-product nodes (Mod x y) u v e = let h : ⊥ = cc e in absurd h

of-quotient : (nodes : List TermNode) (n : TermNode) (u v : Tree) → node_term nodes n ≡ quotient u v → Sides nodes Div n u v
of-quotient nodes (Num c) u v e = let h : ⊥ = cc e in absurd h
of-quotient nodes (Var p) u v e = let h : ⊥ = cc e in absurd h
of-quotient nodes (Add x y) u v e = let h : ⊥ = cc e in absurd h
of-quotient nodes (Mul x y) u v e = let h : ⊥ = cc e in absurd h
of-quotient nodes (Div x y) u v e = record { left = x; right = y; node = refl; left_term = cc e; right_term = cc e }
of-quotient nodes (Mod x y) u v e = let h : ⊥ = cc e in absurd h

of-remainder : (nodes : List TermNode) (n : TermNode) (u v : Tree) → node_term nodes n ≡ remainder u v → Sides nodes Mod n u v
of-remainder nodes (Num c) u v e = let h : ⊥ = cc e in absurd h
of-remainder nodes (Var p) u v e = let h : ⊥ = cc e in absurd h
of-remainder nodes (Add x y) u v e = let h : ⊥ = cc e in absurd h
of-remainder nodes (Mul x y) u v e = let h : ⊥ = cc e in absurd h
of-remainder nodes (Div x y) u v e = let h : ⊥ = cc e in absurd h
of-remainder nodes (Mod x y) u v e = record { left = x; right = y; node = refl; left_term = cc e; right_term = cc e }

-- two positions of one node are one position
one-id : (nodes : List TermNode) (a b : TermId) (n : TermNode) → IsPool nodes → slice_get nodes a.index ≡ Some n → slice_get nodes b.index ≡ Some n → a ≡ b
one-id nodes a b n pool e f = let at : ℕ → TermId = λ i. record { index = i } in ap at (pool.differ a.index b.index n e f)

-- the node of a position
node-at : (nodes : List TermNode) (a : TermId) → a.index < length nodes → (n : TermNode) × (slice_get nodes a.index ≡ Some n)
node-at nodes a l = (get_or nodes a.index (Var 0), slice_get-get_or nodes a.index (Var 0) l)

-- what holds of two sides by their nodes holds of them by their terms
same-below : (nodes : List TermNode) → IsPool nodes → (a b : TermId) (m n : TermNode) → slice_get nodes a.index ≡ Some m → slice_get nodes b.index ≡ Some n
    → (x y : TermId) → x.index < a.index → y.index < b.index → {t : Tree} → tree_at nodes x ≡ t → tree_at nodes y ≡ t
    → ((p q : TermNode) → slice_get nodes x.index ≡ Some p → slice_get nodes y.index ≡ Some q → node_term nodes p ≡ t → node_term nodes q ≡ t → x ≡ y) → x ≡ y
same-below nodes pool a b m n e f x y k l g h go =
    let i : a.index < length nodes = slice_get_within nodes a.index m e in
    let j : b.index < length nodes = slice_get_within nodes b.index n f in
    let p = node-at nodes x (omega arith) in
    let q = node-at nodes y (omega arith) in
    go p.0 q.0 p.1 q.1 (sym (term_of_node nodes x p.0 pool p.1) ∙ g) (sym (term_of_node nodes y q.0 pool q.1) ∙ h)

-- positions of equal terms are equal, by induction on the term
same_ids : (nodes : List TermNode) → IsPool nodes → (t : Tree) (a b : TermId) (m n : TermNode) → slice_get nodes a.index ≡ Some m → slice_get nodes b.index ≡ Some n
    → node_term nodes m ≡ t → node_term nodes n ≡ t → a ≡ b
same_ids nodes pool (number c) a b m n e f g h =
    one-id nodes a b n pool (e ∙ ap Some (of-number nodes m c g ∙ sym (of-number nodes n c h))) f
same_ids nodes pool (variable p) a b m n e f g h =
    one-id nodes a b n pool (e ∙ ap Some (of-variable nodes m p g ∙ sym (of-variable nodes n p h))) f
same_ids nodes pool (sum u v) a b m n e f g h =
    let s = of-sum nodes m u v g in
    let r = of-sum nodes n u v h in
    let k : NamesBelow a.index (Add s.left s.right) = rw s.node at (pool.lower a.index m e) in
    let l : NamesBelow b.index (Add r.left r.right) = rw r.node at (pool.lower b.index n f) in
    let x : s.left ≡ r.left = same-below nodes pool a b m n e f s.left r.left k.0 l.0 s.left_term r.left_term (same_ids nodes pool u s.left r.left) in
    let y : s.right ≡ r.right = same-below nodes pool a b m n e f s.right r.right k.1 l.1 s.right_term r.right_term (same_ids nodes pool v s.right r.right) in
    let w : Add s.left s.right ≡ Add r.left r.right = cc in
    one-id nodes a b n pool (e ∙ ap Some (s.node ∙ (w ∙ sym r.node))) f
same_ids nodes pool (product u v) a b m n e f g h =
    let s = of-product nodes m u v g in
    let r = of-product nodes n u v h in
    let k : NamesBelow a.index (Mul s.left s.right) = rw s.node at (pool.lower a.index m e) in
    let l : NamesBelow b.index (Mul r.left r.right) = rw r.node at (pool.lower b.index n f) in
    let x : s.left ≡ r.left = same-below nodes pool a b m n e f s.left r.left k.0 l.0 s.left_term r.left_term (same_ids nodes pool u s.left r.left) in
    let y : s.right ≡ r.right = same-below nodes pool a b m n e f s.right r.right k.1 l.1 s.right_term r.right_term (same_ids nodes pool v s.right r.right) in
    let w : Mul s.left s.right ≡ Mul r.left r.right = cc in
    one-id nodes a b n pool (e ∙ ap Some (s.node ∙ (w ∙ sym r.node))) f
same_ids nodes pool (quotient u v) a b m n e f g h =
    let s = of-quotient nodes m u v g in
    let r = of-quotient nodes n u v h in
    let k : NamesBelow a.index (Div s.left s.right) = rw s.node at (pool.lower a.index m e) in
    let l : NamesBelow b.index (Div r.left r.right) = rw r.node at (pool.lower b.index n f) in
    let x : s.left ≡ r.left = same-below nodes pool a b m n e f s.left r.left k.0 l.0 s.left_term r.left_term (same_ids nodes pool u s.left r.left) in
    let y : s.right ≡ r.right = same-below nodes pool a b m n e f s.right r.right k.1 l.1 s.right_term r.right_term (same_ids nodes pool v s.right r.right) in
    let w : Div s.left s.right ≡ Div r.left r.right = cc in
    one-id nodes a b n pool (e ∙ ap Some (s.node ∙ (w ∙ sym r.node))) f
same_ids nodes pool (remainder u v) a b m n e f g h =
    let s = of-remainder nodes m u v g in
    let r = of-remainder nodes n u v h in
    let k : NamesBelow a.index (Mod s.left s.right) = rw s.node at (pool.lower a.index m e) in
    let l : NamesBelow b.index (Mod r.left r.right) = rw r.node at (pool.lower b.index n f) in
    let x : s.left ≡ r.left = same-below nodes pool a b m n e f s.left r.left k.0 l.0 s.left_term r.left_term (same_ids nodes pool u s.left r.left) in
    let y : s.right ≡ r.right = same-below nodes pool a b m n e f s.right r.right k.1 l.1 s.right_term r.right_term (same_ids nodes pool v s.right r.right) in
    let w : Mod s.left s.right ≡ Mod r.left r.right = cc in
    one-id nodes a b n pool (e ∙ ap Some (s.node ∙ (w ∙ sym r.node))) f

-- positions of a pool with equal terms are equal
pub same_positions : (nodes : List TermNode) (a b : TermId) → IsPool nodes → a.index < length nodes → b.index < length nodes → tree_at nodes a ≡ tree_at nodes b → a ≡ b
same_positions nodes a b pool k l e =
    let p = node-at nodes a k in
    let q = node-at nodes b l in
    same_ids nodes pool (tree_at nodes b) a b p.0 q.0 p.1 q.1 (sym (term_of_node nodes a p.0 pool p.1) ∙ e) (sym (term_of_node nodes b q.0 pool q.1))

-- so a test of the positions is one of the terms
pub shared : (nodes : List TermNode) (a b : TermId) (r : Bool) → IsPool nodes → a.index < length nodes → b.index < length nodes
    → (IsTrue r → a ≡ b) → (a ≡ b → IsTrue r) → IsTrue r ↔ (tree_at nodes a ≡ tree_at nodes b)
shared nodes a b r pool k l f g = (λ h. ap (tree_at nodes) (f h), λ e. g (same_positions nodes a b pool k l e))
