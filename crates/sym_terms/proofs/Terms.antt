-- The terms of a pool: each is made from its node, and stands wherever the pool is kept.
use Rattle.std.proofs.Common.{◌≡◌, ◌∙◌, refl, sym, ap, ℕ, suc, pos, ◌<◌, ◌≤◌, Option, Some, None, List, [], ◌∷◌, length, slice_get, zero-add, arith, IfSome}
use Rattle.std.proofs.lemmas.Option.{slice_get_within, get_or_from_slice_get}
use Rattle.std.proofs.lemmas.List.{get_or-map}
use Rattle.sym_terms.specs.declared.node.TermId.{TermId}
use Rattle.sym_terms.specs.declared.node.TermNode.{TermNode}
use Rattle.sym_terms.specs.declared.node.TermNode.TheVariants.{Num, Var, Add, Mul, Div, Mod}
use Rattle.sym_terms.specs.Tree.{Tree, number}
use Rattle.sym_terms.specs.Substitution.{term_at, substituted}
use Rattle.sym_terms.specs.Grown.{Keeps}
use Rattle.sym_terms.specs.Nodes.{NamesBelow, IsPool, tree_over, trees_of, tree_at, node_term, terms_of, AreWithin, Memo, IsMemo}
use Rattle.sym_terms.proofs.Grown.{keeps_le, keeps_get, keeps_push, keeps_self, keeps_trans, kept-grown, grown-node}

-- a node's term rests on the terms of the positions that it names
agrees : (xs ys : List Tree) (k : ℕ) (n : TermNode) → NamesBelow k n → ((j : ℕ) → j < k → term_at xs j ≡ term_at ys j) → tree_over xs n ≡ tree_over ys n
agrees xs ys k (Num n) b h = refl
agrees xs ys k (Var p) b h = refl
agrees xs ys k (Add a c) b h = rw (h a.index b.0, h c.index b.1) refl
agrees xs ys k (Mul a c) b h = rw (h a.index b.0, h c.index b.1) refl
agrees xs ys k (Div a c) b h = rw (h a.index b.0, h c.index b.1) refl
agrees xs ys k (Mod a c) b h = rw (h a.index b.0, h c.index b.1) refl

over-node : (nodes : List TermNode) (n : TermNode) → tree_over (trees_of nodes) n ≡ node_term nodes n
unfolding tree_at
over-node nodes (Num n) = refl
over-node nodes (Var p) = refl
over-node nodes (Add a b) = refl
over-node nodes (Mul a b) = refl
over-node nodes (Div a b) = refl
over-node nodes (Mod a b) = refl

-- the term of a position is that of its node
pub term_of_node : (nodes : List TermNode) (id : TermId) (n : TermNode) → IsPool nodes → slice_get nodes id.index ≡ Some n → tree_at nodes id ≡ node_term nodes n
unfolding tree_at trees_of
term_of_node nodes id n pool e =
    grown-node tree_over NamesBelow (number (pos 0)) agrees [] nodes id.index id.index n e (sym (zero-add id.index)) (pool.lower id.index n e)
    ∙ over-node nodes n

-- a term stands where the pool is kept
pub tree_kept : (old new : List TermNode) (id : TermId) → Keeps old new → id.index < length old → tree_at new id ≡ tree_at old id
unfolding tree_at trees_of
tree_kept old new id k l = kept-grown tree_over old new id.index (number (pos 0)) k l

-- and so does the term of a node
pub node_term_kept : (old new : List TermNode) (n : TermNode) → Keeps old new → NamesBelow (length old) n → node_term new n ≡ node_term old n
node_term_kept old new (Num n) k b = refl
node_term_kept old new (Var p) k b = refl
node_term_kept old new (Add a c) k b = rw (tree_kept old new a k b.0, tree_kept old new c k b.1) refl
node_term_kept old new (Mul a c) k b = rw (tree_kept old new a k b.0, tree_kept old new c k b.1) refl
node_term_kept old new (Div a c) k b = rw (tree_kept old new a k b.0, tree_kept old new c k b.1) refl
node_term_kept old new (Mod a c) k b = rw (tree_kept old new a k b.0, tree_kept old new c k b.1) refl

-- a node that now stands has its term over the old pool
pub made_term : (old new : List TermNode) (id : TermId) (n : TermNode) → Keeps old new → IsPool new → NamesBelow (length old) n
    → slice_get new id.index ≡ Some n → tree_at new id ≡ node_term old n
made_term old new id n k pool b e = term_of_node new id n pool e ∙ node_term_kept old new n k b

-- names below a lesser number are below a greater one
pub names_further : (j k : ℕ) (n : TermNode) → j ≤ k → NamesBelow j n → NamesBelow k n
names_further j k (Num n) l b = tt
names_further j k (Var p) l b = tt
names_further j k (Add a c) l b = (omega (arith, b.0), omega (arith, b.1))
names_further j k (Mul a c) l b = (omega (arith, b.0), omega (arith, b.1))
names_further j k (Div a c) l b = (omega (arith, b.0), omega (arith, b.1))
names_further j k (Mod a c) l b = (omega (arith, b.0), omega (arith, b.1))

-- what a pool of kept positions says of them
pub within_kept : (old new : List TermNode) (env : List TermId) → Keeps old new → AreWithin old env → AreWithin new env
within_kept old new env k w = record { each = λ i id e. omega (arith, keeps_le old new k, w.each i id e) }

-- the terms of positions stand where the pool is kept
pub terms_kept : (old new : List TermNode) (env : List TermId) → Keeps old new → AreWithin old env → terms_of new env ≡ terms_of old env
terms_kept old new [] k w = refl
terms_kept old new (a ∷ rest) k w =
    rw (tree_kept old new a k (w.each 0 a refl), terms_kept old new rest k (record { each = λ i id e. w.each (suc i) id e })) refl

-- the term of a place is that of its position
pub env_term : (nodes : List TermNode) (env : List TermId) (p : ℕ) (id : TermId) → slice_get env p ≡ Some id → term_at (terms_of nodes env) p ≡ tree_at nodes id
env_term nodes env p id e =
    get_or-map (tree_at nodes) env p id (number (pos 0)) (slice_get_within env p id e) ∙ ap (tree_at nodes) (get_or_from_slice_get env p id id e)

-- the position of a place is one of the pool's
pub env_within : (nodes : List TermNode) (env : List TermId) (p : ℕ) (id : TermId) → AreWithin nodes env → slice_get env p ≡ Some id → id.index < length nodes
env_within nodes env p id w e = w.each p id e

-- what was answered stands where the pool is kept
pub memo_kept : (old new : List TermNode) (env : List TermId) (memo : Memo) → Keeps old new → AreWithin old env → IsMemo old env memo → IsMemo new env memo
memo_kept old new env memo k w m = record {
  source = λ id v e. omega (arith, keeps_le old new k, m.source id v e);
  within = λ id v e. omega (arith, keeps_le old new k, m.within id v e);
  term = λ id v e. tree_kept old new v k (m.within id v e) ∙ (m.term id v e
      ∙ (ap (λ ts. substituted ts (tree_at old id)) (sym (terms_kept old new env k w))
      ∙ ap (substituted (terms_of new env)) (sym (tree_kept old new id k (m.source id v e)))));
}

-- what a look-up of a node tells
pub found_term : (nodes : List TermNode) (id : TermId) (o : Option TermNode) → IsPool nodes → o ≡ slice_get nodes id.index → IfSome o (λ n. tree_at nodes id ≡ node_term nodes n)
found_term nodes id None pool e = tt
found_term nodes id (Some n) pool e = term_of_node nodes id n pool (sym e)

pub found_lower : (nodes : List TermNode) (id : TermId) (o : Option TermNode) → IsPool nodes → o ≡ slice_get nodes id.index → IfSome o (NamesBelow id.index)
found_lower nodes id None pool e = tt
found_lower nodes id (Some n) pool e = pool.lower id.index n (sym e)

-- what a call on a pool that grows asks for
pub ruleset keeping = (tree_kept, keeps_trans, keeps_self, keeps_le)
