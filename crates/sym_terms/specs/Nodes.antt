-- A pool of nodes: each names only earlier positions, and no two are equal; the term of a position is the tree found by following them.
use Rattle.std.specs.Prelude.{◌≡◌, ℕ, ◌<◌, Some, List, [], length, map, slice_get, nat_eq}
use Rattle.std.specs.HashMap.{get, HashMap}
use Rattle.std.specs.declared.hash.FoldHasher.{FoldHasher}
use Rattle.std.specs.declared.hash.BuildHasherDefault.{BuildHasherDefault}
use Rattle.sym_terms.specs.declared.node.TermId.{TermId}
use Rattle.sym_terms.specs.declared.node.TermNode.{TermNode}
use Rattle.sym_terms.specs.declared.node.TermNode.TheVariants.{Num, Var, Add, Mul, Div, Mod}
use Rattle.sym_terms.specs.Tree.{Tree, number, variable, sum, product, quotient, remainder}
use Rattle.sym_terms.specs.Substitution.{term_at, substituted}
use Rattle.sym_terms.specs.Grown.{grown}

-- each position that the node names is below k
abbrev pub NamesBelow : ℕ → TermNode → Type 0
NamesBelow k (Num n) = Unit {0}
NamesBelow k (Var p) = Unit {0}
NamesBelow k (Add a b) = (a.index < k) × (b.index < k)
NamesBelow k (Mul a b) = (a.index < k) × (b.index < k)
NamesBelow k (Div a b) = (a.index < k) × (b.index < k)
NamesBelow k (Mod a b) = (a.index < k) × (b.index < k)

pub record IsPool (nodes : List TermNode) : Type 0 where
  pub lower : (k : ℕ) (n : TermNode) → slice_get nodes k ≡ Some n → NamesBelow k n
  pub differ : (j k : ℕ) (n : TermNode) → slice_get nodes j ≡ Some n → slice_get nodes k ≡ Some n → j ≡ k

-- the term of a node over the terms of the earlier nodes
abbrev pub tree_over : List Tree → TermNode → Tree
tree_over done (Num n) = number n
tree_over done (Var p) = variable p
tree_over done (Add a b) = sum (term_at done a.index) (term_at done b.index)
tree_over done (Mul a b) = product (term_at done a.index) (term_at done b.index)
tree_over done (Div a b) = quotient (term_at done a.index) (term_at done b.index)
tree_over done (Mod a b) = remainder (term_at done a.index) (term_at done b.index)

-- the terms of all positions
unfoldable pub trees_of : List TermNode → List Tree
trees_of nodes = grown tree_over [] nodes

-- the term of a position
unfoldable pub tree_at : List TermNode → TermId → Tree
tree_at nodes id = term_at (trees_of nodes) id.index

-- the term of a node over a pool
abbrev pub node_term : List TermNode → TermNode → Tree
node_term nodes (Num n) = number n
node_term nodes (Var p) = variable p
node_term nodes (Add a b) = sum (tree_at nodes a) (tree_at nodes b)
node_term nodes (Mul a b) = product (tree_at nodes a) (tree_at nodes b)
node_term nodes (Div a b) = quotient (tree_at nodes a) (tree_at nodes b)
node_term nodes (Mod a b) = remainder (tree_at nodes a) (tree_at nodes b)

-- the terms of a list of positions
abbrev pub terms_of : List TermNode → List TermId → List Tree
terms_of nodes ids = map (tree_at nodes) ids

-- each position is one of the pool's
pub record AreWithin (nodes : List TermNode) (ids : List TermId) : Type 0 where
  pub each : (k : ℕ) (id : TermId) → slice_get ids k ≡ Some id → id.index < length nodes

abbrev pub Memo : Type 0
Memo = HashMap ℕ TermId (BuildHasherDefault FoldHasher)

-- what a substitution has answered so far: each position met, with the position of its substituted term
pub record IsMemo (nodes : List TermNode) (env : List TermId) (memo : Memo) : Type 0 where
  pub source : (id v : TermId) → get nat_eq memo id.index ≡ Some v → id.index < length nodes
  pub within : (id v : TermId) → get nat_eq memo id.index ≡ Some v → v.index < length nodes
  pub term : (id v : TermId) → get nat_eq memo id.index ≡ Some v → tree_at nodes v ≡ substituted (terms_of nodes env) (tree_at nodes id)
