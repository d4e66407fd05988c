-- A term without the pointers that hold it.
use Rattle.std.specs.Prelude.{ℕ, ℤ}
use Rattle.sym_terms.specs.declared.term.Term.{Term, Add', Mul', Div', Mod'}
use Rattle.sym_terms.specs.declared.term.Term.TheVariants.{Num, Var}

pub data Tree : Type 0 where
  number : ℤ → Tree
  variable : ℕ → Tree
  sum : Tree → Tree → Tree
  product : Tree → Tree → Tree
  quotient : Tree → Tree → Tree
  remainder : Tree → Tree → Tree

-- the tree that a `Term` holds
abbrev pub tree_of : Term → Tree
tree_of (Num n) = number n
tree_of (Var p) = variable p
tree_of (Add' p a q b) = sum (tree_of a) (tree_of b)
tree_of (Mul' p a q b) = product (tree_of a) (tree_of b)
tree_of (Div' p a q b) = quotient (tree_of a) (tree_of b)
tree_of (Mod' p a q b) = remainder (tree_of a) (tree_of b)
