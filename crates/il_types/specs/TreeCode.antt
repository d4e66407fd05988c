-- Trees as lists of cells, a tree behind its parts, so that trees may stand in the value of a struct.
use Rattle.std.specs.Prelude.{◌≡◌, ℕ, Bool, List, [], ◌∷◌, refl}
use Rattle.std.specs.Coded.{Coded, code_by, coded_list}
use Rattle.std.proofs.Common.{◌∙◌, ap}
use Rattle.il_core.specs.Tree.{Tree, number, word, former, constant, minus, opposite, two}
use Rattle.il_core.specs.declared.operator.BinOp.{BinOp}

pub data Cell : Type 0 where
  of_number : ℕ → Cell
  of_word : List ℕ → Cell
  of_former : List ℕ → Cell
  of_constant : Bool → Cell
  of_minus : Cell
  of_opposite : Cell
  of_two : BinOp → Cell

-- the cells of a tree in front of others
abbrev pub cells : Tree → List Cell → List Cell
cells (number n) rest = of_number n ∷ rest
cells (word name) rest = of_word name ∷ rest
cells (former name) rest = of_former name ∷ rest
cells (constant b) rest = of_constant b ∷ rest
cells (minus a) rest = cells a (of_minus ∷ rest)
cells (opposite a) rest = cells a (of_opposite ∷ rest)
cells (two o a b) rest = cells a (cells b (of_two o ∷ rest))

-- one cell, with the trees before it, the latest first
abbrev pub with_cell : Cell → List Tree → List Tree
with_cell (of_number n) trees = number n ∷ trees
with_cell (of_word name) trees = word name ∷ trees
with_cell (of_former name) trees = former name ∷ trees
with_cell (of_constant b) trees = constant b ∷ trees
with_cell of_minus (a ∷ trees) = minus a ∷ trees
with_cell of_opposite (a ∷ trees) = opposite a ∷ trees
with_cell (of_two o) (b ∷ a ∷ trees) = two o a b ∷ trees
with_cell _ trees = trees

abbrev pub trees_of : List Cell → List Tree → List Tree
trees_of [] trees = trees
trees_of (c ∷ cs) trees = trees_of cs (with_cell c trees)

-- the first tree, or 0
abbrev pub first_tree : List Tree → Tree
first_tree [] = number 0
first_tree (a ∷ trees) = a

abbrev pub tree_from : List Cell → Tree
tree_from cs = first_tree (trees_of cs [])

-- the cells of a tree give it back
pub given_back : (t : Tree) (rest : List Cell) (trees : List Tree) → trees_of (cells t rest) trees ≡ trees_of rest (t ∷ trees)
given_back (number n) rest trees = refl
given_back (word name) rest trees = refl
given_back (former name) rest trees = refl
given_back (constant b) rest trees = refl
given_back (minus a) rest trees = given_back a (of_minus ∷ rest) trees
given_back (opposite a) rest trees = given_back a (of_opposite ∷ rest) trees
given_back (two o a b) rest trees = given_back a (cells b (of_two o ∷ rest)) trees ∙ given_back b (of_two o ∷ rest) (a ∷ trees)

pub cells_give : (t : Tree) → tree_from (cells t []) ≡ t
cells_give t = ap first_tree (given_back t [] [])

-- the code of trees, from that of cells
pub tree_code : Coded Cell → Coded Tree
tree_code c = code_by (List Cell) (coded_list c) (λ t. cells t []) tree_from cells_give
