-- The statements of the made text of a number, one for each of its lines, each at the place where its line begins.
use Rattle.std.specs.Prelude.{ℕ, ◌+◌, pos, true, List, [], ◌∷◌, ◌++◌, codes, length}
use Rattle.std.specs.List.{flat_map, range_with_len}
use Rattle.il_core.specs.Statement.{Statement, Placed, title, procedure, variable, pre, post, assign, loop, end_loop, exit_when, end_procedure, finish}
use Rattle.il_core.specs.Tree as tree
use Rattle.il_core.specs.Tree.{Tree}
use Rattle.il_core.specs.declared.operator.BinOp.TheVariants.{Add, Compare}
use Rattle.il_core.specs.declared.operator.Relation.TheVariants.{Ge}
use Rattle.il_core.specs.declared.statement.Bound.TheVariants as bound
use Rattle.il_core.specs.declared.statement.Mode.TheVariants as mode
use Rattle.il_core.specs.declared.statement.TypeUse.TheVariants as type
use Rattle.made_text.specs.Made.{lines}

-- x >= k
abbrev pub at_least : ℕ → Tree
at_least k = tree.two (Compare Ge) (tree.word (codes "x")) (tree.number k)

abbrev pub raised : Tree
raised = tree.two Add (tree.word (codes "x")) (tree.number 1)

abbrev pub opening : ℕ → List Statement
opening n = title (codes "gen") ∷ procedure (codes "p") ∷ variable mode.InOut (codes "x") (type.Range (bound.Number (pos 0)) (bound.Number (pos 200)))
    ∷ pre (tree.constant true) ∷ post (at_least n) ∷ []

abbrev pub round : ℕ → List Statement
round k = loop ∷ exit_when (at_least k) ∷ assign (codes "x") raised ∷ end_loop ∷ []

abbrev pub closing : List Statement
closing = end_procedure ∷ finish ∷ []

-- what the lines say, with a loop for each k from 1 to n
abbrev pub said : ℕ → List Statement
said n = opening n ++ flat_map round (range_with_len 1 n) ++ closing

-- what lines say, each at the place where it begins; the first begins at this place, and a newline ends each
abbrev pub placed_from : ℕ → List (List ℕ) → List Statement → List Placed
placed_from at [] ss = []
placed_from at (line ∷ others) [] = []
placed_from at (line ∷ others) (s ∷ ss) = record { place = at; says = s } ∷ placed_from (at + length line + 1) others ss

abbrev pub statements : ℕ → List Placed
statements n = placed_from 0 (lines n) (said n)
