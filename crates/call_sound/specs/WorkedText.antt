-- A text with calls worked out by hand: a procedure `inc`, which adds 1 to a variable, and a procedure `p`, which calls it with its own variable.
-- Its statements are in order, have their links and keep all rules, and they stand for the text that is expanded by hand in `il_called`.
use Rattle.std.specs.Prelude.{◌≡◌, pos, ℤ, true, List, [], ◌∷◌, codes, None}
use Rattle.il_core.specs.Statement.{Placed, title, procedure, variable, pre, post, assign, call, end_procedure, finish}
use Rattle.il_core.specs.Tree.{number, word, former, constant, two}
use Rattle.il_core.specs.declared.operator.BinOp.TheVariants.{Add, Compare}
use Rattle.il_core.specs.declared.operator.Relation.TheVariants.{Eq, Le}
use Rattle.il_core.specs.declared.statement.Bound.TheVariants as bound
use Rattle.il_core.specs.declared.statement.Link.{Link}
use Rattle.il_core.specs.declared.statement.Link.TheVariants.{NoLine, Plain}
use Rattle.il_core.specs.declared.statement.Mode.TheVariants.{InOut}
use Rattle.il_core.specs.declared.statement.TypeUse.{TypeUse}
use Rattle.il_core.specs.declared.statement.TypeUse.TheVariants as use_
use Rattle.il_syntax.specs.Order.{IsInOrder}
use Rattle.il_blocks.specs.BlockLink.{AreLinks}
use Rattle.il_called.specs.Called.{WrittenText}
use Rattle.il_called.specs.CalledText.{IsCalledText}
use Rattle.il_called.specs.WorkedExpansion.{inc, caller}
use Rattle.call_rules.specs.CalledText.{called_text}
use Rattle.call_rules.specs.Rules.{Answers}
use Rattle.call_rules.specs.WorkedRules.{placed_at}
use Rattle.call_sound.specs.Laws.{HaveShortNames, HaveSmallBounds}

abbrev pub up_to : ℤ → TypeUse
up_to greatest = use_.Range (bound.Number (pos 0)) (bound.Number greatest)

abbrev pub worked_statements : List Placed
worked_statements = placed_at 0 (
    title (codes "t")
    ∷ procedure (codes "inc") ∷ variable InOut (codes "v") (up_to (pos 9)) ∷ pre (two (Compare Le) (word (codes "v")) (number 8))
    ∷ post (two (Compare Eq) (word (codes "v")) (two Add (former (codes "v")) (number 1)))
    ∷ assign (codes "v") (two Add (word (codes "v")) (number 1)) ∷ end_procedure
    ∷ procedure (codes "p") ∷ variable InOut (codes "x") (up_to (pos 5)) ∷ pre (constant true) ∷ post (constant true)
    ∷ call (codes "inc") (word (codes "x") ∷ []) ∷ end_procedure ∷ finish ∷ []
    )

abbrev pub worked_links : List Link
worked_links = NoLine ∷ NoLine ∷ NoLine ∷ Plain 0 ∷ NoLine ∷ Plain 1 ∷ Plain 2 ∷ NoLine ∷ NoLine ∷ Plain 0 ∷ NoLine ∷ Plain 1 ∷ Plain 2 ∷ NoLine ∷ []

abbrev pub worked_called : WrittenText
worked_called = record { title = codes "t"; profile = 1; procs = inc ∷ caller ∷ [] }

pub record WorkedText : Type 0 where
  pub in_order : IsInOrder worked_statements
  pub links : AreLinks worked_statements worked_links
  pub answers : Answers worked_statements worked_links None
  pub short : HaveShortNames worked_statements
  pub small : HaveSmallBounds worked_statements
  pub stands : called_text worked_statements worked_links ≡ worked_called
  pub checked : IsCalledText worked_called
