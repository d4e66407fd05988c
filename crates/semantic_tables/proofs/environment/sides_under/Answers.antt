use Rattle.sym_terms.specs.Comparison.{comparison_of}
use Rattle.semantic_tables.proofs.Environments.{under_sides}
use Rattle.semantic_tables.proofs.environment.sides_under.Goals as goal

pub returns-clause-sides : goal.returns-clause-sides
returns-clause-sides c =
    under_sides c.args.forms.now.terms c.put_under.new.forms.terms c.put_under-2.new.forms.terms c.args.env.now c.in_ok-left.left c.in_ok-right.right (comparison_of c.args.literal.now)
    c.in_ok-left.ensures.kept c.in_ok-right.ensures.kept c.requires.env c.in_ok-left.ensures.within c.in_ok-left.ensures.term c.in_ok-right.ensures.term
