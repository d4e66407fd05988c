use Rattle.sym_terms.specs.Tree.{tree_of}
use Rattle.sym_simplify.proofs.Alone.{norm_is_normal, norm_is_small}
use Rattle.sym_simplify.proofs.simplifying.norm.Goals as goal

pub returns-clause-normal : goal.returns-clause-normal
returns-clause-normal c = norm_is_normal (tree_of c.args.term.now) c.normalized.result c.normalized.ensures

pub returns-clause-small : goal.returns-clause-small
returns-clause-small c = norm_is_small (tree_of c.args.term.now) c.normalized.result _ c.requires.weight c.normalized.ensures
