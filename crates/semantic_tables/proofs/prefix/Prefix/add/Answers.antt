use Rattle.sym_simplify.specs.Literal.{literal_form_of}
use Rattle.sym_simplify.specs.Easy.{IsKept}
use Rattle.sym_simplify.proofs.KeptBounds.{kept-below}
use Rattle.std.proofs.Common.{subst}
use Rattle.semantic_tables.proofs.prefix.Prefix.add.Goals as goal

pub returns-clause-literals : goal.returns-clause-literals
returns-clause-literals c = record {
  literal = c.in_ok-literal.literal;
  last = c.in_ok-push-3.ensures.items;
  form = c.in_ok-literal.ensures.form;
  kept = subst IsKept c.in_ok-literal.ensures.form (kept-below (literal_form_of c.in_ok-literal.literal) c.in_ok-literal.ensures.fits);
}
