use Rattle.std.proofs.Common.{◌≡◌}
use Rattle.sym_terms.specs.Tree.{tree_of}
use Rattle.sym_terms.specs.Substitution.{substituted}
use Rattle.sym_terms.specs.Nodes.{tree_at, terms_of}
use Rattle.sym_terms.specs.declared.node.TermId.{TermId}
use Rattle.semantic_tables.proofs.Environments.{ok_map, under_term}
use Rattle.semantic_tables.proofs.environment.put_under.Goals as goal

pub returns-clause-term : goal.returns-clause-term
returns-clause-term c =
    ok_map c.subst.result (λ (r : TermId). tree_at c.subst.new.self.terms r ≡ substituted (terms_of c.put_term.new.self.terms c.args.env.now) (tree_at c.put_term.new.self.terms c.in_ok-id.id))
    (λ (r : TermId). tree_at c.subst.new.self.terms r ≡ substituted (terms_of c.args.forms.now.terms c.args.env.now) (tree_of c.args.term.now)) c.subst.ensures.term
    (λ r e. under_term c.args.forms.now.terms c.put_term.new.self.terms c.subst.new.self.terms c.args.env.now c.in_ok-id.id r (tree_of c.args.term.now) c.in_ok-id.ensures.kept c.requires.env c.in_ok-id.ensures.term e)
