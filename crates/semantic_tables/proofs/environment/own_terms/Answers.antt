use Rattle.std.proofs.Common.{◌≡◌, ◌∙◌, ap, sym, subst, arith}
use Rattle.sym_terms.specs.Identity.{own_values}
use Rattle.sym_terms.specs.Nodes.{terms_of, AreWithin}
use Rattle.semantic_tables.proofs.Environments.{own_more, within_more, own_env}
use Rattle.semantic_tables.proofs.environment.own_terms.Goals as goal

pub loop-place-preserved : goal.loop-place-preserved
loop-place-preserved c = record {
  within = subst (AreWithin c.put_term.new.self.terms) (sym c.in_ok-push.ensures.items)
      (within_more c.loop-place.forms.terms c.put_term.new.self.terms c.loop-place.env.items c.in_ok-put_term.field-0 c.in_ok-put_term.ensures.kept c.loop-place.invariant.within c.in_ok-put_term.ensures.within);
  own = ap (terms_of c.put_term.new.self.terms) c.in_ok-push.ensures.items
      ∙ own_more c.loop-place.forms.terms c.put_term.new.self.terms c.loop-place.env.items c.loop-place.place c.in_ok-put_term.field-0 c.in_ok-put_term.ensures.kept c.loop-place.invariant.within
      c.loop-place.invariant.own c.in_ok-put_term.ensures.term;
}

pub returns-clause-env : goal.returns-clause-env
returns-clause-env c =
    let all : c.loop-place.place ≡ c.args.count = omega (arith, c.loop-place.auto, c.loop-place-test.false) in
    own_env c.args.count c.loop-place.forms.terms c.loop-place.env.items c.loop-place.invariant.within (c.loop-place.invariant.own ∙ ap own_values all)
