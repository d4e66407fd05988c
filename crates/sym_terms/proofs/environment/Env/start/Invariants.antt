use Rattle.std.proofs.Common.{◌≡◌}
use Rattle.sym_terms.specs.Substitution.{variables}
use Rattle.sym_terms.proofs.environment.Env.start.Given as goal

abbrev pub invariant-loop-place : goal.invariant-loop-place
invariant-loop-place l = l.terms.items ≡ variables l.place
