use Rattle.std.proofs.Common.{subst}
use Rattle.regular_algebra.specs.Rows.{IsRising}
use Rattle.regular_algebra.proofs.Rows.{sets_there, rising_set, sets_between, rising_insert}
use Rattle.regular_algebra.proofs.row.Row.set.Goals as goal

pub invariant_of-self : goal.invariant_of-self
invariant_of-self c = rising_set _ c.self.invariant _ _ (rw c.self.view_is c.in-Ok.ensures.stands) _

pub returns-in-Ok-clause-ok : goal.returns-in-Ok-clause-ok
returns-in-Ok-clause-ok c = rw c.self.view_is (sets_there _ (subst IsRising c.self.view_is c.self.invariant) _ _ c.in-Ok.ensures.stands _)

pub invariant_of-self-in-Err : goal.invariant_of-self-in-Err
invariant_of-self-in-Err c = rw c.in_ok-insert-in-Err.ensures.items (rising_insert _ _ _ (rw c.self.view_is c.in-Err.ensures.goes) _ c.self.invariant)

pub returns-in_ok-insert-in-Err-clause-ok : goal.returns-in_ok-insert-in-Err-clause-ok
returns-in_ok-insert-in-Err-clause-ok c = rw (c.in_ok-insert-in-Err.ensures.items, c.self.view_is) (sets_between _ _ _ c.in-Err.ensures.goes _)
