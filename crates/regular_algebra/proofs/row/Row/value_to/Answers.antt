use Rattle.std.proofs.Common.{sym, subst, arith}
use Rattle.std.proofs.lemmas.List.{get_or_default}
use Rattle.regular_algebra.specs.Rows.{IsRising}
use Rattle.regular_algebra.proofs.Rows.{nothing, value_there, none_there}
use Rattle.regular_algebra.proofs.row.Row.value_to.Goals as goal

pub returns-in-Ok : goal.returns-in-Ok
returns-in-Ok c =
    let value = value_there _ (subst IsRising c.self.view_is c.self.invariant) _ _ c.in-Ok.ensures.stands in
    let read = get_or_default _ _ c.index.result.now nothing c.in-Ok.ensures.stands.within in
    grind (arith, c.self.view_is)

pub returns-in-Err : goal.returns-in-Err
returns-in-Err c = sym (none_there _ _ _ c.in-Err.ensures.goes)
