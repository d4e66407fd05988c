use Rattle.std.proofs.Common.{◌∙◌, sym, subst, ◌+◌}
use Rattle.std.proofs.lemmas.Result.{IfOk-weaker}
use Rattle.call_names.specs.Sorted.{AreInOrder}
use Rattle.call_names.proofs.Clashes.{own_sorted, clash_read}
use Rattle.call_names.proofs.clash.clash.Goals as goal

pub first_new-requires : goal.first_new-requires
first_new-requires c =
    let own = own_sorted c.args.outlines.now c.args.own.now c.args.owner c.index-own-owner.result c.requires.inside c.requires.own c.index-own-owner.is in
    subst AreInOrder (sym c.as_slice.ensures) own.order

pub returns-clause-found : goal.returns-clause-found
returns-clause-found c =
    let sorted = c.index-own-owner.result in
    let own = own_sorted c.args.outlines.now c.args.own.now c.args.owner sorted c.requires.inside c.requires.own c.index-own-owner.is in
    IfOk-weaker c.first_new.result _ _ (λ found e procs some outlined.
    clash_read procs c.args.outlines.now c.args.owner (c.args.calls + 1) c.saturating_sub.result sorted c.as_slice.result.now
    _ c.in-Some.number found own c.as_slice.ensures (sym c.procedure_named.ensures ∙ c.in-Some.is) c.saturating_sub.ensures
    (e procs outlined))
    c.first_new.ensures
