-- The edges that refute are shares that refute.
use Rattle.std.proofs.Common.{◌∙◌, sym, ap, subst, [], length, map, All}
use Rattle.il_core.specs.Certificate.{sum}
use Rattle.difference.specs.Chains.{IsRefuted}
use Rattle.threat_certs.specs.Making.{share_of, IsCountable, RefutesForks}
use Rattle.threat_certs.proofs.Sums.{countable}
use Rattle.threat_certs.proofs.Made.{sum-refutes}
use Rattle.threat_certs.proofs.refuting.summed.Goals as goal

pub shares_of-requires : goal.shares_of-requires
shares_of-requires c =
    let r : IsRefuted c.args.ranges.now c.deref.result.now c.in-Some.edges = rw c.in-Some.is at c.in_ok-edges.ensures.sum in
    let l = ap length c.deref-in-Some.ensures.value ∙ (c.requires.counted ∙ ap length (sym c.deref.ensures.value)) in
    subst (All (IsCountable (length c.deref-in-Some.result.now))) (sym c.as_slice.ensures)
    (countable (length c.args.ranges.now) (length c.deref.result.now) c.in-Some.edges c.deref-in-Some.result.now l r.named)

pub returns-in_ok-shares-in-Some : goal.returns-in_ok-shares-in-Some
returns-in_ok-shares-in-Some c =
    let r : IsRefuted c.args.ranges.now c.deref.result.now c.in-Some.edges = rw c.in-Some.is at c.in_ok-edges.ensures.sum in
    subst (λ x. RefutesForks c.args.ranges.now c.args.bounds.now.constraints.items c.args.bounds.now.items.items [] (sum x))
    (sym (c.from_vec.ensures ∙ (c.in_ok-shares-in-Some.ensures
    ∙ (ap (λ x. map (share_of x) c.as_slice.result.now) c.deref-in-Some.ensures.value ∙ ap (map (share_of c.args.bounds.now.items.items)) c.as_slice.ensures))))
    (sum-refutes c.args.ranges.now c.args.bounds.now.constraints.items c.args.bounds.now.items.items c.in-Some.edges
    (subst (λ x. IsRefuted c.args.ranges.now x c.in-Some.edges) c.deref.ensures.value r))
