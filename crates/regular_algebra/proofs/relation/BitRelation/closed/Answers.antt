use Rattle.std.proofs.Common.{◌≡◌, subst, arith}
use Rattle.regular_algebra.specs.Relation.{Joins}
use Rattle.regular_algebra.proofs.Bits.{ClosedTo, closed-none, closed-more, closed-all}
use Rattle.regular_algebra.proofs.relation.BitRelation.closed.Goals as goal

pub loop-k-init : goal.loop-k-init
loop-k-init c = closed-none (Joins c.args.self.now) 66 (λ x y r. (r.0, r.1)) (Joins c.with_diagonal-turned.result) c.with_diagonal-turned.ensures

pub loop-k-preserved : goal.loop-k-preserved
loop-k-preserved c = closed-more (Joins c.args.self.now) 66 c.loop-k.k (Joins c.loop-k.turned) (Joins c.pass.new.self) c.loop-k.invariant c.pass.ensures

pub returns : goal.returns
returns c =
    let end : c.loop-k.k ≡ 66 = omega (arith, c.loop-k-test.false, c.loop-k.auto.k-end) in
    closed-all (Joins c.args.self.now) 66 (Joins c.loop-k.turned) (λ x y r. (r.0, r.1))
    (subst (λ k. ClosedTo (Joins c.args.self.now) 66 k (Joins c.loop-k.turned)) end c.loop-k.invariant)
