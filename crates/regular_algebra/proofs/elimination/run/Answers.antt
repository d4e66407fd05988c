use Rattle.std.proofs.Common.{arith, sym, subst, IsSome, get_or, length}
use Rattle.std.proofs.lemmas.Option.{slice_get-get_or}
use Rattle.regular_algebra.specs.Relations.{values_of}
use Rattle.regular_algebra.specs.Run.{value_in, StepJoins}
use Rattle.regular_algebra.specs.declared.steps.Step.TheVariants.{Plus}
use Rattle.regular_algebra.proofs.Uses.{named-lower}
use Rattle.regular_algebra.proofs.Joins.{length-values, step-there, made-more, made-all}
use Rattle.regular_algebra.proofs.elimination.run.Goals as goal

pub step_value-requires : goal.step_value-requires
step_value-requires g c =
    λ v h.
    subst (λ m. IsSome (value_in (values_of c.args.arcs.now) m v)) (sym c.as_slice.ensures.value)
    (step-there g.A.Algebra.is_point g.A.Algebra.joins g.met.A.Algebra.only_points (values_of c.args.arcs.now) c.args.steps.now c.args.answers.now c.args.last.now c.loop-k.k
    c.loop-k.made.items c.loop-k.invariant c.requires.lower c.requires.last (get_or c.args.steps.now c.loop-k.k (Plus 0 0))
    (slice_get-get_or c.args.steps.now c.loop-k.k (Plus 0 0) c.loop-k-test.true) v h)

pub release_all-requires-clause-below : goal.release_all-requires-clause-below
release_all-requires-clause-below g c =
    λ v h.
    omega (
      arith,
      named-lower (length (values_of c.args.arcs.now)) c.args.steps.now c.requires.lower c.loop-k.k _ (slice_get-get_or c.args.steps.now c.loop-k.k (Plus 0 0) c.loop-k-test.true) v h,
      length-values c.args.arcs.now,
      c.loop-k.invariant.size,
      c.loop-k.made.ok.0,
      c.in_ok-push.ensures.len,
    )

pub loop-k-preserved : goal.loop-k-preserved
loop-k-preserved g c =
    made-more g.A.Algebra.is_point g.A.Algebra.joins g.met.A.Algebra.only_points (values_of c.args.arcs.now) c.args.steps.now c.args.answers.now c.args.last.now c.loop-k.k
    c.loop-k.made.items c.push.new.self.items c.release_all.new.made.items c.loop-k.invariant c.requires.lower c.requires.last (get_or c.args.steps.now c.loop-k.k (Plus 0 0))
    (slice_get-get_or c.args.steps.now c.loop-k.k (Plus 0 0) c.loop-k-test.true) c.in_ok-value.value
    (subst (λ m. StepJoins g.A.Algebra.is_point g.A.Algebra.joins (value_in (values_of c.args.arcs.now) m) (get_or c.args.steps.now c.loop-k.k (Plus 0 0)) c.in_ok-value.value)
    c.as_slice.ensures.value c.in_ok-value.ensures)
    c.in_ok-push.ensures.items c.release_all.ensures

pub returns : goal.returns
returns g c =
    made-all g.A.Algebra.is_point g.A.Algebra.joins g.met.A.Algebra.only_points (values_of c.args.arcs.now) c.args.steps.now c.args.last.now c.loop-k.k _ c.loop-k.made.items
    (omega (arith, c.loop-k-test.false, c.loop-k.auto.k-end)) c.loop-k.invariant
