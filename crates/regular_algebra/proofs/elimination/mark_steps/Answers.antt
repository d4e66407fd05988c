use Rattle.std.proofs.Common.{arith, ◌∙◌}
use Rattle.std.proofs.lemmas.Option.{slice_get-get_or}
use Rattle.regular_algebra.specs.declared.steps.Step.TheVariants.{Plus}
use Rattle.regular_algebra.proofs.Uses.{named-lower, uses-more}
use Rattle.regular_algebra.proofs.elimination.mark_steps.Goals as goal

pub mark_step-requires : goal.mark_step-requires
mark_step-requires c =
    λ v h.
    omega (
      arith,
      named-lower c.args.first c.args.steps.now c.requires.lower c.loop-k.k _ (slice_get-get_or c.args.steps.now c.loop-k.k (Plus 0 0) c.loop-k-test.true) v h,
      c.loop-k.invariant.size,
      c.loop-k-test.true,
    )

pub loop-k-preserved : goal.loop-k-preserved
loop-k-preserved c =
    record {
      size = c.mark_step.auto.last ∙ c.loop-k.invariant.size;
      used = uses-more c.args.first c.args.steps.now c.loop-k.last c.mark_step.new.last c.loop-k.k _ c.requires.lower c.loop-k.invariant.size c.loop-k.invariant.used
          (slice_get-get_or c.args.steps.now c.loop-k.k (Plus 0 0) c.loop-k-test.true) c.mark_step.ensures;
    }
