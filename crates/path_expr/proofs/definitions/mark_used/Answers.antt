use Rattle.std.proofs.Common.{◌≡◌, ◌∙◌, ◌-◌, subst, ap, arith}
use Rattle.std.proofs.lemmas.Option.{slice_get-get_or}
use Rattle.regular_algebra.specs.declared.steps.Step.TheVariants.{Plus}
use Rattle.regular_algebra.proofs.Uses.{named-lower}
use Rattle.path_expr.specs.Marks.{marked_answer}
use Rattle.path_expr.proofs.Marking.{using_start, using_skip, using_mark, Using, using_end}
use Rattle.path_expr.proofs.definitions.mark_used.Goals as goal

pub loop-k-init : goal.loop-k-init
loop-k-init c = record {
  within = omega arith;
  using = using_start c.args.first c.args.steps.now c.args.answer c.mark_answer.new.used
      (c.mark_answer.ensures ∙ ap (marked_answer c.args.first c.args.answer) c.requires.none) c.requires.below;
}

pub mark_sides-requires : goal.mark_sides-requires
mark_sides-requires c =
    λ v h.
    let w = c.loop-k.invariant.within in
    let t = c.loop-k-test.true in
    let n = named-lower c.args.first c.args.steps.now c.requires.lower (c.loop-k.k - 1) _
    (slice_get-get_or c.args.steps.now (c.loop-k.k - 1) (Plus 0 0) (omega (arith, w, t))) v h in
    omega (arith, n, w, t, c.loop-k.invariant.using.size)

pub loop-k-preserved-then-used-k : goal.loop-k-preserved-then-used-k
loop-k-preserved-then-used-k c =
    let w = c.loop-k.invariant.within in
    let t = c.loop-k-test.true in
    record {
      within = omega (arith, w);
      using = using_mark c.args.first c.args.steps.now c.args.answer c.loop-k.k (c.loop-k.k - 1) _ c.loop-k.used c.mark_sides.new.used (omega (arith, t))
          c.loop-k.invariant.using c.requires.lower (slice_get-get_or c.args.steps.now (c.loop-k.k - 1) (Plus 0 0) (omega (arith, w, t))) c.if-used-k.true
          c.mark_sides.ensures;
    }

pub loop-k-preserved : goal.loop-k-preserved
loop-k-preserved c =
    let w = c.loop-k.invariant.within in
    let t = c.loop-k-test.true in
    record {
      within = omega (arith, w);
      using = using_skip c.args.first c.args.steps.now c.args.answer c.loop-k.k (c.loop-k.k - 1) c.loop-k.used (omega (arith, t)) c.loop-k.invariant.using c.if-used-k.false;
    }

pub returns : goal.returns
returns c =
    let at_0 : c.loop-k.k ≡ 0 = omega (arith, c.loop-k-test.false) in
    using_end c.args.first c.args.steps.now c.args.answer c.loop-k.used
    (subst (λ k. Using c.args.first c.args.steps.now c.args.answer k c.loop-k.used) at_0 c.loop-k.invariant.using) c.requires.lower c.requires.below
