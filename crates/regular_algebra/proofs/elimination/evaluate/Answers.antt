use Rattle.std.proofs.Common.{arith, refl}
use Rattle.regular_algebra.proofs.Joins.{answers-there, answers-right}
use Rattle.regular_algebra.proofs.elimination.evaluate.Goals as goal

pub hand_out-requires : goal.hand_out-requires
hand_out-requires g c =
    answers-there g.A.Algebra.is_point g.A.Algebra.joins g.met.A.Algebra.only_points c.args.arcs.now _ _ c.as_slice-steps.ensures _ _ c.as_slice-answers.ensures
    _ _ c.as_slice.ensures.value _ _ c.as_slice-2.ensures.value _ refl
    c.in_ok-made.ensures c.requires.below c.in_ok-last.ensures

pub returns : goal.returns
returns g c start targets right =
    answers-right g.A.Algebra.is_point g.A.Algebra.joins g.met.A.Algebra.only_points c.args.arcs.now _ _ c.as_slice-steps.ensures _ _ c.as_slice-answers.ensures
    _ _ c.as_slice.ensures.value _ _ c.as_slice-2.ensures.value _ refl
    start targets _ _ c.from_vec.ensures c.in_ok-made.ensures c.requires.below c.in_ok-last.ensures right
    (omega (arith, c.in_ok-values.ensures.size)) c.in_ok-values.ensures.each
