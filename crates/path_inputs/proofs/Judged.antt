-- A solution that also meets a side of one more split is a solution with that split.
use Rattle.std.proofs.Common.{inl, inr, sym, ap, subst, suc, ℤ, Bool, true, false, List, ◌∷◌, ◌++◌}
use Rattle.difference.specs.Constraints.{IsSolution, Meets}
use Rattle.difference.specs.Answers.{sides, IsFirst}
use Rattle.difference.specs.declared.constraint.Range64.{Range64}
use Rattle.difference.specs.declared.constraint.Constraint.{Constraint}
use Rattle.difference.specs.declared.constraint.Split.{Split}
use Rattle.path_inputs.specs.Bounding.{MeetsEither, IsJudged}
use Rattle.path_inputs.proofs.Splits.{side}
use Rattle.path_inputs.proofs.Solutions.{with-one, one-side}

met-choice : (vals : List ℤ) (s : Split) → MeetsEither vals s → (b : Bool) × Meets vals (side b s)
met-choice vals s (inl m) = (true, m)
met-choice vals s (inr m) = (false, m)

pub known-judged : (ranges : List Range64) (cs : List Constraint) (splits : List Split) (vals : List ℤ) (s : Split) → IsFirst ranges cs splits vals → MeetsEither vals s
    → IsJudged ranges cs (s ∷ splits) true
known-judged ranges cs splits vals s h m =
    let b = met-choice vals s m in (
      vals,
      b.0 ∷ h.choice,
      ap suc h.chosen,
      subst (λ given. IsSolution ranges given vals) (ap (λ given. cs ++ given) (sym (one-side b.0 h.choice s splits))) (record {
        within = h.least.solution.within;
        met = with-one (Meets vals) cs (sides h.choice splits) (side b.0 s) h.least.solution.met b.1;
      }),
    )
