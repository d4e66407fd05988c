-- What a plan says where its steps and numbers are those of the finished table.
use Rattle.std.proofs.Common.{◌≡◌, refl, sym, subst, subst₂, ℕ, zero, suc, ◌+◌, ◌<◌, Option, Some, None, List, [], ◌∷◌, length, map}
use Rattle.regular_algebra.specs.Paths.{HasNoCycle}
use Rattle.regular_algebra.specs.Words.{EachNamesLower, HasNoStar}
use Rattle.regular_algebra.specs.Rule.{finished}
use Rattle.regular_algebra.specs.Answers.{FitsArcs, AreAnswers, IsNumberBelow, AnswersBelow}
use Rattle.regular_algebra.specs.declared.steps.Ends.{Ends}
use Rattle.regular_algebra.specs.declared.steps.Step.{Step}
use Rattle.regular_algebra.proofs.Theorem.{holds-finished, right-answers}
use Rattle.regular_algebra.proofs.Starless.{no-star}

-- the number of an entry is below a bound
number_below : (n : ℕ) (o : Option ℕ) → ((v : ℕ) → o ≡ Some v → v < n) → IsNumberBelow n o
number_below n None f = tt
number_below n (Some v) f = f v refl

-- so is each answer
all_below : (n : ℕ) (entry : ℕ → Option ℕ) → ((t : ℕ) → IsNumberBelow n (entry t)) → (targets : List ℕ) → AnswersBelow n (map entry targets)
all_below n entry f [] k a e = absurd (cc)
all_below n entry f (t ∷ ts) zero a e = let s : entry t ≡ a = cc in subst (IsNumberBelow n) s (f t)
all_below n entry f (t ∷ ts) (suc k) a e = all_below n entry f ts k a e

module _ (count : ℕ) (arcs : List Ends) (order : List ℕ) (start : ℕ) (targets : List ℕ) (fits : FitsArcs count arcs order start targets) (steps : List Step)
    (e : steps ≡ (finished count arcs order).steps) where
  -- a step names lower values
  pub planned-lower : EachNamesLower (length arcs) steps
  planned-lower = subst (EachNamesLower (length arcs)) (sym e) (holds-finished count arcs order start targets fits).names_lower

  -- without a cycle there is no star
  pub planned-starless : HasNoCycle arcs → HasNoStar steps
  planned-starless c = subst HasNoStar (sym e) (no-star count arcs order start targets fits c)

  -- each answer is the number of a value
  pub planned-below : (answers : List (Option ℕ)) → answers ≡ map (λ t. (finished count arcs order).entry start t) targets
      → AnswersBelow (length arcs + length steps) answers
  planned-below answers f =
      subst₂ (λ x y. AnswersBelow (length arcs + length x) y) (sym e) (sym f)
      (all_below (length arcs + length (finished count arcs order).steps) (λ t. (finished count arcs order).entry start t)
      (λ t. number_below (length arcs + length (finished count arcs order).steps) ((finished count arcs order).entry start t) (λ v g. (holds-finished count arcs order start targets fits).low start t v g))
      targets)

  -- each answer is right
  pub planned-answers : (answers : List (Option ℕ)) → answers ≡ map (λ t. (finished count arcs order).entry start t) targets
      → AreAnswers arcs steps start targets answers
  planned-answers answers f =
      subst₂ (λ x y. AreAnswers arcs x start targets y) (sym e) (sym f) (right-answers count arcs order start targets fits)
