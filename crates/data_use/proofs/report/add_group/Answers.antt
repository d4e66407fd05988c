use Rattle.std.proofs.Common.{◌+◌, ℕ, List, [], ◌∷◌, arith, sym, subst, ◌<◌, ◌∙◌, length, ap, refl}
use Rattle.regular_algebra.specs.Answers.{AreAnswers, AnswersBelow}
use Rattle.regular_algebra.specs.Relations.{ends_of}
use Rattle.regular_algebra.specs.Words.{EachNamesLower}
use Rattle.data_use.specs.Sums.{EachCarries}
use Rattle.data_use.proofs.Collected.{entries-many}
use Rattle.data_use.proofs.Fitting.{reached-low, sums-right}
use Rattle.data_use.proofs.report.add_group.Goals as goal

pub entries_of-requires-clause-tails : goal.entries_of-requires-clause-tails
entries_of-requires-clause-tails c =
    λ a h. subst (λ nodes. a.tail < length nodes) (sym c.as_slice.ensures) (reached-low c.args.graph.now c.requires.formed a.tail ((c.requires.routes a).0 h).0)

pub evaluate-requires-clause-lower : goal.evaluate-requires-clause-lower
evaluate-requires-clause-lower c =
    subst (λ n. EachNamesLower n c.args.plan.now.steps) (sym (entries-many _ _ (ap ends_of c.as_slice-2.ensures.value ∙ c.in_ok-entries.ensures.ends))) c.requires.plan.lower

pub evaluate-requires-clause-below : goal.evaluate-requires-clause-below
evaluate-requires-clause-below c =
    subst (λ n. AnswersBelow (n + length c.args.plan.now.steps) c.args.plan.now.answers)
    (sym (entries-many _ _ (ap ends_of c.as_slice-2.ensures.value ∙ c.in_ok-entries.ensures.ends))) c.requires.plan.below

pub bounds-sums-0 : goal.bounds-sums-0
bounds-sums-0 c =
    let ends = ap ends_of c.as_slice-2.ensures.value ∙ c.in_ok-entries.ensures.ends in
    let targets : List ℕ = length c.args.graph.now.nodes ∷ (length c.args.graph.now.nodes + 1) ∷ [] in
    let two = (c.in_ok-values.ensures 0 targets (subst (λ e. AreAnswers e c.args.plan.now.steps 0 targets c.args.plan.now.answers) (sym ends) c.requires.plan.answers)).size in
    subst (λ s. 0 < length s) (sym c.as_slice-sums.ensures) (omega (arith, two))

pub bounds-sums-1 : goal.bounds-sums-1
bounds-sums-1 c =
    let ends = ap ends_of c.as_slice-2.ensures.value ∙ c.in_ok-entries.ensures.ends in
    let targets : List ℕ = length c.args.graph.now.nodes ∷ (length c.args.graph.now.nodes + 1) ∷ [] in
    let two = (c.in_ok-values.ensures 0 targets (subst (λ e. AreAnswers e c.args.plan.now.steps 0 targets c.args.plan.now.answers) (sym ends) c.requires.plan.answers)).size in
    subst (λ s. 1 < length s) (sym c.as_slice-sums.ensures) (omega (arith, two))

pub add_rows-requires-clause-sums : goal.add_rows-requires-clause-sums
add_rows-requires-clause-sums c =
    let g = c.args.graph.now in
    let group = c.args.group.now in
    let entries = c.as_slice-2.result.now in
    let ends = ap ends_of c.as_slice-2.ensures.value ∙ c.in_ok-entries.ensures.ends in
    let targets : List ℕ = length g.nodes ∷ (length g.nodes + 1) ∷ [] in
    sums-right g c.requires.formed c.args.routes.now c.requires.routes group c.requires.few entries ends
    (subst (λ nodes. EachCarries nodes group entries) c.as_slice.ensures (subst (EachCarries c.as_slice.result.now group) (sym c.as_slice-2.ensures.value) c.in_ok-entries.ensures.values))
    (length g.nodes) refl c.in_ok-values.values c.as_slice-sums.result.now _ _ c.as_slice-sums.ensures
    (c.in_ok-values.ensures 0 targets (subst (λ e. AreAnswers e c.args.plan.now.steps 0 targets c.args.plan.now.answers) (sym ends) c.requires.plan.answers))
