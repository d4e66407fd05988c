-- A solution of a side is one of all, and certificates of both sides are one that splits.
use Rattle.std.proofs.Common.{rules, ◌∷◌, [], ◌++◌, sym, subst, length, true, All}
use Rattle.std.proofs.lemmas.List.Elements.{All-head, All-tail, All-push}
use Rattle.difference.specs.Constraints.{IsGiven}
use Rattle.difference.specs.Answers.{IsSplit}
use Rattle.il_core.specs.Certificate.{split, certificate_of}
use Rattle.il_core.specs.declared.certificate.Item.TheVariants.{Up, Down}
use Rattle.path_inputs.specs.Bounding.{IsJudged}
use Rattle.threat_certs.specs.Counting.{splits_among}
use Rattle.threat_certs.specs.Making.{RefutesForks}
use Rattle.threat_certs.proofs.Made.{pushed-length}
use Rattle.threat_certs.proofs.Splitting.{below-solved, above-solved, split-refutes}
use Rattle.threat_certs.proofs.refuting.+search.Goals as goal

pub search-requires : goal.search-requires
search-requires t c =
    let splits : All (IsSplit (length c.args.ranges.now)) (splits_among (c.in-Some.fork ∷ c.in-Some.rest.now)) = rw c.in-Some.ensures at c.requires.splits in (
      search rules,
      (
        c.requires.ranges,
        (
          rw c.in_ok-below.ensures.constraints
              (All-push (IsGiven (length c.args.ranges.now)) c.args.bounds.now.constraints.items c.in-Some.fork.split.low c.requires.given
              (All-head (IsSplit (length c.args.ranges.now)) c.in-Some.fork.split (splits_among c.in-Some.rest.now) splits).low),
          (
            rw (c.in_ok-below.ensures.items, c.in_ok-below.ensures.constraints)
                (pushed-length c.args.bounds.now.items.items c.args.bounds.now.constraints.items (Up c.in-Some.fork.literal) c.in-Some.fork.split.low c.requires.counted),
            All-tail (IsSplit (length c.args.ranges.now)) c.in-Some.fork.split (splits_among c.in-Some.rest.now) splits,
          ),
        ),
      ),
    )

pub search-requires-2 : goal.search-requires-2
search-requires-2 t c =
    let splits : All (IsSplit (length c.args.ranges.now)) (splits_among (c.in-Some.fork ∷ c.in-Some.rest.now)) = rw c.in-Some.ensures at c.requires.splits in (
      search rules,
      (
        c.requires.ranges,
        (
          rw c.in_ok-above.ensures.constraints
              (All-push (IsGiven (length c.args.ranges.now)) c.args.bounds.now.constraints.items c.in-Some.fork.split.high c.requires.given
              (All-head (IsSplit (length c.args.ranges.now)) c.in-Some.fork.split (splits_among c.in-Some.rest.now) splits).high),
          (
            rw (c.in_ok-above.ensures.items, c.in_ok-above.ensures.constraints)
                (pushed-length c.args.bounds.now.items.items c.args.bounds.now.constraints.items (Down c.in-Some.fork.literal) c.in-Some.fork.split.high c.requires.counted),
            All-tail (IsSplit (length c.args.ranges.now)) c.in-Some.fork.split (splits_among c.in-Some.rest.now) splits,
          ),
        ),
      ),
    )

pub returns-in-None : goal.returns-in-None
returns-in-None t c =
    let j : IsJudged c.args.ranges.now c.in_ok-below.below.constraints.items (splits_among c.in-Some.rest.now) true = rw c.in-None.is at c.in_ok-low.ensures in
    subst (λ x. IsJudged c.args.ranges.now c.args.bounds.now.constraints.items (splits_among x) true) (sym c.in-Some.ensures)
    (below-solved c.args.ranges.now c.args.bounds.now.constraints.items c.args.bounds.now.items.items c.in-Some.fork c.in-Some.rest.now
    (subst (λ x. IsJudged c.args.ranges.now x (splits_among c.in-Some.rest.now) true) c.in_ok-below.ensures.constraints j))

pub returns-in-None-2 : goal.returns-in-None-2
returns-in-None-2 t c =
    let j : IsJudged c.args.ranges.now c.in_ok-above.above.constraints.items (splits_among c.in-Some.rest.now) true = rw c.in-None-2.is at c.in_ok-high.ensures in
    subst (λ x. IsJudged c.args.ranges.now c.args.bounds.now.constraints.items (splits_among x) true) (sym c.in-Some.ensures)
    (above-solved c.args.ranges.now c.args.bounds.now.constraints.items c.args.bounds.now.items.items c.in-Some.fork c.in-Some.rest.now
    (subst (λ x. IsJudged c.args.ranges.now x (splits_among c.in-Some.rest.now) true) c.in_ok-above.ensures.constraints j))

pub returns : goal.returns
returns t c =
    let cs = c.args.bounds.now.constraints.items in
    let items = c.args.bounds.now.items.items in
    let l : RefutesForks c.args.ranges.now c.in_ok-below.below.constraints.items c.in_ok-below.below.items.items c.in-Some.rest.now (certificate_of c.in-Some-2.low) = rw c.in-Some-2.is at c.in_ok-low.ensures in
    let h : RefutesForks c.args.ranges.now c.in_ok-above.above.constraints.items c.in_ok-above.above.items.items c.in-Some.rest.now (certificate_of c.in-Some-3.high) = rw c.in-Some-3.is at c.in_ok-high.ensures in
    subst (RefutesForks c.args.ranges.now cs items c.args.forks.now) (sym c.in_ok-cert.ensures)
    (subst (λ x. RefutesForks c.args.ranges.now cs items x (split c.in-Some.fork.literal (certificate_of c.in-Some-2.low) (certificate_of c.in-Some-3.high))) (sym c.in-Some.ensures)
    (split-refutes c.args.ranges.now cs items c.in-Some.fork c.in-Some.rest.now (certificate_of c.in-Some-2.low) (certificate_of c.in-Some-3.high)
    (subst (λ x. RefutesForks c.args.ranges.now x (items ++ Up c.in-Some.fork.literal ∷ []) c.in-Some.rest.now (certificate_of c.in-Some-2.low)) c.in_ok-below.ensures.constraints
    (subst (λ x. RefutesForks c.args.ranges.now c.in_ok-below.below.constraints.items x c.in-Some.rest.now (certificate_of c.in-Some-2.low)) c.in_ok-below.ensures.items l))
    (subst (λ x. RefutesForks c.args.ranges.now x (items ++ Down c.in-Some.fork.literal ∷ []) c.in-Some.rest.now (certificate_of c.in-Some-3.high)) c.in_ok-above.ensures.constraints
    (subst (λ x. RefutesForks c.args.ranges.now c.in_ok-above.above.constraints.items x c.in-Some.rest.now (certificate_of c.in-Some-3.high)) c.in_ok-above.ensures.items h))))
