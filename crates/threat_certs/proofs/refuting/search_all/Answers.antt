-- A certificate of the core, or of another fork beside it, is one of all; and where none is made all have solutions.
use Rattle.std.proofs.Common.{◌∙◌, sym, subst, length, All, arith}
use Rattle.std.proofs.lemmas.Option.{slice_get-get_or}
use Rattle.difference.specs.Answers.{IsSplit}
use Rattle.threat_certs.specs.Counting.{splits_among}
use Rattle.threat_certs.specs.Making.{IsMade}
use Rattle.threat_certs.proofs.Forks.{core-made, other-made, with-other, other-solved, all-solved}
use Rattle.threat_certs.proofs.refuting.search_all.Goals as goal

pub returns-then-is_some : goal.returns-then-is_some
returns-then-is_some c =
    core-made c.args.ranges.now c.args.bounds.now.constraints.items c.args.bounds.now.items.items c.args.core.now c.args.others.now c.requires.few c.in_ok-found.found
    (sym c.is_some.ensures ∙ c.if-is_some.true) c.in_ok-found.ensures

pub search-requires-in-loop-other-clause-splits : goal.search-requires-in-loop-other-clause-splits
search-requires-in-loop-other-clause-splits c =
    subst (λ x. All (IsSplit (length c.args.ranges.now)) (splits_among x)) (sym (c.deref.ensures.value ∙ c.in_ok-forks.ensures))
    (with-other (length c.args.ranges.now) c.args.core.now c.args.others.now c.loop-other.other-index _ c.requires.core c.requires.others
    (slice_get-get_or c.args.others.now c.loop-other.other-index _ (omega (arith, c.loop-other-test.true))))

pub returns-then-is_some-2 : goal.returns-then-is_some-2
returns-then-is_some-2 c =
    other-made c.args.ranges.now c.args.bounds.now.constraints.items c.args.bounds.now.items.items c.args.core.now c.args.others.now c.requires.few c.loop-other.other-index _ c.in_ok-found-2.found
    (slice_get-get_or c.args.others.now c.loop-other.other-index _ (omega (arith, c.loop-other-test.true)))
    (sym c.is_some-in-loop-other.ensures ∙ c.if-is_some-2.true)
    (subst (λ x. IsMade c.args.ranges.now c.args.bounds.now.constraints.items c.args.bounds.now.items.items x c.in_ok-found-2.found) (c.deref.ensures.value ∙ c.in_ok-forks.ensures) c.in_ok-found-2.ensures)

pub loop-other-preserved : goal.loop-other-preserved
loop-other-preserved c = (
  c.loop-other.invariant.0,
  other-solved c.args.ranges.now c.args.bounds.now.constraints.items c.args.core.now c.args.others.now c.args.bounds.now.items.items c.loop-other.other-index _ c.deref.result.now c.in_ok-found-2.found
      (slice_get-get_or c.args.others.now c.loop-other.other-index _ (omega (arith, c.loop-other-test.true))) (c.deref.ensures.value ∙ c.in_ok-forks.ensures)
      (sym c.is_some-in-loop-other.ensures ∙ c.if-is_some-2.false) c.in_ok-found-2.ensures c.loop-other.invariant.1,
)

pub returns : goal.returns
returns c =
    all-solved c.args.ranges.now c.args.bounds.now.constraints.items c.args.core.now c.args.others.now c.loop-other.other-index (omega (arith, c.loop-other-test.false)) c.loop-other.invariant.0
    c.loop-other.invariant.1
