use Rattle.std.proofs.Common.{subst, length}
use Rattle.il_called.specs.Called.{written_of}
use Rattle.il_inline.specs.Fits.{AreShort}
use Rattle.il_inline.specs.Held.{AllCallBelow}
use Rattle.il_inline.specs.Slots.{places_by}
use Rattle.il_inline.proofs.Limits.{short_left, short_right}
use Rattle.il_inline.proofs.Steps.{rest_is, each_step, made_step}
use Rattle.il_inline.proofs.places.push_all_places.Goals as goal

pub push_places-requires-clause-short : goal.push_places-requires-clause-short
push_places-requires-clause-short c =
    let by = places_by c.args.inlined.now c.args.layout.now in
    let step = each_step by c.args.lines.now c.loop-at.at c.index-lines-at.result c.loop-at-test.true c.index-lines-at.is in
    short_left (by c.loop-at.at (written_of c.index-lines-at.result)) _ (subst AreShort step c.loop-at.invariant.short)

pub loop-at-preserved : goal.loop-at-preserved
loop-at-preserved c =
    let by = places_by c.args.inlined.now c.args.layout.now in
    let x = c.index-lines-at.result in
    let step = each_step by c.args.lines.now c.loop-at.at x c.loop-at-test.true c.index-lines-at.is in
    let below = subst (AllCallBelow (length c.args.inlined.now)) (rest_is c.args.lines.now c.loop-at.at x c.loop-at-test.true c.index-lines-at.is) c.loop-at.invariant.below in
    record {
      made = made_step _ _ (by c.loop-at.at (written_of x)) _ _ _ c.in_ok-push_places.ensures step c.loop-at.invariant.made;
      below = below.1;
      short = short_right (by c.loop-at.at (written_of x)) _ (subst AreShort step c.loop-at.invariant.short);
    }
