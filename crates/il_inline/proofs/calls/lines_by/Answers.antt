use Rattle.std.proofs.Common.{subst, length}
use Rattle.il_called.specs.Called.{written_of}
use Rattle.il_inline.specs.Fits.{AllFit}
use Rattle.il_inline.specs.Held.{callees_held}
use Rattle.il_inline.specs.Slots.{lines_by}
use Rattle.il_inline.specs.Within.{AreWithin}
use Rattle.il_inline.proofs.Limits.{within_left, within_right}
use Rattle.il_inline.proofs.Steps.{rest_is, each_step, made_step, next_fit}
use Rattle.il_inline.proofs.calls.lines_by.Goals as goal

pub push_line-requires-clause-within : goal.push_line-requires-clause-within
push_line-requires-clause-within c =
    let by = lines_by (callees_held c.args.written.now c.args.inlined.now) c.args.places.now c.args.under c.args.layout.now in
    let step = each_step by c.args.lines.now c.loop-at.at c.index-lines-at.result c.loop-at-test.true c.index-lines-at.is in
    within_left (by c.loop-at.at (written_of c.index-lines-at.result)) _ (subst AreWithin step c.loop-at.invariant.within)

pub loop-at-preserved : goal.loop-at-preserved
loop-at-preserved c =
    let callees = callees_held c.args.written.now c.args.inlined.now in
    let by = lines_by callees c.args.places.now c.args.under c.args.layout.now in
    let x = c.index-lines-at.result in
    let step = each_step by c.args.lines.now c.loop-at.at x c.loop-at-test.true c.index-lines-at.is in
    let fit = subst (AllFit callees (length c.args.inlined.now) c.args.layout.now c.loop-at.at) (rest_is c.args.lines.now c.loop-at.at x c.loop-at-test.true c.index-lines-at.is) c.loop-at.invariant.fit in
    record {
      made = made_step _ _ (by c.loop-at.at (written_of x)) _ _ _ c.in_ok-push_line.ensures step c.loop-at.invariant.made;
      fit = next_fit callees (length c.args.inlined.now) c.args.layout.now c.loop-at.at _ fit.1;
      within = within_right (by c.loop-at.at (written_of x)) _ (subst AreWithin step c.loop-at.invariant.within);
    }
