-- Empty buckets file nothing; each constraint joins the bucket of its left side.
use Rattle.std.proofs.Common.{◌≡◌, length, arith}
use Rattle.difference.specs.Constraints.{IsGiven}
use Rattle.difference.proofs.Lists.{all_at}
use Rattle.difference.proofs.Sweeps.{empty-push, filed-none, arc-of, filed-more, slot-within}
use Rattle.difference.proofs.rounds.table_of.Goals as goal

pub loop-index-init : goal.loop-index-init
loop-index-init c =
    let e : c.loop-range._range-index ≡ length c.args.ranges.now = omega arith in
    rw c.in_ok-push-2.ensures.items
    (filed-none (length c.args.ranges.now) c.args.constraints.now _
    (empty-push c.loop-range.buckets.items c.new-2.result (length c.args.ranges.now) (rw (← e) c.loop-range.invariant) c.new-2.ensures.items))

pub file-requires : goal.file-requires
file-requires c =
    let given = all_at (IsGiven (length c.args.ranges.now)) c.args.constraints.now c.loop-index.index c.constraint_at-constraint.result c.requires c.constraint_at-constraint.ensures in
    let low = slot-within (length c.args.ranges.now) c.constraint_at-constraint.result.left given.left in
    rw c.slot_of-place.ensures (omega (arith, c.loop-index.invariant.size))

pub loop-index-preserved : goal.loop-index-preserved
loop-index-preserved c =
    let given = all_at (IsGiven (length c.args.ranges.now)) c.args.constraints.now c.loop-index.index c.constraint_at-constraint.result c.requires c.constraint_at-constraint.ensures in
    filed-more (length c.args.ranges.now) c.args.constraints.now c.loop-index.index c.constraint_at-constraint.result c.arc_of.result c.loop-index.buckets.items c.file.new.buckets.items
    c.loop-index.invariant c.constraint_at-constraint.ensures given
    (arc-of (length c.args.ranges.now) c.args.constraints.now c.loop-index.index c.constraint_at-constraint.result c.arc_of.result c.constraint_at-constraint.ensures given c.arc_of.ensures.index c.arc_of.ensures.right c.arc_of.ensures.bound)
    c.arc_of.ensures.index (rw c.slot_of-place.ensures at c.in_ok-file.ensures)
