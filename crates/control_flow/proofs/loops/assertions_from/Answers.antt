use Rattle.std.proofs.Common.{refl, ◌+◌, ◌<◌, ◌≤◌, arith}
use Rattle.control_flow.proofs.Listing.{lists_push}
use Rattle.control_flow.proofs.Leading.{span_next, all_next, run_ends, none_behind}
use Rattle.control_flow.proofs.loops.assertions_from.Goals as goal

pub loop-at-preserved : goal.loop-at-preserved
loop-at-preserved c = record {
  listed =
      rw c.in_ok-push.ensures.ok
      (lists_push _ (λ k. (c.args.start ≤ k) × (k < c.loop-at.at + 1)) c.loop-at.lines c.loop-at.at c.loop-at.invariant.listed (λ k p. p.1)
      (span_next c.args.start c.loop-at.at c.loop-at.auto.at));
  all = all_next c.args.nodes.now c.args.start c.loop-at.at c.loop-at.invariant.all (c.if-not-is_assertion.ensures.0 refl);
}

pub returns : goal.returns
returns c =
    run_ends c.args.nodes.now c.args.start c.loop-at.at c.loop-at.lines c.loop-at.invariant.listed c.loop-at.invariant.all c.loop-at.auto.at
    (none_behind c.args.nodes.now c.loop-at.at (omega arith))
