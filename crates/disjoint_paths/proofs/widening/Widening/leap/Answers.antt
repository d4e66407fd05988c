use Rattle.std.proofs.Common.{refl, ◌<◌, ◌≤◌, length, arith}
use Rattle.flow_graph.proofs.Members.{IsIn-get_or}
use Rattle.disjoint_paths.specs.Widening.{opened_at}
use Rattle.disjoint_paths.specs.Asked.{arcs_of, targets_of}
use Rattle.disjoint_paths.proofs.Openings.{limit_more, grown_same, grown_on, widening_jump, grown_jump}
use Rattle.disjoint_paths.proofs.widening.Widening.leap.Goals as goal

pub add-requires : goal.add-requires
add-requires c =
    let l : c.loop-place.place < length c.args.asked.now.path.now = omega arith in
    let b = c.requires.asked.path _ (IsIn-get_or c.args.asked.now.path.now c.loop-place.place 0 l) in
    let s = c.loop-place.invariant.state.size in
    omega (arith, b, s)

pub loop-place-init : goal.loop-place-init
loop-place-init c = record {
  state = limit_more _ _ _ _ _ _ _ _ _ _ c.requires.state c.requires.ahead;
  grown = grown_same _ _ _ _ _;
}

pub loop-place-preserved : goal.loop-place-preserved
loop-place-preserved c =
    let path = c.args.asked.now.path.now in
    let l : c.loop-place.place < length c.args.asked.now.path.now = omega arith in
    let b = c.requires.asked.path _ (IsIn-get_or c.args.asked.now.path.now c.loop-place.place 0 l) in
    let m = c.loop-place.invariant.grown.more in
    let same = c.loop-place.invariant.grown.same c.args.before c.requires.known in
    let low : (opened_at c.args.self.now.opened.items c.args.before).from ≤ c.args.self.now.start = c.requires.state.limits c.args.before c.requires.known in
    let first = c.requires.asked.first in
    rw (c.in_ok-add.ensures.roles, c.in_ok-add.ensures.opened)
    (record {
      state = widening_jump (arcs_of c.args.asked.now) (targets_of c.args.asked.now) c.args.asked.now.tail c.args.asked.now.path.now (length c.args.asked.now.rows.now) c.loop-place.self.roles.items
          c.loop-place.self.opened.items c.loop-place.place c.args.before c.args.to first c.loop-place.invariant.state (omega arith) (rw same (omega arith)) c.loop-place-test.true c.requires.within
          (rw same c.requires.arc) c.requires.away b;
      grown = grown_on _ _ _ _ _ _ _ _ _ _ _ c.loop-place.invariant.grown
          (grown_jump (arcs_of c.args.asked.now) (targets_of c.args.asked.now) c.args.asked.now.tail c.args.asked.now.path.now (length c.args.asked.now.rows.now) c.loop-place.self.roles.items
          c.loop-place.self.opened.items c.loop-place.place c.args.to _ c.loop-place.invariant.state b refl (first.inside c.loop-place.place (omega arith)).0);
    })
