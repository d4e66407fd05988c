use Rattle.std.proofs.Common.{refl}
use Rattle.disjoint_paths.specs.Asked.{arcs_of, targets_of}
use Rattle.disjoint_paths.proofs.Replays.{replay_step, replay_jump}
use Rattle.disjoint_paths.proofs.fan.carry.Goals as goal

pub returns-in-Tail : goal.returns-in-Tail
returns-in-Tail c = absurd (rw c.in-Tail.is at c.requires.fan.1)

pub returns-in_ok-push-in-Step : goal.returns-in_ok-push-in-Step
returns-in_ok-push-in-Step c =
    let e = rw c.in-Step.is at c.requires.fan.1 in
    replay_step (arcs_of c.args.asked.now) (targets_of c.args.asked.now) c.args.asked.now.tail c.args.asked.now.path.now c.args.opened.now c.args.number c.in-Step.field-0 c.args.fan
    (record { left = c.push.new.self; right = c.args.fan.right }) c.requires.opened c.requires.known c.in-Step.is (rw e c.requires.fan.2) c.in_ok-push-in-Step.ensures.ok refl

pub returns-in_ok-extend-in-Jump : goal.returns-in_ok-extend-in-Jump
returns-in_ok-extend-in-Jump c =
    let e = rw c.in-Jump.is at c.requires.fan.1 in
    replay_jump (arcs_of c.args.asked.now) (targets_of c.args.asked.now) c.args.asked.now.tail c.args.asked.now.path.now c.args.opened.now c.args.number c.in-Jump.before c.in-Jump.place c.args.fan
    (record { left = c.extend.new.list; right = c.args.fan.left }) c.requires.asked.first c.requires.opened c.requires.known c.in-Jump.is (rw e c.requires.fan.2) c.in_ok-extend-in-Jump.ensures refl
