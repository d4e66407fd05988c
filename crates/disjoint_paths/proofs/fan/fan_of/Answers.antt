use Rattle.std.proofs.Common.{◌≡◌, [], arith}
use Rattle.std.proofs.lemmas.List.{nil_from_length}
use Rattle.disjoint_paths.specs.Asked.{arcs_of, targets_of}
use Rattle.disjoint_paths.proofs.Descents.{linked, descent_less}
use Rattle.disjoint_paths.proofs.Replays.{replay_tail}
use Rattle.disjoint_paths.proofs.fan.fan_of.Goals as goal

pub descent-requires-clause-linked : goal.descent-requires-clause-linked
descent-requires-clause-linked c = linked (arcs_of c.args.asked.now) (targets_of c.args.asked.now) c.args.asked.now.tail c.args.asked.now.path.now c.args.opened.now c.requires.opened

pub loop-number-init : goal.loop-number-init
loop-number-init c =
    let d = c.in_ok-numbers.ensures in
    (d.0, d.3, replay_tail (arcs_of c.args.asked.now) (targets_of c.args.asked.now) c.args.asked.now.tail c.args.asked.now.path.now c.args.opened.now d.0 _ c.requires.asked.first c.requires.opened d.1 d.2 c.in_ok-alone.ensures c.in_ok-alone-2.ensures)

pub carry-requires-clause-known : goal.carry-requires-clause-known
carry-requires-clause-known c =
    let i = c.loop-number.invariant in
    (descent_less c.args.opened.now c.pop.new.self.items c.args.at c.in-Some.number i.0 (rw c.in-Some.ensures.items at i.1)).1

pub carry-requires-clause-fan : goal.carry-requires-clause-fan
carry-requires-clause-fan c =
    let i = c.loop-number.invariant in
    (i.0, (descent_less c.args.opened.now c.pop.new.self.items c.args.at c.in-Some.number i.0 (rw c.in-Some.ensures.items at i.1)).2, i.2)

pub loop-number-preserved : goal.loop-number-preserved
loop-number-preserved c =
    let i = c.loop-number.invariant in
    (c.in-Some.number, (descent_less c.args.opened.now c.pop.new.self.items c.args.at c.in-Some.number i.0 (rw c.in-Some.ensures.items at i.1)).0, c.in_ok-fan.ensures)

pub returns : goal.returns
returns c =
    let i = c.loop-number.invariant in
    let none : c.loop-number.numbers.items ≡ [] = nil_from_length c.loop-number.numbers.items (let h = c.in_default.ensures.cases in omega (arith, h)) in
    let e = rw none at i.1 in
    rw e i.2
