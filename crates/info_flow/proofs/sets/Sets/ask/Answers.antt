use Rattle.std.proofs.Common.{◌≤◌, refl, length, arith}
use Rattle.info_flow.proofs.Deciding.{choosing_more}
use Rattle.info_flow.proofs.sets.Sets.ask.Goals as goal

pub loop-line-preserved-then-branch : goal.loop-line-preserved-then-branch
loop-line-preserved-then-branch g c =
    let below : c.loop-line.line ≤ length c.args.graph.now.nodes = omega (arith, c.loop-line.auto.line, c.len-line.ensures) in
    choosing_more c.args.graph.now g.place c.args.asked.now c.args.self.now c.loop-line.changed c.loop-line.self _ c.loop-line.line c.loop-line-test.true below
    (c.in_ok-decides.ensures.deciding c.if-branch.true) (c.in_ok-decides.ensures.unmarked c.if-branch.true) refl refl c.loop-line.invariant
