use Rattle.std.proofs.Common.{◌≡◌, ap, ◌∙◌, ◌-◌, ◌<◌, length, arith}
use Rattle.info_flow.specs.declared.sets.Sets.{Sets}
use Rattle.info_flow.proofs.Passing.{passing_start, passing_same}
use Rattle.info_flow.proofs.sets.Sets.pass.Goals as goal

pub settle-requires : goal.settle-requires
settle-requires g c =
    let below : c.loop-line.line - 1 < length c.args.graph.now.nodes = omega (arith, c.loop-line-test.true, c.loop-line.auto.line, c.requires.1.0.size) in
    (c.requires.0, (below, (c.row_at.ensures ∙ c.requires.1.0.each (c.loop-line.line - 1), c.loop-line.invariant.grown)))

pub loop-line-init : goal.loop-line-init
loop-line-init g c = passing_start c.args.graph.now g.place _ c.args.self.now.lines.items c.args.self.now.needs.items c.requires.1.0.size c.requires.1.1

pub loop-line-preserved : goal.loop-line-preserved
loop-line-preserved g c =
    let same : c.settle.new.self ≡ c.loop-line.self = rw c.if-settle.false at c.settle.ensures.same in
    passing_same c.args.graph.now g.place _ c.loop-line.changed c.loop-line.self.lines.items c.settle.new.self.lines.items c.loop-line.self.needs.items
    c.settle.new.self.needs.items c.loop-line.line c.loop-line-test.true (ap (λ (s : Sets). s.lines.items) same) (ap (λ (s : Sets). s.needs.items) same)
    (rw c.if-settle.false at c.settle.ensures.settled) c.loop-line.invariant
