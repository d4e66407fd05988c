use Rattle.std.proofs.Common.{subst, sym, ℕ}
use Rattle.info_flow.specs.declared.sets.Sets.{Sets}
use Rattle.info_flow.specs.Growth.{AreSettled, AreLeast}
use Rattle.info_flow.proofs.Leasts.{least_end}
use Rattle.info_flow.proofs.sets.Sets.least.Goals as goal

pub returns : goal.returns
returns g c =
    let same = c.in_ok-decide.ensures.same c.if-branch.false in
    subst (λ (v : ℕ). AreLeast c.args.graph.now v c.decide.new.self.lines.items c.decide.new.self.needs.items) (sym c.requires.1.1.1)
    (least_end c.args.graph.now g.variable c.decide.new.self.lines.items c.decide.new.self.needs.items c.requires.0 c.in_ok-decide.ensures.grown
    (subst (λ (s : Sets). AreSettled c.args.graph.now s.lines.items s.needs.items) (sym same) c.loop-sets.invariant.settled)
    (c.in_ok-decide.ensures.decided c.if-branch.false))
