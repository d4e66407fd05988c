use Rattle.std.proofs.Common.{arith, below_more}
use Rattle.control_flow.specs.Forward.{ComesBack}
use Rattle.control_flow.proofs.ComingBack.{none_closed}
use Rattle.control_flow.proofs.OneEntry.{reducible_from}
use Rattle.control_flow.proofs.Ways.{heads_inside}
use Rattle.control_flow.proofs.shaping.forward_cycle.Goals as goal

pub loop-line-preserved : goal.loop-line-preserved
loop-line-preserved c = below_more (λ m. ComesBack c.args.forward.now m → ⊥) _ c.loop-line.invariant
    (λ b. let h = c.in_ok-comes_back.ensures.1 b in let n = c.if-branch.false in absurd (cc))

pub returns : goal.returns
returns c =
    reducible_from _ c.args.graph.now.arcs c.args.forward.now c.requires.forward
    (none_closed _ _ c.args.forward.now c.requires.forward (λ a b f. heads_inside _ c.args.graph.now.arcs c.requires.formed.arcs a b f.0)
    (λ m l. c.loop-line.invariant m (let s = c.requires.forward.size in let e = c.loop-line-test.false in omega (arith, l, s, e))))
