use Rattle.std.proofs.Common.{ℕ}
use Rattle.il_core.specs.LineGraph.{IsIn}
use Rattle.flow_graph.proofs.Members.{IsIn-get_or}
use Rattle.interval_reduce.proofs.Choosing.{least_above, least_new, least_end}
use Rattle.interval_reduce.proofs.choice.least_of.Goals as goal
use Rattle.interval_reduce.proofs.choice.least_of.Goals.{then-is_less, else-is_less}

pub loop-node-preserved : goal.loop-node-preserved
loop-node-preserved c =
    let P : ℕ → Type 0 = IsIn c.args.border.now in
    let xs = c.args.border.now in
    let i = c.loop-node.node-index in
    let l = c.loop-node-test.true in
    elim c.if-is_less.branch [
      | then-is_less w ↦ rw w.least-is (least_new P xs i 0 c.loop-node.least l (c.is_less.ensures.0 w.if-is_less.true) (IsIn-get_or xs i 0 l) c.loop-node.invariant)
      | else-is_less w ↦ rw w.least-is (least_above P xs i 0 c.loop-node.least l (λ b. let r = c.is_less.ensures.1 b in cc) c.loop-node.invariant)
    ]

pub returns : goal.returns
returns c = least_end (IsIn c.args.border.now) c.args.border.now c.loop-node.node-index c.loop-node.least c.loop-node-test.false (λ v p. p) c.loop-node.invariant
