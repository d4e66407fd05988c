use Rattle.std.proofs.Common.{ℕ, get_or, arith}
use Rattle.flow_graph.proofs.Members.{IsIn-get_or}
use Rattle.interval_reduce.specs.Choice.{IsFitting}
use Rattle.interval_reduce.proofs.Choosing.{least_without, least_above, least_new, least_end}
use Rattle.interval_reduce.proofs.choice.least_fitting.Goals as goal
use Rattle.interval_reduce.proofs.choice.least_fitting.Goals.{then-is_less+then-are_marked, else-is_less, else-is_less-via-then-is_less+else-are_marked, else-is_less-via-else-is_less}

pub row_at-requires : goal.row_at-requires
row_at-requires c = c.requires.border _ (IsIn-get_or c.args.border.now c.loop-node.node-index 0 c.loop-node-test.true)

pub are_marked-requires : goal.are_marked-requires
are_marked-requires c = λ k i.
    let b = c.requires.rows (get_or c.args.border.now c.loop-node.node-index 0) k (rw c.row_at.ensures at i) in
    let t = c.requires.inside in omega arith

pub loop-node-preserved : goal.loop-node-preserved
loop-node-preserved c =
    let P : ℕ → Type 0 = IsFitting c.args.border.now c.args.preds.now c.args.inside.now in
    let xs = c.args.border.now in
    let i = c.loop-node.node-index in
    let l = c.loop-node-test.true in
    elim c.if-is_less.branch [
      | then-is_less+then-are_marked w ↦
          rw w.least-is (least_new P xs i 0 c.loop-node.least l (c.is_less.ensures.0 w.if-is_less.true)
          (IsIn-get_or xs i 0 l, rw w.row_at.ensures at (w.are_marked.ensures.0 w.if-are_marked.true)) c.loop-node.invariant)
      | else-is_less w ↦ rw w.least-is (elim w.else-is_less.branch [
        | else-is_less-via-then-is_less+else-are_marked w' ↦
            least_without P xs i 0 c.loop-node.least l (λ p. let r = w'.are_marked.ensures.1 (rw w'.row_at.ensures p.1) in cc) c.loop-node.invariant
        | else-is_less-via-else-is_less w' ↦ least_above P xs i 0 c.loop-node.least l (λ b. let r = c.is_less.ensures.1 b in cc) c.loop-node.invariant
      ])
    ]

pub returns : goal.returns
returns c =
    least_end (IsFitting c.args.border.now c.args.preds.now c.args.inside.now) c.args.border.now c.loop-node.node-index c.loop-node.least
    c.loop-node-test.false (λ v p. p.0) c.loop-node.invariant
