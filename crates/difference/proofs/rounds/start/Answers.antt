-- One range more begins one unknown more; all of them make a board.
use Rattle.std.proofs.Common.{arith, rules, SFits, w64, ◌≡◌, ◌∙◌, ◌++◌, ◌∷◌, [], ℕ, Bool, true, List, replicate, ap, length}
use Rattle.std.proofs.lemmas.Int.{to_z-of_z}
use Rattle.std.proofs.lemmas.List.{replicate_more}
use Rattle.difference.proofs.Settling.{begun-push, begun-kept}
use Rattle.difference.proofs.Sweeps.{ready-start}
use Rattle.difference.proofs.rounds.start.Goals as goal

pub loop-node-preserved : goal.loop-node-preserved
loop-node-preserved c =
    let fits : SFits w64 c.range_at-range.result.least = search rules in
    rw (c.in_ok-push.ensures.items, c.in_ok-push-2.ensures.items, c.in_ok-push-3.ensures.items) (record {
      begun = begun-push c.args.ranges.now c.args.constraints.now c.loop-node.values.items c.loop-node.chains.items c.loop-node.node c.range_at-range.result
          _ c.in_ok-first_chain.field-0 c.loop-node.invariant.begun c.range_at-range.ensures (to_z-of_z w64 c.range_at-range.result.least fits) c.in_ok-first_chain.ensures;
      pending = rw c.loop-node.invariant.pending (replicate_more c.loop-node.node true);
    })

pub returns : goal.returns
returns c =
    let e : c.loop-node.node ≡ length c.args.ranges.now = omega arith in
    ready-start c.args.ranges.now c.args.constraints.now (length c.args.constraints.now) _
    (begun-kept c.args.ranges.now c.args.constraints.now c.loop-node.values.items c.loop-node.chains.items c.requires (rw (← e) c.loop-node.invariant.begun))
    (c.in_ok-push-4.ensures.items ∙ (ap (λ (l : List Bool). l ++ true ∷ []) (c.loop-node.invariant.pending ∙ ap (λ (n : ℕ). replicate n true) e) ∙ replicate_more (length c.args.ranges.now) true))
