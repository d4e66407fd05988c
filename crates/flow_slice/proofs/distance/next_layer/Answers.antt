use Rattle.std.proofs.Common.{◌≡◌, sym, subst, ◌∙◌, ℕ, length, get_or}
use Rattle.flow_graph.specs.Search.{AreBelow}
use Rattle.flow_graph.proofs.Members.{IsIn-get_or}
use Rattle.flow_slice.proofs.Layers.{behind_start, behind_more}
use Rattle.flow_slice.proofs.distance.next_layer.Goals as goal

pub row_at-requires : goal.row_at-requires
row_at-requires c = c.requires.layer _ (IsIn-get_or c.args.layer.now c.loop-line.line-index 0 c.loop-line-test.true)

pub loop-line-init : goal.loop-line-init
loop-line-init c = rw c.new-next.ensures.items (behind_start _ _ _)

pub spread-requires : goal.spread-requires
spread-requires c =
    let size : length c.args.rows.now ≡ length c.loop-line.distances.items = sym (c.loop-line.invariant.size ∙ c.requires.size) in
    subst (λ (n : ℕ). AreBelow n c.row_at.result.now) size (rw c.row_at.ensures (c.requires.rows (get_or c.args.layer.now c.loop-line.line-index 0)))

pub loop-line-preserved : goal.loop-line-preserved
loop-line-preserved c =
    behind_more c.args.rows.now c.args.layer.now c.loop-line.line-index 0 c.args.distance c.args.distances.now.items c.loop-line.distances.items _ c.loop-line.next.items _
    c.loop-line-test.true c.loop-line.invariant (rw c.row_at.ensures at c.in_ok-spread.ensures)
