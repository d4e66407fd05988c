use Rattle.std.proofs.Common.{sym, ap, ◌∙◌, ◌<◌, ◌≤◌, ◌++◌, ◌∷◌, ℕ, List, [], length, take, get_or, subst, not, arith}
use Rattle.std.proofs.lemmas.List.{get_or_read, take_all}
use Rattle.regular_algebra.specs.Rows.{IsRising, node_at}
use Rattle.regular_algebra.specs.Cells.{is_gone}
use Rattle.regular_algebra.specs.declared.row.Item.{Item}
use Rattle.regular_algebra.proofs.Sizes.{board-stands}
use Rattle.regular_algebra.proofs.Leaving.{live_nodes, live-more, live-passed, live-rise, live-all}
use Rattle.regular_algebra.proofs.board.Board.leaving.Goals as goal
use Rattle.regular_algebra.proofs.board.Board.leaving.Goals.{then-is_live+in_ok-push, else-is_live}

pub loop-item-preserved : goal.loop-item-preserved
loop-item-preserved c =
    let b = c.args.self.now in
    let below : c.args.p < length b.rows.items = omega (arith, c.requires, b.has_rows, b.rows.ok) in
    let row = c.items-item-items.ensures.all ∙ get_or_read b.rows.items c.args.p c.index.result.now below c.index.ensures [] in
    let node = ap (λ (r : List Item). node_at r c.loop-item.item-index) row in
    let within : c.loop-item.item-index < length (get_or b.rows.items c.args.p []) = omega (arith, c.loop-item-test.true, ap (λ (r : List Item). length r) row) in
    elim c.if-is_live.branch [
      | then-is_live+in_ok-push w ↦
          live-more b.gone.items (get_or b.rows.items c.args.p []) c.loop-item.item-index c.if-is_live.nodes.items within
          (sym (c.is_live.ensures ∙ ap (λ k. not (is_gone b.gone.items k)) node) ∙ w.if-is_live.true)
          (ap (λ v. v.items) w.nodes-is ∙ w.in_ok-push.ensures.items ∙ ap (λ (l : List ℕ). l ++ node_at c.items-item-items.result.now c.loop-item.item-index ∷ []) c.loop-item.invariant
          ∙ ap (λ k. live_nodes b.gone.items (take c.loop-item.item-index (get_or b.rows.items c.args.p [])) ++ k ∷ []) node)
      | else-is_live w ↦
          live-passed b.gone.items (get_or b.rows.items c.args.p []) c.loop-item.item-index c.if-is_live.nodes.items within
          (sym (c.is_live.ensures ∙ ap (λ k. not (is_gone b.gone.items k)) node) ∙ w.if-is_live.false)
          (ap (λ v. v.items) w.nodes-is ∙ c.loop-item.invariant)
    ]

pub returns : goal.returns
returns c =
    let b = c.args.self.now in
    let below : c.args.p < length b.rows.items = omega (arith, c.requires, b.has_rows, b.rows.ok) in
    let read = get_or_read b.rows.items c.args.p c.index.result.now below c.index.ensures [] in
    let row = c.items-item-items.ensures.all ∙ read in
    let past : length (get_or b.rows.items c.args.p []) ≤ c.loop-item.item-index = omega (arith, c.loop-item-test.false, ap (λ (r : List Item). length r) row) in
    let all = c.loop-item.invariant ∙ ap (live_nodes b.gone.items) (take_all c.loop-item.item-index (get_or b.rows.items c.args.p []) past) in
    rw all (record {
      rising = live-rise b.gone.items (get_or b.rows.items c.args.p []) (subst IsRising read c.items-item-items.ensures.rising);
      all = λ k v e. let s = board-stands b c.args.p k v (sym e) in live-all b.gone.items (get_or b.rows.items c.args.p []) k v s.column s.value;
    })
