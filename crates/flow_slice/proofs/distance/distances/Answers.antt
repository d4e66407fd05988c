use Rattle.std.proofs.Common.{rules, ◌≡◌, ◌<◌, ◌+◌, ◌∙◌, [], length, arith}
use Rattle.std.proofs.lemmas.List.{length-replicate, nil_from_length}
use Rattle.info_flow.specs.Growth.{is_relevant}
use Rattle.flow_slice.proofs.Layers.{layered_start, layered_on, layered_end, tails_below}
use Rattle.flow_slice.proofs.distance.distances.Goals as goal

pub loop-alloc-init : goal.loop-alloc-init
loop-alloc-init c =
    let w = rw (c.as_slice-2.ensures, c.in_ok-distances.ensures, c.new-layer.ensures.items) at c.in_ok-spread.ensures in
    record {
      size = w.size ∙ length-replicate _ _ ∙ c.len.ensures;
      layered = layered_start c.args.graph.now.arcs (is_relevant c.args.marks.now) _ c.in_ok-marked_lines.field-0 c.spread.new.distances.items c.spread.new.layer.items
          c.in_ok-marked_lines.ensures.exact w;
    }

pub next_layer-requires-clause-rows : goal.next_layer-requires-clause-rows
next_layer-requires-clause-rows c =
    tails_below c.args.graph.now c.args.before.now c.requires.formed c.requires.before.size c.requires.before.each

pub loop-alloc-preserved : goal.loop-alloc-preserved
loop-alloc-preserved c =
    let w = rw c.as_slice-in-loop-alloc.ensures.value at c.in_ok-layer.ensures in
    let some : 0 < length c.loop-alloc.layer.items = search rules in
    record {
      size = w.size ∙ c.loop-alloc.invariant.size;
      layered = layered_on c.args.graph.now.arcs (is_relevant c.args.marks.now) c.args.before.now c.loop-alloc.distance (c.loop-alloc.distance + 1) c.loop-alloc.distances.items _
          c.loop-alloc.layer.items _ c.requires.before.each some (omega arith) c.loop-alloc.invariant.layered w;
    }

pub returns : goal.returns
returns c =
    let none : c.loop-alloc.layer.items ≡ [] = nil_from_length c.loop-alloc.layer.items (search rules) in
    layered_end c.args.graph.now.arcs (is_relevant c.args.marks.now) c.loop-alloc.distance _ c.loop-alloc.distances.items (rw none at c.loop-alloc.invariant.layered) c.loop-alloc.invariant.size
