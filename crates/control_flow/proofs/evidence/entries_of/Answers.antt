use Rattle.std.proofs.Common.{refl, arith}
use Rattle.flow_graph.specs.Graph.{Joins}
use Rattle.control_flow.specs.Forward.{IsForward}
use Rattle.control_flow.proofs.Listing.{unmarked_from}
use Rattle.control_flow.proofs.Showing.{setting, cycle_along, cycle_inside, entry_path, no_other, some_entered}
use Rattle.control_flow.proofs.evidence.entries_of.Goals as goal

pub marks_of-requires : goal.marks_of-requires
marks_of-requires c = λ k i.
    let l = (cycle_inside _ c.args.graph.now.arcs c.args.cycle c.requires.formed.arcs c.requires.cycle k (rw c.as_slice.ensures at i)).0 in
    let s = c.requires.heads.size in
    omega (arith, l, s)

pub paths_from-requires-clause-start : goal.paths_from-requires-clause-start
paths_from-requires-clause-start c =
    let s = c.requires.heads.size in
    let t = c.requires.formed.some_nodes in (
      omega (arith, s, t),
      unmarked_from c.as_slice-marked.result.now 0 (λ m.
          let i = (c.in_ok-marks.ensures.exact 0).0 (rw c.as_slice-marked.ensures.value at m) in
          (cycle_inside _ c.args.graph.now.arcs c.args.cycle c.requires.formed.arcs c.requires.cycle 0 (rw c.as_slice.ensures at i)).1 refl),
    )

pub unreachable-requires : goal.unreachable-requires
unreachable-requires c =
    some_entered _ c.args.graph.now.arcs c.args.heads.now c.args.tails.now c.args.cycle c.as_slice-marked.result.now c.as_slice-found.result.now
    (setting _ c.args.graph.now.arcs c.args.heads.now c.args.tails.now c.args.cycle c.as_slice.result.now c.in_ok-marks.marks.items c.as_slice-marked.result.now
    c.in_ok-paths.paths c.as_slice-found.result.now c.requires.formed.arcs c.requires.heads c.requires.tails c.requires.cycle c.in_ok-marks.ensures.exact
    c.as_slice.ensures c.as_slice-marked.ensures.value c.in_ok-paths.ensures c.as_slice-found.ensures)
    c.in_default.ensures

pub unreachable-requires-in_default-entry_from : goal.unreachable-requires-in_default-entry_from
unreachable-requires-in_default-entry_from c =
    no_other _ c.args.graph.now.arcs c.args.heads.now c.args.tails.now c.args.cycle c.as_slice-marked.result.now c.as_slice-found.result.now
    (setting _ c.args.graph.now.arcs c.args.heads.now c.args.tails.now c.args.cycle c.as_slice.result.now c.in_ok-marks.marks.items c.as_slice-marked.result.now
    c.in_ok-paths.paths c.as_slice-found.result.now c.requires.formed.arcs c.requires.heads c.requires.tails c.requires.cycle c.in_ok-marks.ensures.exact
    c.as_slice.ensures c.as_slice-marked.ensures.value c.in_ok-paths.ensures c.as_slice-found.ensures)
    c.in-Some.first.line c.in-Some.ensures.5 c.in_default-entry_from.ensures

pub returns : goal.returns
returns c =
    let t =
    setting _ c.args.graph.now.arcs c.args.heads.now c.args.tails.now c.args.cycle c.as_slice.result.now c.in_ok-marks.marks.items c.as_slice-marked.result.now
    c.in_ok-paths.paths c.as_slice-found.result.now c.requires.formed.arcs c.requires.heads c.requires.tails c.requires.cycle c.in_ok-marks.ensures.exact
    c.as_slice.ensures c.as_slice-marked.ensures.value c.in_ok-paths.ensures c.as_slice-found.ensures in
    let e = c.in-Some.ensures in
    let f = c.in-Some-entry_from.ensures in
    rw (c.in_ok-path_to.ensures, c.in_ok-path_to-2.ensures, c.cycle.view_is)
    (record {
      is_cycle = cycle_along (IsForward c.args.graph.now.arcs) (Joins c.args.graph.now.arcs) (λ a b h. h.0) c.args.cycle c.requires.cycle;
      x = c.in-Some.first.line;
      y = c.in-Some-entry_from.second.line;
      at_x =
          entry_path _ c.args.graph.now.arcs c.args.heads.now c.args.tails.now c.args.cycle c.as_slice-marked.result.now c.as_slice-found.result.now t
          c.in-Some.first.line c.in-Some.first.tail e.2 e.3 e.4;
      at_y =
          entry_path _ c.args.graph.now.arcs c.args.heads.now c.args.tails.now c.args.cycle c.as_slice-marked.result.now c.as_slice-found.result.now t
          c.in-Some-entry_from.second.line c.in-Some-entry_from.second.tail f.2 f.3 f.4;
      differ = let l = f.0 in omega (arith, l);
    })
