use Rattle.std.proofs.Common.{◌≡◌, [], ◌∷◌, arith}
use Rattle.std.proofs.lemmas.List.{nil_from_length}
use Rattle.il_core.specs.LineGraph.{IsIn}
use Rattle.flow_graph.proofs.Members.{IsIn-push}
use Rattle.flow_graph.proofs.Spreading.{marked_within, searching_step}
use Rattle.flow_graph.proofs.Tracks.{tracking_step, tracking_end}
use Rattle.flow_graph.proofs.paths.paths_from.Goals as goal

pub row_at-row-requires : goal.row_at-row-requires
row_at-row-requires c =
    let i : IsIn c.loop-at.work.items c.in-Some.at = rw c.in-Some.ensures.items (IsIn-push c.pop.new.self.items c.in-Some.at) in
    let l = marked_within c.loop-at.marked.items c.in-Some.at (c.loop-at.invariant.searching.queued c.in-Some.at i) in
    let s = c.loop-at.invariant.searching.size in omega arith

pub lengthen-requires-clause-at : goal.lengthen-requires-clause-at
lengthen-requires-clause-at c =
    let i : IsIn c.loop-at.work.items c.in-Some.at = rw c.in-Some.ensures.items (IsIn-push c.pop.new.self.items c.in-Some.at) in
    let m = c.loop-at.invariant.searching.queued c.in-Some.at i in
    let l = marked_within c.loop-at.marked.items c.in-Some.at m in
    let s = c.loop-at.invariant.searching.size in
    let t = c.loop-at.invariant.tracking.size in
    (omega (arith, l, s, t), c.loop-at.invariant.tracking.some c.in-Some.at m)

pub loop-at-preserved : goal.loop-at-preserved
loop-at-preserved c =
    let i : IsIn c.loop-at.work.items c.in-Some.at = rw c.in-Some.ensures.items (IsIn-push c.pop.new.self.items c.in-Some.at) in
    record {
      searching =
          searching_step c.args.rows.now c.args.blocked.now (c.args.start ∷ []) c.loop-at.marked.items c.pop.new.self.items c.in-Some.at _ _
          (rw c.in-Some.ensures.items at c.loop-at.invariant.searching) (rw c.row_at-row.ensures at c.in_ok-expand-2.ensures);
      tracking =
          tracking_step c.args.rows.now c.args.blocked.now c.args.start c.loop-at.marked.items c.loop-at.paths.items c.pop.new.self.items c.in-Some.at
          c.expand-in-Some.new.marked.items c.expand-in-Some.new.work.items c.lengthen.new.paths.items c.loop-at.invariant.tracking
          (c.loop-at.invariant.searching.queued c.in-Some.at i) (rw c.row_at-row.ensures at c.in_ok-expand-2.ensures)
          (rw (c.row_at-row.ensures, c.as_slice.ensures.value) at c.in_ok-lengthen.ensures);
    }

pub returns : goal.returns
returns c =
    let none : c.loop-at.work.items ≡ [] = nil_from_length c.loop-at.work.items (let h = c.in_default.ensures.cases in omega (arith, h)) in
    rw c.from_vec.ensures
    (tracking_end c.args.rows.now c.args.blocked.now c.args.start c.loop-at.marked.items c.loop-at.paths.items (rw none at c.loop-at.invariant.searching)
    c.loop-at.invariant.tracking)
