use Rattle.std.proofs.Common.{◌≡◌, arith, []}
use Rattle.std.proofs.lemmas.List.{nil_from_length}
use Rattle.il_core.specs.LineGraph.{IsIn}
use Rattle.flow_graph.proofs.Members.{IsIn-push}
use Rattle.flow_graph.proofs.Spreading.{marked_within, searching_step, searching_end}
use Rattle.flow_graph.proofs.searching.search.Goals as goal

pub row_at-requires : goal.row_at-requires
row_at-requires c =
    let i : IsIn c.loop-at.work.items c.in-Some.at = rw c.in-Some.ensures.items (IsIn-push c.pop.new.self.items c.in-Some.at) in
    let l = marked_within c.loop-at.marked.items c.in-Some.at (c.loop-at.invariant.queued c.in-Some.at i) in
    let s = c.loop-at.invariant.size in omega arith

pub loop-at-preserved : goal.loop-at-preserved
loop-at-preserved c =
    searching_step c.args.rows.now c.args.blocked.now c.args.seeds.now c.loop-at.marked.items c.pop.new.self.items c.in-Some.at _ _
    (rw c.in-Some.ensures.items at c.loop-at.invariant) (rw c.row_at.ensures at c.in_ok-expand-2.ensures)

pub returns-clause-exact : goal.returns-clause-exact
returns-clause-exact c =
    let none : c.loop-at.work.items ≡ [] = nil_from_length c.loop-at.work.items (let h = c.in_default.ensures.cases in omega (arith, h)) in
    rw c.from_vec.ensures (searching_end c.args.rows.now c.args.blocked.now c.args.seeds.now c.loop-at.marked.items (rw none at c.loop-at.invariant))
