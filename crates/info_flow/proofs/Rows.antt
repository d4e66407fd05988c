-- The row of a variable, from the marks and masks that hold its least closed sets.
use Rattle.std.proofs.Common.{◌≡◌, sym, subst, ℕ, Bool, true, eq-eqb, List, get_or}
use Rattle.std.specs.Prelude.{◌↔◌}
use Rattle.il_core.specs.LineGraph.{IsIn}
use Rattle.il_core.specs.declared.line.Place.{Place}
use Rattle.flow_graph.specs.declared.graph.FlowGraph.{FlowGraph}
use Rattle.flow_graph.specs.Graph.{graph_of}
use Rattle.flow_graph.specs.Reached.{IsReached, Lists}
use Rattle.flow_graph.specs.Search.{IsMarked}
use Rattle.info_flow.specs.declared.row.FlowRow.{FlowRow}
use Rattle.info_flow.specs.Relevance.{IsTest, IsClosed}
use Rattle.info_flow.specs.Growth.{HasPlace, AreLeast, IsChosen, is_relevant, is_needed}
use Rattle.info_flow.specs.Sources.{AreSources, HaveEqualValues}
use Rattle.info_flow.proofs.LineRuns.{equal_values}
use Rattle.info_flow.proofs.Leasts.{tested}
use Rattle.info_flow.proofs.Listing.{lists_same}

pub sources_of : (g : FlowGraph) (v : ℕ) (lines reached : List Bool) (masks sources tests : List ℕ) (mask : ℕ) → AreLeast g v lines masks → mask ≡ get_or masks 0 0
    → Lists (HasPlace mask) sources → ((k : ℕ) → IsMarked reached k ↔ IsReached g.arcs k) → Lists (IsChosen g reached lines) tests
    → AreSources g (record { place = v; sources = sources; tests = tests })
sources_of g v lines reached masks sources tests mask w e s r t = record {
  relevant = is_relevant lines;
  needs = is_needed masks;
  least = w.least;
  sources = lists_same (HasPlace mask) (λ p. is_needed masks 0 p ≡ true) sources (λ p. (λ h. eq-eqb _ 1 (rw e at h), λ h. rw e (tested masks 0 p h))) s;
  tests = lists_same (IsChosen g reached lines) (λ k. IsReached g.arcs k × IsTest g.nodes k × (is_relevant lines k ≡ true)) tests
      (λ k. (λ h. ((r k).0 h.0, h.1, h.2), λ h. ((r k).1 h.0, h.1, h.2))) t;
}

-- two runs that end with equal values
pub rows_agree : (g : FlowGraph) (places : List Place) (rows : List FlowRow) → ((row : FlowRow) → IsIn rows row → AreSources g row) → HaveEqualValues g places rows
rows_agree g places rows f = λ p checked e same row i s t to_s to_t d k agree.
    let a = f row i in
    let closed : IsClosed (graph_of p) row.place a.relevant a.needs = subst (λ (x : FlowGraph). IsClosed x row.place a.relevant a.needs) (sym e) a.least.closed in
    equal_values p checked row.place a.relevant a.needs closed s t to_s to_t d k (λ x h. agree x ((a.sources.exact x).1 h))
