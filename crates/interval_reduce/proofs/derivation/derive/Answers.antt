use Rattle.std.proofs.Common.{◌≡◌, refl, ap, ◌+◌, ◌-◌, length, arith}
use Rattle.interval_reduce.specs.Derivation.{order_of}
use Rattle.interval_reduce.proofs.Descending.{first_spread, levels_of_graph}
use Rattle.interval_reduce.proofs.ReductionGraph.{reduces}
use Rattle.interval_reduce.proofs.derivation.derive.Goals as goal
use Rattle.interval_reduce.proofs.derivation.derive.Goals.{in-Reducible+in_ok-order-in-Reducible, in-TwoEntries}

pub levels_from-requires : goal.levels_from-requires
levels_from-requires c = rw c.len-count.ensures (first_spread c.args.graph.now c.in_ok-first_arcs.field-0 c.requires.formed c.in_ok-first_arcs.ensures)

pub returns-clause-derived : goal.returns-clause-derived
returns-clause-derived c = record {
  levels = levels_of_graph c.args.graph.now c.in_ok-first_arcs.field-0 c.in_ok-levels.levels c.requires.formed c.in_ok-first_arcs.ensures c.in_ok-levels.ensures;
  order = elim c.match-control.branch [
    | in-Reducible+in_ok-order-in-Reducible w ↦
        let n : (c.len-count.result - 1) + 1 ≡ length c.args.graph.now.nodes = let s = c.requires.formed.some_nodes in omega (arith, c.len-count.ensures, s) in
        rw (w.order-is, w.in_ok-order-in-Reducible.ensures, w.as_slice.ensures, w.in-Reducible.is) (ap (λ k. order_of k c.in_ok-levels.levels) n)
    | in-TwoEntries w ↦ rw (w.order-is, w.new-order.ensures, w.in-TwoEntries.is) refl
  ];
}

pub returns-clause-reduces : goal.returns-clause-reduces
returns-clause-reduces c = reduces c.args.graph.now c.args.control.now.shape _ c.requires.formed c.requires.control.shape (returns-clause-derived c)
