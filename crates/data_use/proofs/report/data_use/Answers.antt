use Rattle.std.proofs.Common.{◌≡◌, ◌∙◌, ◌+◌, ◌-◌, ap, length, map, arith, rules}
use Rattle.data_use.specs.Facts.{place_of}
use Rattle.data_use.proofs.Telling.{full-order, rest-low, places-all, places-more, facts-more}
use Rattle.data_use.proofs.report.data_use.Goals as goal

pub plan_of-requires-clause-order : goal.plan_of-requires-clause-order
plan_of-requires-clause-order c =
    let size : c.len.result - 1 + 1 ≡ length c.args.graph.now.nodes = omega (arith, c.len.ensures, c.requires.formed.some_nodes) in
    full-order c.args.graph.now c.args.order.now c.in_ok-full.full.items c.as_slice-3.result.now (c.len.result - 1) c.requires.order size c.in_ok-full.ensures
    c.as_slice-3.ensures.value

pub returns-clause-places : goal.returns-clause-places
returns-clause-places c =
    let none : length c.loop-rest.rest.now ≡ 0 = search rules in
    ap (map place_of) c.from_vec.ensures ∙ places-all (map place_of c.loop-rest.rows.items) c.loop-rest.rest.now _ none c.loop-rest.invariant.places

pub add_group-requires-clause-low : goal.add_group-requires-clause-low
add_group-requires-clause-low c =
    rest-low c.args.places.now (map place_of c.loop-rest.rows.items) c.loop-rest.rest.now c.split_at.result.0.now c.split_at.result.1.now c.requires.placed.few c.loop-rest.invariant.places
    c.split_at.ensures.by_index.0

pub loop-rest-preserved : goal.loop-rest-preserved
loop-rest-preserved c =
    record {
      places = places-more c.args.graph.now c.split_at.result.0.now c.split_at.result.1.now c.loop-rest.rest.now _ c.loop-rest.rows.items c.add_group.new.rows.items
          c.in_ok-add_group.ensures c.split_at.ensures.by_index.0 c.loop-rest.invariant.places;
      facts = facts-more c.args.graph.now c.split_at.result.0.now c.loop-rest.rows.items c.add_group.new.rows.items c.in_ok-add_group.ensures c.loop-rest.invariant.facts;
    }
