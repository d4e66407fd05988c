use Rattle.std.proofs.Common.{ℕ, arith}
use Rattle.std.specs.Prelude.{◌↔◌}
use Rattle.flow_graph.specs.Graph.{Joins}
use Rattle.flow_graph.specs.Search.{Reaches}
use Rattle.interval_reduce.specs.Level.{IsLevel, IsLastLevel, NextArc}
use Rattle.interval_reduce.proofs.Descending.{descending_start, descending_on, members_below, fewer_left, left_after}
use Rattle.interval_reduce.proofs.levels.levels_from.Goals as goal

pub level_of-requires : goal.level_of-requires
level_of-requires c = rw c.as_slice.ensures c.loop-arcs.invariant.spread

pub next_arcs-requires : goal.next_arcs-requires
next_arcs-requires c =
    let level : IsLevel (Reaches (Joins c.loop-arcs.arcs) 0) (Joins c.loop-arcs.arcs) c.in_ok-intervals.intervals = rw c.as_slice.ensures at c.in_ok-intervals.ensures in
    record {
      arcs = rw c.as_slice-in-loop-arcs-2.ensures c.loop-arcs.invariant.spread.below;
      members = rw c.as_slice-in-loop-arcs-3.ensures (members_below c.args.count c.loop-arcs.arcs c.in_ok-intervals.intervals c.loop-arcs.invariant.spread level);
    }

pub loop-arcs-init : goal.loop-arcs-init
loop-arcs-init c = descending_start c.args.count c.args.first c.new-levels.result c.requires c.new-levels.ensures

pub loop-arcs-smaller : goal.loop-arcs-smaller
loop-arcs-smaller c =
    let level : IsLevel (Reaches (Joins c.loop-arcs.arcs) 0) (Joins c.loop-arcs.arcs) c.in_ok-intervals.intervals = rw c.as_slice.ensures at c.in_ok-intervals.ensures in
    let last : IsLastLevel c.in_ok-intervals.intervals → ⊥ = λ h. let r = c.is_last.ensures.1 (rw c.as_slice-in-loop-arcs.ensures h) in cc in
    let l = fewer_left c.args.count c.args.first c.loop-arcs.arcs c.loop-arcs.levels c.in_ok-intervals.intervals c.loop-arcs.invariant level last in
    let e = left_after c.args.count c.loop-arcs.levels c.push-in-loop-arcs.new.self c.in_ok-intervals.intervals c.in_ok-push-2.ensures.ok in
    omega (arith, e, l)

pub loop-arcs-preserved : goal.loop-arcs-preserved
loop-arcs-preserved c =
    let level : IsLevel (Reaches (Joins c.loop-arcs.arcs) 0) (Joins c.loop-arcs.arcs) c.in_ok-intervals.intervals = rw c.as_slice.ensures at c.in_ok-intervals.ensures in
    let last : IsLastLevel c.in_ok-intervals.intervals → ⊥ = λ h. let r = c.is_last.ensures.1 (rw c.as_slice-in-loop-arcs.ensures h) in cc in
    let arcs : (a b : ℕ) → Joins c.in_ok-arcs.arcs a b ↔ NextArc (Joins c.loop-arcs.arcs) c.in_ok-intervals.intervals a b
    = rw (c.as_slice-in-loop-arcs-2.ensures, c.as_slice-in-loop-arcs-3.ensures) at c.in_ok-arcs.ensures in
    descending_on c.args.count c.args.first c.loop-arcs.arcs c.in_ok-arcs.arcs c.loop-arcs.levels _ c.in_ok-intervals.intervals level last arcs c.in_ok-push-2.ensures.ok
    c.loop-arcs.invariant
