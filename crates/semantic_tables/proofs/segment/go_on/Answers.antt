use Rattle.std.proofs.Common.{◌≡◌, sym, ◌∙◌, subst, suc, ◌-◌, arith}
use Rattle.std.proofs.lemmas.Option.{slice_get_within}
use Rattle.il_core.specs.declared.line.Next.TheVariants as next
use Rattle.semantic_tables.specs.Walk.{explored_procedure, is_long, behind, lines_left, GoesOn}
use Rattle.semantic_tables.specs.declared.segment.Segment.{Segment}
use Rattle.semantic_tables.specs.declared.segment.Segment.TheVariants.{Region, Leading}
use Rattle.semantic_tables.specs.declared.segment.Onward.TheVariants.{Stops, On}
use Rattle.il_core.specs.declared.line.Stop.TheVariants as stop
use Rattle.semantic_tables.proofs.Segments.{goes_as, few_left, at_loop, at_head, at_end, at_line_on}
use Rattle.semantic_tables.proofs.segment.go_on.Goals as goal

pub lead-requires-clause-segment : goal.lead-requires-clause-segment
lead-requires-clause-segment c = let k = c.in-Some.ensures in slice_get_within c.args.exploration.loops.now c.in-Some.at k.0 k.1

pub returns-then-is_long : goal.returns-then-is_long
returns-then-is_long c =
    let k = c.in-Some.ensures in
    subst (λ (x : Segment). GoesOn c.args.exploration (lines_left c.args.exploration.loops.now x) (behind (explored_procedure c.args.exploration) c.args.exploration.loops.now (is_long c.args.exploration.query) x (next.At c.args.line)) c.lead.result) (sym c.in-Region.is)
    (goes_as c.args.exploration (lines_left c.args.exploration.loops.now (Leading c.in-Some.at 0)) (lines_left c.args.exploration.loops.now (Region c.in-Region.room))
    (behind (explored_procedure c.args.exploration) c.args.exploration.loops.now (is_long c.args.exploration.query) (Leading c.in-Some.at 0) (next.At c.args.line))
    (behind (explored_procedure c.args.exploration) c.args.exploration.loops.now (is_long c.args.exploration.query) (Region c.in-Region.room) (next.At c.args.line)) c.lead.result
    (few_left c.args.exploration.loops.now c.in-Some.at c.in-Region.room)
    (at_loop (explored_procedure c.args.exploration) c.args.exploration.loops.now (is_long c.args.exploration.query) c.in-Region.room c.in-Some.at c.args.line k.0 (sym c.is_long.ensures ∙ c.if-is_long.true) k.1 k.2 k.3 k.4)
    (c.lead.ensures c.args.line))

pub returns-else-is_long : goal.returns-else-is_long
returns-else-is_long c =
    let k = c.in-Some.ensures in
    subst (λ (x : Segment). GoesOn c.args.exploration (lines_left c.args.exploration.loops.now x) (behind (explored_procedure c.args.exploration) c.args.exploration.loops.now (is_long c.args.exploration.query) x (next.At c.args.line)) (Stops (stop.Head c.args.line))) (sym c.in-Region.is)
    (at_head (explored_procedure c.args.exploration) c.args.exploration.loops.now (is_long c.args.exploration.query) c.in-Region.room c.args.line (sym c.is_long.ensures ∙ c.if-is_long.false) k.2)

pub returns-then-room-eq0 : goal.returns-then-room-eq0
returns-then-room-eq0 c =
    subst (λ (x : Segment). GoesOn c.args.exploration (lines_left c.args.exploration.loops.now x) (behind (explored_procedure c.args.exploration) c.args.exploration.loops.now (is_long c.args.exploration.query) x (next.At c.args.line)) (Stops (stop.Head c.args.line))) (sym c.in-Region.is)
    (at_end (explored_procedure c.args.exploration) c.args.exploration.loops.now (is_long c.args.exploration.query) c.in-Region.room c.args.line c.in-None.ensures c.if-room-eq0.true)

pub returns-else-room-eq0 : goal.returns-else-room-eq0
returns-else-room-eq0 c =
    let some = c.if-room-eq0.false in
    let longer : c.in-Region.room ≡ suc (c.in-Region.room - 1) = omega (arith, some) in
    subst (λ (x : Segment). GoesOn c.args.exploration (lines_left c.args.exploration.loops.now x) (behind (explored_procedure c.args.exploration) c.args.exploration.loops.now (is_long c.args.exploration.query) x (next.At c.args.line)) (On c.args.first (Region (c.in-Region.room - 1)))) (sym c.in-Region.is)
    (at_line_on c.args.exploration c.in-Region.room (c.in-Region.room - 1) c.args.line c.args.first c.requires.exploration c.in-None.ensures longer c.requires.first)

pub returns-in-Leading : goal.returns-in-Leading
returns-in-Leading c =
    subst (λ (x : Segment). GoesOn c.args.exploration (lines_left c.args.exploration.loops.now x) (behind (explored_procedure c.args.exploration) c.args.exploration.loops.now (is_long c.args.exploration.query) x (next.At c.args.line)) c.lead-in-Leading.result) (sym c.in-Leading.is)
    (c.lead-in-Leading.ensures c.args.line)
