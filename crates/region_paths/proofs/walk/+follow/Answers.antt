use Rattle.std.proofs.Common.{◌≡◌, refl, ◌-◌, suc, sym, ap, ◌∙◌, subst, ℕ, ◌+◌, ◌*◌, ◌<◌, Some, None, List, map, length, slice_get, arith}
use Rattle.std.specs.Prelude.{All, slice_set}
use Rattle.std.proofs.lemmas.List.{length-set}
use Rattle.std.proofs.lemmas.Option.{slice_get_within}
use Rattle.il_core.specs.Checked.{procedure_of}
use Rattle.sym_terms.specs.Tree.{tree_of}
use Rattle.sym_terms.specs.Comparison.{comparison_of, comparison_under}
use Rattle.sym_terms.specs.Measure.{measured, IsCapped}
use Rattle.sym_terms.specs.declared.measuring.TermMeasure.{TermMeasure}
use Rattle.test_graph.specs.Decision.{Change, decision_at}
use Rattle.test_graph.specs.Way.{changed}
use Rattle.test_graph.specs.declared.graph.TestNode.TheVariants.{Test, Assign, AtLine, Stop}
use Rattle.region_paths.specs.PathTree.{PathTree, passed, leading_tree}
use Rattle.region_paths.specs.Tally.{IsGrown, outcome, comparison_measured, tallied}
use Rattle.il_core.specs.LineGraph.{IsIn}
use Rattle.region_paths.specs.Region.{leading_of}
use Rattle.region_paths.proofs.Nodes.{node_there, at_line}
use Rattle.region_paths.proofs.Walking.{on_true, is_some, is_none, test_none, test_some, measured_changed, assign_exact, line_exact, stop_exact, stands_met, stands_unmet, compared_places, stands_then, assigned_places, line_less_at, put_back, beyond, at_head, no_room, more_room, same_below, stands_first, in_at, line_unfolds}
use Rattle.region_paths.proofs.LoopHeads.{loop_told}
use Rattle.region_paths.proofs.walk.+follow.Goals as goal

pub follow-requires : goal.follow-requires
follow-requires t c =
    let v = c.in-Some-Test.ensures.value in
    let node : slice_get c.args.graph.now.nodes c.args.id ≡ Some (Test c.in-Some-Test.literal c.in-Some-Test.met c.in-Some-Test.unmet) = cc (v, c.in-Some-Test.field-0-is) in
    let stands = stands_met (procedure_of c.args.proc.now) c.args.graph.now c.args.id c.in-Some-Test.literal c.in-Some-Test.met c.in-Some-Test.unmet c.requires.lowered node c.requires.stands in
    let less = (c.requires.lowered.falls c.args.id _ node).0 in
    (omega (arith, less, c.decreases), (c.requires.checked, (c.requires.lowered, (stands, (c.requires.leading, (c.requires.heads, (c.requires.size, (c.requires.capped, c.requires.tally))))))))

pub follow-requires-in-Some-Test : goal.follow-requires-in-Some-Test
follow-requires-in-Some-Test t c =
    let v = c.in-Some-Test.ensures.value in
    let node : slice_get c.args.graph.now.nodes c.args.id ≡ Some (Test c.in-Some-Test.literal c.in-Some-Test.met c.in-Some-Test.unmet) = cc (v, c.in-Some-Test.field-0-is) in
    let stands = stands_unmet (procedure_of c.args.proc.now) c.args.graph.now c.args.id c.in-Some-Test.literal c.in-Some-Test.met c.in-Some-Test.unmet c.requires.lowered node c.requires.stands in
    let less = (c.requires.lowered.falls c.args.id _ node).1 in
    let same = c.follow.ensures.env in
    (omega (arith, less, c.decreases), (c.requires.checked, (c.requires.lowered, (stands, (c.requires.leading, (c.requires.heads, (ap length same ∙ c.requires.size, (subst (All IsCapped) (sym same) c.requires.capped, (on_true c.follow.result (IsGrown c.args.tally.now c.follow.new.tally) c.if-not-follow.false c.follow.ensures.grown).sound))))))))

pub comparison_measure-requires-clause-places : goal.comparison_measure-requires-clause-places
comparison_measure-requires-clause-places t c =
    let v = c.in-Some-Test.ensures.value in
    let node : slice_get c.args.graph.now.nodes c.args.id ≡ Some (Test c.in-Some-Test.literal c.in-Some-Test.met c.in-Some-Test.unmet) = cc (v, c.in-Some-Test.field-0-is) in
    let k = compared_places (procedure_of c.args.proc.now) c.args.graph.now c.args.id c.in-Some-Test.literal c.in-Some-Test.met c.in-Some-Test.unmet c.requires.lowered node c.requires.stands in
    let size : length c.follow-in-Some-Test.new.env ≡ length c.args.proc.now.places =
    ap length c.follow-in-Some-Test.ensures.env ∙ ap length c.follow.ensures.env ∙ c.requires.size in
    rw size k

pub measure-size-requires-clause-places : goal.measure-size-requires-clause-places
measure-size-requires-clause-places t c =
    let v = c.in-Some-Assign.ensures.value in
    let node : slice_get c.args.graph.now.nodes c.args.id ≡ Some (Assign c.in-Some-Assign.place c.in-Some-Assign.term c.in-Some-Assign.then) = cc (v, c.in-Some-Assign.field-0-is) in
    let k = assigned_places (procedure_of c.args.proc.now) c.args.graph.now c.args.id c.in-Some-Assign.place c.in-Some-Assign.term c.in-Some-Assign.then c.requires.lowered node c.requires.stands in
    rw c.requires.size k.1

pub exchange-was-requires-clause-place : goal.exchange-was-requires-clause-place
exchange-was-requires-clause-place t c =
    let v = c.in-Some-Assign.ensures.value in
    let node : slice_get c.args.graph.now.nodes c.args.id ≡ Some (Assign c.in-Some-Assign.place c.in-Some-Assign.term c.in-Some-Assign.then) = cc (v, c.in-Some-Assign.field-0-is) in
    let k = assigned_places (procedure_of c.args.proc.now) c.args.graph.now c.args.id c.in-Some-Assign.place c.in-Some-Assign.term c.in-Some-Assign.then c.requires.lowered node c.requires.stands in
    omega (arith, k.0, c.requires.size)

pub follow-within-requires : goal.follow-within-requires
follow-within-requires t c =
    let v = c.in-Some-Assign.ensures.value in
    let node : slice_get c.args.graph.now.nodes c.args.id ≡ Some (Assign c.in-Some-Assign.place c.in-Some-Assign.term c.in-Some-Assign.then) = cc (v, c.in-Some-Assign.field-0-is) in
    let stands = stands_then (procedure_of c.args.proc.now) c.args.graph.now c.args.id c.in-Some-Assign.place c.in-Some-Assign.term c.in-Some-Assign.then c.requires.lowered node c.requires.stands in
    let less = c.requires.lowered.falls c.args.id _ node in
    let size : length c.exchange-was.new.env ≡ length c.args.proc.now.places =
    ap length c.exchange-was.ensures.after ∙ length-set c.args.env.now c.in-Some-Assign.place c.measure-size.result ∙ c.requires.size in
    (omega (arith, less, c.decreases), (c.requires.checked, (c.requires.lowered, (stands, (c.requires.leading, (c.requires.heads, (size, (c.exchange-was.ensures.sound, c.requires.tally))))))))

pub exchange-requires-clause-place : goal.exchange-requires-clause-place
exchange-requires-clause-place t c =
    let v = c.in-Some-Assign.ensures.value in
    let node : slice_get c.args.graph.now.nodes c.args.id ≡ Some (Assign c.in-Some-Assign.place c.in-Some-Assign.term c.in-Some-Assign.then) = cc (v, c.in-Some-Assign.field-0-is) in
    let k = assigned_places (procedure_of c.args.proc.now) c.args.graph.now c.args.id c.in-Some-Assign.place c.in-Some-Assign.term c.in-Some-Assign.then c.requires.lowered node c.requires.stands in
    let size : length c.follow-within.new.env ≡ length c.args.proc.now.places =
    ap length c.follow-within.ensures.env ∙ ap length c.exchange-was.ensures.after ∙ length-set c.args.env.now c.in-Some-Assign.place c.measure-size.result ∙ c.requires.size in
    omega (arith, k.0, size)

pub unreachable-requires : goal.unreachable-requires
unreachable-requires t c =
    let s = c.requires.stands in
    let k = node_there (procedure_of c.args.proc.now) c.args.graph.now c.args.id s.decision c.requires.lowered s.unfolds in
    let v : None ≡ slice_get c.args.graph.now.nodes c.args.id = c.in-None.ensures.value in
    let w = k.1 in
    absurd (cc)

pub returns-else-not-follow-2-clause-exact : goal.returns-else-not-follow-2-clause-exact
returns-else-not-follow-2-clause-exact t c =
    λ terms d e u.
    let v = c.in-Some-Test.ensures.value in
    let node : slice_get c.args.graph.now.nodes c.args.id ≡ Some (Test c.in-Some-Test.literal c.in-Some-Test.met c.in-Some-Test.unmet) = cc (v, c.in-Some-Test.field-0-is) in
    let again : map measured terms ≡ c.follow.new.env = e ∙ sym c.follow.ensures.env in
    let last : map measured terms ≡ c.follow-in-Some-Test.new.env = again ∙ sym c.follow-in-Some-Test.ensures.env in
    ap Some c.meet.ensures.exact
    ∙ test_some (procedure_of c.args.proc.now) c.args.graph.now (beyond (procedure_of c.args.proc.now) c.args.loops.now c.args.room) c.args.id c.in-Some-Test.literal c.in-Some-Test.met c.in-Some-Test.unmet d terms c.args.tally.now c.follow.new.tally
    (Some c.follow-in-Some-Test.new.tally) c.comparison_measure.result c.requires.lowered node u (λ x k. is_some c.follow.result c.follow.new.tally _ c.if-not-follow.false (c.follow.ensures.exact terms x e k))
    (λ x k. is_some c.follow-in-Some-Test.result c.follow-in-Some-Test.new.tally _ c.if-not-follow-2.false (c.follow-in-Some-Test.ensures.exact terms x again k)) (c.comparison_measure.ensures.exact terms last)

pub returns-then-not-follow-2-clause-exact : goal.returns-then-not-follow-2-clause-exact
returns-then-not-follow-2-clause-exact t c =
    λ terms d e u.
    let v = c.in-Some-Test.ensures.value in
    let node : slice_get c.args.graph.now.nodes c.args.id ≡ Some (Test c.in-Some-Test.literal c.in-Some-Test.met c.in-Some-Test.unmet) = cc (v, c.in-Some-Test.field-0-is) in
    let again : map measured terms ≡ c.follow.new.env = e ∙ sym c.follow.ensures.env in
    test_some (procedure_of c.args.proc.now) c.args.graph.now (beyond (procedure_of c.args.proc.now) c.args.loops.now c.args.room) c.args.id c.in-Some-Test.literal c.in-Some-Test.met c.in-Some-Test.unmet d terms c.args.tally.now c.follow.new.tally
    None (comparison_measured (comparison_under terms (comparison_of c.in-Some-Test.literal))) c.requires.lowered node u
    (λ x k. is_some c.follow.result c.follow.new.tally _ c.if-not-follow.false (c.follow.ensures.exact terms x e k))
    (λ x k. is_none c.follow-in-Some-Test.result c.follow-in-Some-Test.new.tally _ c.if-not-follow-2.true (c.follow-in-Some-Test.ensures.exact terms x again k)) refl

pub returns-then-not-follow-clause-exact : goal.returns-then-not-follow-clause-exact
returns-then-not-follow-clause-exact t c =
    λ terms d e u.
    let v = c.in-Some-Test.ensures.value in
    let node : slice_get c.args.graph.now.nodes c.args.id ≡ Some (Test c.in-Some-Test.literal c.in-Some-Test.met c.in-Some-Test.unmet) = cc (v, c.in-Some-Test.field-0-is) in
    test_none (procedure_of c.args.proc.now) c.args.graph.now (beyond (procedure_of c.args.proc.now) c.args.loops.now c.args.room) c.args.id c.in-Some-Test.literal c.in-Some-Test.met c.in-Some-Test.unmet d terms c.args.tally.now c.requires.lowered node u
    (λ x k. is_none c.follow.result c.follow.new.tally _ c.if-not-follow.true (c.follow.ensures.exact terms x e k))

pub returns-else-not-within-clause-exact : goal.returns-else-not-within-clause-exact
returns-else-not-within-clause-exact t c =
    λ terms d e u.
    let v = c.in-Some-Assign.ensures.value in
    let node : slice_get c.args.graph.now.nodes c.args.id ≡ Some (Assign c.in-Some-Assign.place c.in-Some-Assign.term c.in-Some-Assign.then) = cc (v, c.in-Some-Assign.field-0-is) in
    let size = c.measure-size.ensures.exact terms e in
    let after = measured_changed c.in-Some-Assign.place (tree_of c.in-Some-Assign.term) terms c.args.env.now c.measure-size.result e size ∙ sym c.exchange-was.ensures.after in
    ap Some c.meet-in-Some-Assign.ensures.exact
    ∙ assign_exact (procedure_of c.args.proc.now) c.args.graph.now (beyond (procedure_of c.args.proc.now) c.args.loops.now c.args.room) c.args.id c.in-Some-Assign.place c.in-Some-Assign.term c.in-Some-Assign.then d terms c.args.tally.now
    (Some c.follow-within.new.tally) c.measure-size.result c.requires.lowered node u
    (λ x k. is_some c.follow-within.result c.follow-within.new.tally _ c.if-not-within.false (c.follow-within.ensures.exact (changed (Some (let y : Change = record { place = c.in-Some-Assign.place; term = tree_of c.in-Some-Assign.term } in y)) terms) x after k)) size

pub returns-then-not-within-clause-exact : goal.returns-then-not-within-clause-exact
returns-then-not-within-clause-exact t c =
    λ terms d e u.
    let v = c.in-Some-Assign.ensures.value in
    let node : slice_get c.args.graph.now.nodes c.args.id ≡ Some (Assign c.in-Some-Assign.place c.in-Some-Assign.term c.in-Some-Assign.then) = cc (v, c.in-Some-Assign.field-0-is) in
    let size = c.measure-size.ensures.exact terms e in
    let after = measured_changed c.in-Some-Assign.place (tree_of c.in-Some-Assign.term) terms c.args.env.now c.measure-size.result e size ∙ sym c.exchange-was.ensures.after in
    assign_exact (procedure_of c.args.proc.now) c.args.graph.now (beyond (procedure_of c.args.proc.now) c.args.loops.now c.args.room) c.args.id c.in-Some-Assign.place c.in-Some-Assign.term c.in-Some-Assign.then d terms c.args.tally.now
    None c.measure-size.result c.requires.lowered node u
    (λ x k. is_none c.follow-within.result c.follow-within.new.tally _ c.if-not-within.true (c.follow-within.ensures.exact (changed (Some (let y : Change = record { place = c.in-Some-Assign.place; term = tree_of c.in-Some-Assign.term } in y)) terms) x after k)) size

pub returns-then-not-within-clause-env : goal.returns-then-not-within-clause-env
returns-then-not-within-clause-env t c =
    c.exchange.ensures.after
    ∙ ap (λ (k : List TermMeasure). slice_set k c.in-Some-Assign.place c.exchange-was.result) (c.follow-within.ensures.env ∙ c.exchange-was.ensures.after)
    ∙ put_back c.args.env.now c.in-Some-Assign.place c.measure-size.result c.exchange-was.result c.exchange-was.ensures.before

pub returns-else-not-within-clause-env : goal.returns-else-not-within-clause-env
returns-else-not-within-clause-env t c =
    c.exchange.ensures.after
    ∙ ap (λ (k : List TermMeasure). slice_set k c.in-Some-Assign.place c.exchange-was.result) (c.follow-within.ensures.env ∙ c.exchange-was.ensures.after)
    ∙ put_back c.args.env.now c.in-Some-Assign.place c.measure-size.result c.exchange-was.result c.exchange-was.ensures.before

pub returns-in-Some-Stop-clause-exact : goal.returns-in-Some-Stop-clause-exact
returns-in-Some-Stop-clause-exact t c =
    λ terms d e u.
    let v = c.in-Some-Stop.ensures.value in
    let node : slice_get c.args.graph.now.nodes c.args.id ≡ Some (Stop c.in-Some-Stop.field-0-0) = cc (v, c.in-Some-Stop.field-0-is) in
    stop_exact (procedure_of c.args.proc.now) c.args.graph.now (beyond (procedure_of c.args.proc.now) c.args.loops.now c.args.room) c.args.id c.in-Some-Stop.field-0-0 d terms c.args.tally.now
    (outcome c.add_path-in-Some-Stop.result c.add_path-in-Some-Stop.new.self) c.requires.lowered node u c.add_path-in-Some-Stop.ensures.exact

pub leading_at-requires : goal.leading_at-requires
leading_at-requires t c =
    let v = c.in-Some-AtLine.ensures.value in
    let node : slice_get c.args.graph.now.nodes c.args.id ≡ Some (AtLine c.in-Some-AtLine.line c.in-Some-AtLine.first) = cc (v, c.in-Some-AtLine.field-0-is) in
    let k = loop_told (procedure_of c.args.proc.now) c.args.loops.now c.args.graph.now c.args.id c.in-Some-AtLine.line c.in-Some-AtLine.first c.requires.stands.decision c.args.heads.now (Some c.in-Some.at)
    c.requires.lowered node c.requires.stands.unfolds c.requires.heads c.in-Some.ensures in
    slice_get_within c.args.loops.now c.in-Some.at k.0 k.1

pub follow_leading-requires-clause-left : goal.follow_leading-requires-clause-left
follow_leading-requires-clause-left t c =
    let v = c.in-Some-AtLine.ensures.value in
    let node : slice_get c.args.graph.now.nodes c.args.id ≡ Some (AtLine c.in-Some-AtLine.line c.in-Some-AtLine.first) = cc (v, c.in-Some-AtLine.field-0-is) in
    let k = loop_told (procedure_of c.args.proc.now) c.args.loops.now c.args.graph.now c.args.id c.in-Some-AtLine.line c.in-Some-AtLine.first c.requires.stands.decision c.args.heads.now (Some c.in-Some.at)
    c.requires.lowered node c.requires.stands.unfolds c.requires.heads c.in-Some.ensures in
    let e = c.leading_at.ensures k.0 k.1 in
    λ q i. c.requires.leading k.0 (in_at c.args.loops.now c.in-Some.at k.0 k.1) q (subst (λ (ls : List ℕ). IsIn ls q) e i)

pub follow-requires-else-room-eq0 : goal.follow-requires-else-room-eq0
follow-requires-else-room-eq0 t c =
    let v = c.in-Some-AtLine.ensures.value in
    let node : slice_get c.args.graph.now.nodes c.args.id ≡ Some (AtLine c.in-Some-AtLine.line c.in-Some-AtLine.first) = cc (v, c.in-Some-AtLine.field-0-is) in
    let stands = stands_first (procedure_of c.args.proc.now) c.args.graph.now c.args.id c.in-Some-AtLine.line c.in-Some-AtLine.first c.requires.checked c.requires.lowered node c.requires.stands in
    let there = node_there (procedure_of c.args.proc.now) c.args.graph.now c.in-Some-AtLine.first stands.decision c.requires.lowered stands.unfolds in
    let low = slice_get_within c.args.graph.now.nodes c.in-Some-AtLine.first there.0 there.1 in
    let some = c.if-room-eq0.false in
    let longer : c.args.room ≡ suc (c.args.room - 1) = omega (arith, some) in
    let less : (c.args.room - 1) * (length c.args.graph.now.nodes + 1) + c.in-Some-AtLine.first < c.args.room * (length c.args.graph.now.nodes + 1) + c.args.id =
    line_less_at c.args.room (c.args.room - 1) (length c.args.graph.now.nodes + 1) c.in-Some-AtLine.first c.args.id longer (omega (arith, low)) in
    (omega (arith, less, c.decreases), (c.requires.checked, (c.requires.lowered, (stands, (c.requires.leading, (c.requires.heads, (c.requires.size, (c.requires.capped, c.requires.tally))))))))

pub returns-in-Some-clause-exact : goal.returns-in-Some-clause-exact
returns-in-Some-clause-exact t c = λ terms d e u.
    let v = c.in-Some-AtLine.ensures.value in
    let node : slice_get c.args.graph.now.nodes c.args.id ≡ Some (AtLine c.in-Some-AtLine.line c.in-Some-AtLine.first) = cc (v, c.in-Some-AtLine.field-0-is) in
    let k = loop_told (procedure_of c.args.proc.now) c.args.loops.now c.args.graph.now c.args.id c.in-Some-AtLine.line c.in-Some-AtLine.first d c.args.heads.now (Some c.in-Some.at)
    c.requires.lowered node u c.requires.heads c.in-Some.ensures in
    let same : c.leading_at.result.now ≡ leading_of c.args.loops.now c.in-Some-AtLine.line = c.leading_at.ensures k.0 k.1 ∙ sym k.3 in
    let is = at_line (procedure_of c.args.proc.now) c.args.graph.now c.args.id c.in-Some-AtLine.line c.in-Some-AtLine.first d c.requires.lowered node u in
    c.follow_leading.ensures.exact c.in-Some-AtLine.line terms d e u
    ∙ ap (λ (x : PathTree). tallied x terms c.args.tally.now)
    (same_below (passed (leading_tree (procedure_of c.args.proc.now) c.in-Some-AtLine.line c.leading_at.result.now)) (beyond (procedure_of c.args.proc.now) c.args.loops.now c.args.room) d c.in-Some-AtLine.line is
    (ap (leading_tree (procedure_of c.args.proc.now) c.in-Some-AtLine.line) same ∙ sym (at_head (procedure_of c.args.proc.now) c.args.loops.now c.args.room c.in-Some-AtLine.line k.2)))

pub returns-then-room-eq0-clause-exact : goal.returns-then-room-eq0-clause-exact
returns-then-room-eq0-clause-exact t c = λ terms d e u.
    let v = c.in-Some-AtLine.ensures.value in
    let node : slice_get c.args.graph.now.nodes c.args.id ≡ Some (AtLine c.in-Some-AtLine.line c.in-Some-AtLine.first) = cc (v, c.in-Some-AtLine.field-0-is) in
    line_exact (procedure_of c.args.proc.now) c.args.graph.now (beyond (procedure_of c.args.proc.now) c.args.loops.now c.args.room) c.args.id c.in-Some-AtLine.line c.in-Some-AtLine.first d terms c.args.tally.now (outcome c.add_path.result c.add_path.new.self) c.requires.lowered node u
    (c.add_path.ensures.exact ∙ no_room (procedure_of c.args.proc.now) c.args.loops.now c.args.room c.in-Some-AtLine.line terms c.args.tally.now (loop_told (procedure_of c.args.proc.now) c.args.loops.now c.args.graph.now c.args.id c.in-Some-AtLine.line c.in-Some-AtLine.first d c.args.heads.now None c.requires.lowered node u c.requires.heads c.in-None-loop_at.ensures) c.if-room-eq0.true)

pub returns-else-room-eq0-clause-exact : goal.returns-else-room-eq0-clause-exact
returns-else-room-eq0-clause-exact t c = λ terms d e u.
    let v = c.in-Some-AtLine.ensures.value in
    let node : slice_get c.args.graph.now.nodes c.args.id ≡ Some (AtLine c.in-Some-AtLine.line c.in-Some-AtLine.first) = cc (v, c.in-Some-AtLine.field-0-is) in
    let some = c.if-room-eq0.false in
    let there = at_line (procedure_of c.args.proc.now) c.args.graph.now c.args.id c.in-Some-AtLine.line c.in-Some-AtLine.first d c.requires.lowered node u in
    let unfolds = line_unfolds (procedure_of c.args.proc.now) c.args.graph.now c.args.id c.in-Some-AtLine.line c.in-Some-AtLine.first d c.requires.lowered node u in
    line_exact (procedure_of c.args.proc.now) c.args.graph.now (beyond (procedure_of c.args.proc.now) c.args.loops.now c.args.room) c.args.id c.in-Some-AtLine.line c.in-Some-AtLine.first d terms c.args.tally.now (outcome c.follow-else-room-eq0.result c.follow-else-room-eq0.new.tally) c.requires.lowered node u
    (c.follow-else-room-eq0.ensures.exact terms (decision_at (procedure_of c.args.proc.now) c.in-Some-AtLine.line) e unfolds
    ∙ more_room (procedure_of c.args.proc.now) c.args.loops.now c.args.room (c.args.room - 1) c.in-Some-AtLine.line terms c.args.tally.now (loop_told (procedure_of c.args.proc.now) c.args.loops.now c.args.graph.now c.args.id c.in-Some-AtLine.line c.in-Some-AtLine.first d c.args.heads.now None c.requires.lowered node u c.requires.heads c.in-None-loop_at.ensures) (omega (arith, some)))
