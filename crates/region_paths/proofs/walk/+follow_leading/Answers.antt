use Rattle.std.proofs.Common.{◌≡◌, inl, inr, take, drop, ◌-◌, suc, refl, sym, ap, ◌∙◌, subst, ℕ, ◌+◌, ◌*◌, ◌<◌, Some, None, List, map, length, slice_get, arith}
use Rattle.std.specs.Prelude.{All, slice_set}
use Rattle.std.proofs.lemmas.List.{length-set, length-map}
use Rattle.std.proofs.lemmas.Option.{slice_get_within}
use Rattle.il_core.specs.Procedure.{instruction_of}
use Rattle.il_core.specs.Checked.{procedure_of}
use Rattle.sym_terms.specs.Tree.{tree_of}
use Rattle.sym_terms.specs.Comparison.{comparison_of, comparison_under}
use Rattle.sym_terms.specs.Measure.{measured, IsCapped}
use Rattle.sym_terms.specs.declared.measuring.TermMeasure.{TermMeasure}
use Rattle.test_graph.specs.Decision.{Change, decision_at}
use Rattle.test_graph.specs.Way.{changed}
use Rattle.test_graph.specs.declared.graph.TestNode.TheVariants.{Test, Assign, AtLine, Stop}
use Rattle.region_paths.specs.PathTree.{passed, leading_tree}
use Rattle.region_paths.specs.Walk.{AreLines}
use Rattle.region_paths.specs.Tally.{IsGrown, outcome, comparison_measured, tallied}
use Rattle.region_paths.proofs.Nodes.{node_there}
use Rattle.region_paths.proofs.Walking.{on_true, is_some, is_none, test_none, test_some, measured_changed, assign_exact, line_exact, stop_exact, stands_met, stands_unmet, compared_places, stands_then, assigned_places, stands_line, line_less_at, cons_of, nil_of, put_back}
use Rattle.region_paths.proofs.walk.+follow_leading.Goals as goal

pub follow_leading-requires : goal.follow_leading-requires
follow_leading-requires t c =
    let v = c.in-Some-Test.ensures.value in
    let node : slice_get c.args.graph.now.nodes c.args.id ≡ Some (Test c.in-Some-Test.literal c.in-Some-Test.met c.in-Some-Test.unmet) = cc (v, c.in-Some-Test.field-0-is) in
    let stands = stands_met (procedure_of c.args.proc.now) c.args.graph.now c.args.id c.in-Some-Test.literal c.in-Some-Test.met c.in-Some-Test.unmet c.requires.lowered node c.requires.stands in
    let less = (c.requires.lowered.falls c.args.id _ node).0 in
    (omega (arith, less, c.decreases), (c.requires.checked, (c.requires.lowered, (stands, (c.requires.left, (c.requires.size, (c.requires.capped, c.requires.tally)))))))

pub follow_leading-requires-in-Some-Test : goal.follow_leading-requires-in-Some-Test
follow_leading-requires-in-Some-Test t c =
    let v = c.in-Some-Test.ensures.value in
    let node : slice_get c.args.graph.now.nodes c.args.id ≡ Some (Test c.in-Some-Test.literal c.in-Some-Test.met c.in-Some-Test.unmet) = cc (v, c.in-Some-Test.field-0-is) in
    let stands = stands_unmet (procedure_of c.args.proc.now) c.args.graph.now c.args.id c.in-Some-Test.literal c.in-Some-Test.met c.in-Some-Test.unmet c.requires.lowered node c.requires.stands in
    let less = (c.requires.lowered.falls c.args.id _ node).1 in
    let same = c.follow_leading.ensures.env in
    (omega (arith, less, c.decreases), (c.requires.checked, (c.requires.lowered, (stands, (c.requires.left, (ap length same ∙ c.requires.size, (subst (All IsCapped) (sym same) c.requires.capped, (on_true c.follow_leading.result (IsGrown c.args.tally.now c.follow_leading.new.tally) c.if-not-follow_leading.false c.follow_leading.ensures.grown).sound)))))))

pub comparison_measure-requires-clause-places : goal.comparison_measure-requires-clause-places
comparison_measure-requires-clause-places t c =
    let v = c.in-Some-Test.ensures.value in
    let node : slice_get c.args.graph.now.nodes c.args.id ≡ Some (Test c.in-Some-Test.literal c.in-Some-Test.met c.in-Some-Test.unmet) = cc (v, c.in-Some-Test.field-0-is) in
    let k = compared_places (procedure_of c.args.proc.now) c.args.graph.now c.args.id c.in-Some-Test.literal c.in-Some-Test.met c.in-Some-Test.unmet c.requires.lowered node c.requires.stands in
    let size : length c.follow_leading-in-Some-Test.new.env ≡ length c.args.proc.now.places =
    ap length c.follow_leading-in-Some-Test.ensures.env ∙ ap length c.follow_leading.ensures.env ∙ c.requires.size in
    rw size k

pub measure-size-requires-clause-places : goal.measure-size-requires-clause-places
measure-size-requires-clause-places t c =
    let v = c.in-Some-Assign.ensures.value in
    let node : slice_get c.args.graph.now.nodes c.args.id ≡ Some (Assign c.in-Some-Assign.place c.in-Some-Assign.term c.in-Some-Assign.then) = cc (v, c.in-Some-Assign.field-0-is) in
    let k = assigned_places (procedure_of c.args.proc.now) c.args.graph.now c.args.id c.in-Some-Assign.place c.in-Some-Assign.term c.in-Some-Assign.then c.requires.lowered node c.requires.stands in
    rw c.requires.size k.1

pub exchange-was-requires-clause-place : goal.exchange-was-requires-clause-place
exchange-was-requires-clause-place t c =
    let v = c.in-Some-Assign.ensures.value in
    let node : slice_get c.args.graph.now.nodes c.args.id ≡ Some (Assign c.in-Some-Assign.place c.in-Some-Assign.term c.in-Some-Assign.then) = cc (v, c.in-Some-Assign.field-0-is) in
    let k = assigned_places (procedure_of c.args.proc.now) c.args.graph.now c.args.id c.in-Some-Assign.place c.in-Some-Assign.term c.in-Some-Assign.then c.requires.lowered node c.requires.stands in
    omega (arith, k.0, c.requires.size)

pub follow_leading-within-requires : goal.follow_leading-within-requires
follow_leading-within-requires t c =
    let v = c.in-Some-Assign.ensures.value in
    let node : slice_get c.args.graph.now.nodes c.args.id ≡ Some (Assign c.in-Some-Assign.place c.in-Some-Assign.term c.in-Some-Assign.then) = cc (v, c.in-Some-Assign.field-0-is) in
    let stands = stands_then (procedure_of c.args.proc.now) c.args.graph.now c.args.id c.in-Some-Assign.place c.in-Some-Assign.term c.in-Some-Assign.then c.requires.lowered node c.requires.stands in
    let less = c.requires.lowered.falls c.args.id _ node in
    let size : length c.exchange-was.new.env ≡ length c.args.proc.now.places =
    ap length c.exchange-was.ensures.after ∙ length-set c.args.env.now c.in-Some-Assign.place c.measure-size.result ∙ c.requires.size in
    (omega (arith, less, c.decreases), (c.requires.checked, (c.requires.lowered, (stands, (c.requires.left, (size, (c.exchange-was.ensures.sound, c.requires.tally)))))))

pub exchange-requires-clause-place : goal.exchange-requires-clause-place
exchange-requires-clause-place t c =
    let v = c.in-Some-Assign.ensures.value in
    let node : slice_get c.args.graph.now.nodes c.args.id ≡ Some (Assign c.in-Some-Assign.place c.in-Some-Assign.term c.in-Some-Assign.then) = cc (v, c.in-Some-Assign.field-0-is) in
    let k = assigned_places (procedure_of c.args.proc.now) c.args.graph.now c.args.id c.in-Some-Assign.place c.in-Some-Assign.term c.in-Some-Assign.then c.requires.lowered node c.requires.stands in
    let size : length c.follow_leading-within.new.env ≡ length c.args.proc.now.places =
    ap length c.follow_leading-within.ensures.env ∙ ap length c.exchange-was.ensures.after ∙ length-set c.args.env.now c.in-Some-Assign.place c.measure-size.result ∙ c.requires.size in
    omega (arith, k.0, size)

pub first_node-first-requires-clause-line : goal.first_node-first-requires-clause-line
first_node-first-requires-clause-line t c =
    let cons = cons_of c.args.left.now c.in-Some.line.now c.in-Some.ensures.value in
    let inside = subst (AreLines (procedure_of c.args.proc.now)) cons c.requires.left c.in-Some.line.now (inl refl) in
    omega (arith, inside, length-map c.args.proc.now.lines instruction_of)

pub follow_leading-requires-in-Some : goal.follow_leading-requires-in-Some
follow_leading-requires-in-Some t c =
    let v = c.in-Some-AtLine.ensures.value in
    let node : slice_get c.args.graph.now.nodes c.args.id ≡ Some (AtLine c.in-Some-AtLine.field-0-0 c.in-Some-AtLine.field-0-1) = cc (v, c.in-Some-AtLine.field-0-is) in
    let cons = cons_of c.args.left.now c.in-Some.line.now c.in-Some.ensures.value in
    let stands = stands_line (procedure_of c.args.proc.now) c.args.graph.now c.in-Some.line.now c.first_node-first.result c.requires.checked c.first_node-first.ensures.unfolds in
    let there = node_there (procedure_of c.args.proc.now) c.args.graph.now c.first_node-first.result stands.decision c.requires.lowered stands.unfolds in
    let low = slice_get_within c.args.graph.now.nodes c.first_node-first.result there.0 there.1 in
    let rest : List ℕ = take (length c.args.left.now - 1) (drop 1 c.args.left.now) in
    let longer : length c.args.left.now ≡ suc (length rest) = ap length cons in
    let less : length rest * (length c.args.graph.now.nodes + 1) + c.first_node-first.result < length c.args.left.now * (length c.args.graph.now.nodes + 1) + c.args.id =
    line_less_at (length c.args.left.now) (length rest) (length c.args.graph.now.nodes + 1) c.first_node-first.result c.args.id longer (omega (arith, low)) in
    (omega (arith, less, c.decreases), (c.requires.checked, (c.requires.lowered, (stands, (λ k i. subst (AreLines (procedure_of c.args.proc.now)) cons c.requires.left k (inr i), (c.requires.size, (c.requires.capped, c.requires.tally)))))))

pub unreachable-requires : goal.unreachable-requires
unreachable-requires t c =
    let s = c.requires.stands in
    let k = node_there (procedure_of c.args.proc.now) c.args.graph.now c.args.id s.decision c.requires.lowered s.unfolds in
    let v : None ≡ slice_get c.args.graph.now.nodes c.args.id = c.in-None.ensures.value in
    let w = k.1 in
    absurd (cc)

pub returns-else-not-follow_leading-2-clause-exact : goal.returns-else-not-follow_leading-2-clause-exact
returns-else-not-follow_leading-2-clause-exact t c =
    λ head terms d e u.
    let v = c.in-Some-Test.ensures.value in
    let node : slice_get c.args.graph.now.nodes c.args.id ≡ Some (Test c.in-Some-Test.literal c.in-Some-Test.met c.in-Some-Test.unmet) = cc (v, c.in-Some-Test.field-0-is) in
    let again : map measured terms ≡ c.follow_leading.new.env = e ∙ sym c.follow_leading.ensures.env in
    let last : map measured terms ≡ c.follow_leading-in-Some-Test.new.env = again ∙ sym c.follow_leading-in-Some-Test.ensures.env in
    ap Some c.meet.ensures.exact
    ∙ test_some (procedure_of c.args.proc.now) c.args.graph.now (passed (leading_tree (procedure_of c.args.proc.now) head c.args.left.now)) c.args.id c.in-Some-Test.literal c.in-Some-Test.met c.in-Some-Test.unmet d terms c.args.tally.now c.follow_leading.new.tally
    (Some c.follow_leading-in-Some-Test.new.tally) c.comparison_measure.result c.requires.lowered node u (λ x k. is_some c.follow_leading.result c.follow_leading.new.tally _ c.if-not-follow_leading.false (c.follow_leading.ensures.exact head terms x e k))
    (λ x k. is_some c.follow_leading-in-Some-Test.result c.follow_leading-in-Some-Test.new.tally _ c.if-not-follow_leading-2.false (c.follow_leading-in-Some-Test.ensures.exact head terms x again k)) (c.comparison_measure.ensures.exact terms last)

pub returns-then-not-follow_leading-2-clause-exact : goal.returns-then-not-follow_leading-2-clause-exact
returns-then-not-follow_leading-2-clause-exact t c =
    λ head terms d e u.
    let v = c.in-Some-Test.ensures.value in
    let node : slice_get c.args.graph.now.nodes c.args.id ≡ Some (Test c.in-Some-Test.literal c.in-Some-Test.met c.in-Some-Test.unmet) = cc (v, c.in-Some-Test.field-0-is) in
    let again : map measured terms ≡ c.follow_leading.new.env = e ∙ sym c.follow_leading.ensures.env in
    test_some (procedure_of c.args.proc.now) c.args.graph.now (passed (leading_tree (procedure_of c.args.proc.now) head c.args.left.now)) c.args.id c.in-Some-Test.literal c.in-Some-Test.met c.in-Some-Test.unmet d terms c.args.tally.now c.follow_leading.new.tally
    None (comparison_measured (comparison_under terms (comparison_of c.in-Some-Test.literal))) c.requires.lowered node u
    (λ x k. is_some c.follow_leading.result c.follow_leading.new.tally _ c.if-not-follow_leading.false (c.follow_leading.ensures.exact head terms x e k))
    (λ x k. is_none c.follow_leading-in-Some-Test.result c.follow_leading-in-Some-Test.new.tally _ c.if-not-follow_leading-2.true (c.follow_leading-in-Some-Test.ensures.exact head terms x again k)) refl

pub returns-then-not-follow_leading-clause-exact : goal.returns-then-not-follow_leading-clause-exact
returns-then-not-follow_leading-clause-exact t c =
    λ head terms d e u.
    let v = c.in-Some-Test.ensures.value in
    let node : slice_get c.args.graph.now.nodes c.args.id ≡ Some (Test c.in-Some-Test.literal c.in-Some-Test.met c.in-Some-Test.unmet) = cc (v, c.in-Some-Test.field-0-is) in
    test_none (procedure_of c.args.proc.now) c.args.graph.now (passed (leading_tree (procedure_of c.args.proc.now) head c.args.left.now)) c.args.id c.in-Some-Test.literal c.in-Some-Test.met c.in-Some-Test.unmet d terms c.args.tally.now c.requires.lowered node u
    (λ x k. is_none c.follow_leading.result c.follow_leading.new.tally _ c.if-not-follow_leading.true (c.follow_leading.ensures.exact head terms x e k))

pub returns-else-not-within-clause-exact : goal.returns-else-not-within-clause-exact
returns-else-not-within-clause-exact t c =
    λ head terms d e u.
    let v = c.in-Some-Assign.ensures.value in
    let node : slice_get c.args.graph.now.nodes c.args.id ≡ Some (Assign c.in-Some-Assign.place c.in-Some-Assign.term c.in-Some-Assign.then) = cc (v, c.in-Some-Assign.field-0-is) in
    let size = c.measure-size.ensures.exact terms e in
    let after = measured_changed c.in-Some-Assign.place (tree_of c.in-Some-Assign.term) terms c.args.env.now c.measure-size.result e size ∙ sym c.exchange-was.ensures.after in
    ap Some c.meet-in-Some-Assign.ensures.exact
    ∙ assign_exact (procedure_of c.args.proc.now) c.args.graph.now (passed (leading_tree (procedure_of c.args.proc.now) head c.args.left.now)) c.args.id c.in-Some-Assign.place c.in-Some-Assign.term c.in-Some-Assign.then d terms c.args.tally.now
    (Some c.follow_leading-within.new.tally) c.measure-size.result c.requires.lowered node u
    (λ x k. is_some c.follow_leading-within.result c.follow_leading-within.new.tally _ c.if-not-within.false (c.follow_leading-within.ensures.exact head (changed (Some (let y : Change = record { place = c.in-Some-Assign.place; term = tree_of c.in-Some-Assign.term } in y)) terms) x after k)) size

pub returns-then-not-within-clause-exact : goal.returns-then-not-within-clause-exact
returns-then-not-within-clause-exact t c =
    λ head terms d e u.
    let v = c.in-Some-Assign.ensures.value in
    let node : slice_get c.args.graph.now.nodes c.args.id ≡ Some (Assign c.in-Some-Assign.place c.in-Some-Assign.term c.in-Some-Assign.then) = cc (v, c.in-Some-Assign.field-0-is) in
    let size = c.measure-size.ensures.exact terms e in
    let after = measured_changed c.in-Some-Assign.place (tree_of c.in-Some-Assign.term) terms c.args.env.now c.measure-size.result e size ∙ sym c.exchange-was.ensures.after in
    assign_exact (procedure_of c.args.proc.now) c.args.graph.now (passed (leading_tree (procedure_of c.args.proc.now) head c.args.left.now)) c.args.id c.in-Some-Assign.place c.in-Some-Assign.term c.in-Some-Assign.then d terms c.args.tally.now
    None c.measure-size.result c.requires.lowered node u
    (λ x k. is_none c.follow_leading-within.result c.follow_leading-within.new.tally _ c.if-not-within.true (c.follow_leading-within.ensures.exact head (changed (Some (let y : Change = record { place = c.in-Some-Assign.place; term = tree_of c.in-Some-Assign.term } in y)) terms) x after k)) size

pub returns-then-not-within-clause-env : goal.returns-then-not-within-clause-env
returns-then-not-within-clause-env t c =
    c.exchange.ensures.after
    ∙ ap (λ (k : List TermMeasure). slice_set k c.in-Some-Assign.place c.exchange-was.result) (c.follow_leading-within.ensures.env ∙ c.exchange-was.ensures.after)
    ∙ put_back c.args.env.now c.in-Some-Assign.place c.measure-size.result c.exchange-was.result c.exchange-was.ensures.before

pub returns-else-not-within-clause-env : goal.returns-else-not-within-clause-env
returns-else-not-within-clause-env t c =
    c.exchange.ensures.after
    ∙ ap (λ (k : List TermMeasure). slice_set k c.in-Some-Assign.place c.exchange-was.result) (c.follow_leading-within.ensures.env ∙ c.exchange-was.ensures.after)
    ∙ put_back c.args.env.now c.in-Some-Assign.place c.measure-size.result c.exchange-was.result c.exchange-was.ensures.before

pub returns-in-Some-clause-exact : goal.returns-in-Some-clause-exact
returns-in-Some-clause-exact t c =
    λ head terms d e u.
    let v = c.in-Some-AtLine.ensures.value in
    let node : slice_get c.args.graph.now.nodes c.args.id ≡ Some (AtLine c.in-Some-AtLine.field-0-0 c.in-Some-AtLine.field-0-1) = cc (v, c.in-Some-AtLine.field-0-is) in
    let cons = cons_of c.args.left.now c.in-Some.line.now c.in-Some.ensures.value in
    line_exact (procedure_of c.args.proc.now) c.args.graph.now (passed (leading_tree (procedure_of c.args.proc.now) head c.args.left.now)) c.args.id c.in-Some-AtLine.field-0-0 c.in-Some-AtLine.field-0-1 d terms c.args.tally.now
    (outcome c.follow_leading-in-Some.result c.follow_leading-in-Some.new.tally) c.requires.lowered node u
    (subst (λ (ls : List ℕ). (outcome c.follow_leading-in-Some.result c.follow_leading-in-Some.new.tally) ≡ tallied (leading_tree (procedure_of c.args.proc.now) head ls) terms c.args.tally.now) (sym cons)
    (c.follow_leading-in-Some.ensures.exact head terms (decision_at (procedure_of c.args.proc.now) c.in-Some.line.now) e c.first_node-first.ensures.unfolds))

pub returns-in-None-first-clause-exact : goal.returns-in-None-first-clause-exact
returns-in-None-first-clause-exact t c =
    λ head terms d e u.
    let v = c.in-Some-AtLine.ensures.value in
    let node : slice_get c.args.graph.now.nodes c.args.id ≡ Some (AtLine c.in-Some-AtLine.field-0-0 c.in-Some-AtLine.field-0-1) = cc (v, c.in-Some-AtLine.field-0-is) in
    let nil = nil_of c.args.left.now c.in-None-first.ensures.value in
    line_exact (procedure_of c.args.proc.now) c.args.graph.now (passed (leading_tree (procedure_of c.args.proc.now) head c.args.left.now)) c.args.id c.in-Some-AtLine.field-0-0 c.in-Some-AtLine.field-0-1 d terms c.args.tally.now
    (outcome c.add_path.result c.add_path.new.self) c.requires.lowered node u
    (subst (λ (ls : List ℕ). (outcome c.add_path.result c.add_path.new.self) ≡ tallied (leading_tree (procedure_of c.args.proc.now) head ls) terms c.args.tally.now) (sym nil) c.add_path.ensures.exact)

pub returns-in-Some-Stop-clause-exact : goal.returns-in-Some-Stop-clause-exact
returns-in-Some-Stop-clause-exact t c =
    λ head terms d e u.
    let v = c.in-Some-Stop.ensures.value in
    let node : slice_get c.args.graph.now.nodes c.args.id ≡ Some (Stop c.in-Some-Stop.field-0-0) = cc (v, c.in-Some-Stop.field-0-is) in
    stop_exact (procedure_of c.args.proc.now) c.args.graph.now (passed (leading_tree (procedure_of c.args.proc.now) head c.args.left.now)) c.args.id c.in-Some-Stop.field-0-0 d terms c.args.tally.now
    (outcome c.add_path-in-Some-Stop.result c.add_path-in-Some-Stop.new.self) c.requires.lowered node u c.add_path-in-Some-Stop.ensures.exact
