use Rattle.std.proofs.Common.{◌≡◌, sym, subst, ℕ, ◌<◌, ◌-◌, Bool, true, false, Some, None, MatchOption, length, slice_get, take, drop, arith}
use Rattle.std.specs.Prelude.{if◌then◌else◌}
use Rattle.test_graph.specs.Lowered.{Unfolds}
use Rattle.test_graph.specs.declared.graph.TestNode.TheVariants.{Test, Assign, AtLine, Stop}
use Rattle.compliance.proofs.Behind.{first_of, left_at_test, none_at_test, left_at_assign, left_at_line, none_at_stop, none_nowhere}
use Rattle.compliance.proofs.opening.+left_behind.Goals as goal

either_below : (b : Bool) (x y n m : ℕ) → x < n → y < n → m ≡ (if b then x else y) → m < n
either_below true x y n m h k e = subst (λ z. z < n) (sym e) h
either_below false x y n m h k e = subst (λ z. z < n) (sym e) k

pub left_behind-requires : goal.left_behind-requires
left_behind-requires t c =
    let v = c.in-Some-Test.ensures.value in
    let node : slice_get c.args.graph.now.nodes c.args.id ≡ Some (Test c.in-Some-Test.field-0-0 c.in-Some-Test.met c.in-Some-Test.unmet) = cc (v, c.in-Some-Test.field-0-is) in
    let less = c.requires.lowered.1.falls c.args.id _ node in
    let below = either_below c.in-Some.first.now c.in-Some-Test.met c.in-Some-Test.unmet c.args.id c.side.result less.0 less.1 c.side.ensures in
    (omega (arith, below, c.decreases), c.requires.lowered)

pub left_behind-requires-in-Some-Assign : goal.left_behind-requires-in-Some-Assign
left_behind-requires-in-Some-Assign t c =
    let v = c.in-Some-Assign.ensures.value in
    let node : slice_get c.args.graph.now.nodes c.args.id ≡ Some (Assign c.in-Some-Assign.field-0-0 c.in-Some-Assign.field-0-1 c.in-Some-Assign.then) = cc (v, c.in-Some-Assign.field-0-is) in
    let less = c.requires.lowered.1.falls c.args.id _ node in
    (omega (arith, less, c.decreases), c.requires.lowered)

pub returns-in-Some : goal.returns-in-Some
returns-in-Some t c = λ d u.
    let v = c.in-Some-Test.ensures.value in
    let node : slice_get c.args.graph.now.nodes c.args.id ≡ Some (Test c.in-Some-Test.field-0-0 c.in-Some-Test.met c.in-Some-Test.unmet) = cc (v, c.in-Some-Test.field-0-is) in
    let k =
    left_at_test c.requires.lowered.0 c.args.graph.now c.args.id c.in-Some-Test.field-0-0 c.in-Some-Test.met c.in-Some-Test.unmet d c.in-Some.first.now c.args.path.now
    (take (length c.args.path.now - 1) (drop 1 c.args.path.now)) c.requires.lowered.1 node u (first_of c.args.path.now c.in-Some.first.now c.in-Some.ensures.value) in
    subst (λ x. MatchOption c.left_behind.result (x ≡ None) (λ left. x ≡ Some left.now)) (sym k.same)
    (c.left_behind.ensures k.decision (subst (λ n. Unfolds c.args.graph.now.nodes c.args.graph.now.entries n k.decision) (sym c.side.ensures) k.unfolds))

pub returns-in-None-first : goal.returns-in-None-first
returns-in-None-first t c = λ d u.
    let v = c.in-Some-Test.ensures.value in
    let node : slice_get c.args.graph.now.nodes c.args.id ≡ Some (Test c.in-Some-Test.field-0-0 c.in-Some-Test.met c.in-Some-Test.unmet) = cc (v, c.in-Some-Test.field-0-is) in
    none_at_test c.requires.lowered.0 c.args.graph.now c.args.id c.in-Some-Test.field-0-0 c.in-Some-Test.met c.in-Some-Test.unmet d c.args.path.now c.requires.lowered.1 node u
    c.in-None-first.ensures.value

pub returns-in-Some-Assign : goal.returns-in-Some-Assign
returns-in-Some-Assign t c = λ d u.
    let v = c.in-Some-Assign.ensures.value in
    let node : slice_get c.args.graph.now.nodes c.args.id ≡ Some (Assign c.in-Some-Assign.field-0-0 c.in-Some-Assign.field-0-1 c.in-Some-Assign.then) = cc (v, c.in-Some-Assign.field-0-is) in
    let k =
    left_at_assign c.requires.lowered.0 c.args.graph.now c.args.id c.in-Some-Assign.field-0-0 c.in-Some-Assign.field-0-1 c.in-Some-Assign.then d c.args.path.now
    c.requires.lowered.1 node u in
    subst (λ x. MatchOption c.left_behind-in-Some-Assign.result (x ≡ None) (λ left. x ≡ Some left.now)) (sym k.same) (c.left_behind-in-Some-Assign.ensures k.decision k.unfolds)

pub returns-in-Some-AtLine : goal.returns-in-Some-AtLine
returns-in-Some-AtLine t c = λ d u.
    let v = c.in-Some-AtLine.ensures.value in
    let node : slice_get c.args.graph.now.nodes c.args.id ≡ Some (AtLine c.in-Some-AtLine.field-0-0 c.in-Some-AtLine.field-0-1) = cc (v, c.in-Some-AtLine.field-0-is) in
    left_at_line c.requires.lowered.0 c.args.graph.now c.args.id c.in-Some-AtLine.field-0-0 c.in-Some-AtLine.field-0-1 d c.args.path.now c.requires.lowered.1 node u

pub returns-in-Some-Stop : goal.returns-in-Some-Stop
returns-in-Some-Stop t c = λ d u.
    let v = c.in-Some-Stop.ensures.value in
    let node : slice_get c.args.graph.now.nodes c.args.id ≡ Some (Stop c.in-Some-Stop.field-0-0) = cc (v, c.in-Some-Stop.field-0-is) in
    none_at_stop c.requires.lowered.0 c.args.graph.now c.args.id c.in-Some-Stop.field-0-0 d c.args.path.now c.requires.lowered.1 node u

pub returns-in-None : goal.returns-in-None
returns-in-None t c = λ d u. none_nowhere c.requires.lowered.0 c.args.graph.now c.args.id d c.args.path.now c.requires.lowered.1 c.in-None.ensures.value u
