use Rattle.std.proofs.Common.{◌≡◌, Some, None, slice_get, arith}
use Rattle.il_core.specs.Checked.{procedure_of}
use Rattle.test_graph.specs.declared.graph.TestNode.TheVariants.{Test, Assign, AtLine, Stop}
use Rattle.region_paths.proofs.Counts.{test_ways, assign_ways, line_ways_of, stop_ways, no_node}
use Rattle.region_paths.proofs.counting.ways_at.Goals as goal

pub ways_of-requires-clause-id : goal.ways_of-requires-clause-id
ways_of-requires-clause-id c =
    let v = c.in-Some-Test.ensures.value in
    let node : slice_get c.args.graph.now.nodes c.args.id ≡ Some (Test c.in-Some-Test.field-0-0 c.in-Some-Test.met c.in-Some-Test.unmet) = cc (v, c.in-Some-Test.field-0-is) in
    omega (arith, (c.requires.lowered.falls c.args.id _ node).0, c.requires.before)

pub ways_of-requires-in-Some-Test-clause-id : goal.ways_of-requires-in-Some-Test-clause-id
ways_of-requires-in-Some-Test-clause-id c =
    let v = c.in-Some-Test.ensures.value in
    let node : slice_get c.args.graph.now.nodes c.args.id ≡ Some (Test c.in-Some-Test.field-0-0 c.in-Some-Test.met c.in-Some-Test.unmet) = cc (v, c.in-Some-Test.field-0-is) in
    omega (arith, (c.requires.lowered.falls c.args.id _ node).1, c.requires.before)

pub ways_of-requires-in-Some-Assign-clause-id : goal.ways_of-requires-in-Some-Assign-clause-id
ways_of-requires-in-Some-Assign-clause-id c =
    let v = c.in-Some-Assign.ensures.value in
    let node : slice_get c.args.graph.now.nodes c.args.id ≡ Some (Assign c.in-Some-Assign.field-0-0 c.in-Some-Assign.field-0-1 c.in-Some-Assign.then) = cc (v, c.in-Some-Assign.field-0-is) in
    omega (arith, c.requires.lowered.falls c.args.id _ node, c.requires.before)

pub unreachable-requires : goal.unreachable-requires
unreachable-requires c =
    let v : None ≡ slice_get c.args.graph.now.nodes c.args.id = c.in-None.ensures.value in
    no_node c.args.graph.now.nodes c.args.id c.requires.there v

pub returns-in-Some-Test-clause-exact : goal.returns-in-Some-Test-clause-exact
returns-in-Some-Test-clause-exact c = λ d u.
    let v = c.in-Some-Test.ensures.value in
    let node : slice_get c.args.graph.now.nodes c.args.id ≡ Some (Test c.in-Some-Test.field-0-0 c.in-Some-Test.met c.in-Some-Test.unmet) = cc (v, c.in-Some-Test.field-0-is) in
    test_ways (procedure_of c.args.proc.now) c.args.graph.now c.args.id c.in-Some-Test.field-0-0 c.in-Some-Test.met c.in-Some-Test.unmet d c.ways_of.result c.ways_of-in-Some-Test.result c.both_ways.result
    c.requires.lowered node u (λ x k. c.requires.ways.each c.in-Some-Test.met x c.ways_of.result k c.ways_of.ensures.there)
    (λ x k. c.requires.ways.each c.in-Some-Test.unmet x c.ways_of-in-Some-Test.result k c.ways_of-in-Some-Test.ensures.there) c.both_ways.ensures.exact

pub returns-in-Some-Assign-clause-exact : goal.returns-in-Some-Assign-clause-exact
returns-in-Some-Assign-clause-exact c = λ d u.
    let v = c.in-Some-Assign.ensures.value in
    let node : slice_get c.args.graph.now.nodes c.args.id ≡ Some (Assign c.in-Some-Assign.field-0-0 c.in-Some-Assign.field-0-1 c.in-Some-Assign.then) = cc (v, c.in-Some-Assign.field-0-is) in
    assign_ways (procedure_of c.args.proc.now) c.args.graph.now c.args.id c.in-Some-Assign.field-0-0 c.in-Some-Assign.field-0-1 c.in-Some-Assign.then d c.ways_of-in-Some-Assign.result
    c.requires.lowered node u (λ x k. c.requires.ways.each c.in-Some-Assign.then x c.ways_of-in-Some-Assign.result k c.ways_of-in-Some-Assign.ensures.there)

pub returns-in-Some-Stop-clause-exact : goal.returns-in-Some-Stop-clause-exact
returns-in-Some-Stop-clause-exact c = λ d u.
    let v = c.in-Some-Stop.ensures.value in
    let node : slice_get c.args.graph.now.nodes c.args.id ≡ Some (Stop c.in-Some-Stop.field-0-0) = cc (v, c.in-Some-Stop.field-0-is) in
    stop_ways (procedure_of c.args.proc.now) c.args.graph.now c.args.id c.in-Some-Stop.field-0-0 d c.requires.lowered node u

pub returns-in-Some-AtLine-clause-exact : goal.returns-in-Some-AtLine-clause-exact
returns-in-Some-AtLine-clause-exact c = λ d u.
    let v = c.in-Some-AtLine.ensures.value in
    let node : slice_get c.args.graph.now.nodes c.args.id ≡ Some (AtLine c.in-Some-AtLine.field-0-0 c.in-Some-AtLine.field-0-1) = cc (v, c.in-Some-AtLine.field-0-is) in
    line_ways_of (procedure_of c.args.proc.now) c.args.graph.now c.args.id c.in-Some-AtLine.field-0-0 c.in-Some-AtLine.field-0-1 d c.requires.lowered node u
