use Rattle.std.proofs.Common.{◌≡◌, ◌<◌, Some, None, length, slice_get, arith}
use Rattle.il_core.specs.Checked.{procedure_of}
use Rattle.test_graph.specs.declared.graph.TestNode.TheVariants.{Test, Assign, AtLine, Stop}
use Rattle.region_paths.proofs.Counts.{no_node}
use Rattle.region_paths.proofs.Rounds.{test_least, test_most, assign_least, assign_most, stop_counted, head_told, head_counted, line_least, line_most}
use Rattle.region_paths.proofs.counting.count_at.Goals as goal

pub unreachable-requires : goal.unreachable-requires
unreachable-requires c = no_node c.args.graph.now.nodes c.args.id c.requires.there c.in-None.ensures.value

pub returns-in-Some-Test-clause-least : goal.returns-in-Some-Test-clause-least
returns-in-Some-Test-clause-least c = λ loops n d h k u.
    let v = c.in-Some-Test.ensures.value in
    let node : slice_get c.args.graph.now.nodes c.args.id ≡ Some (Test c.in-Some-Test.field-0-0 c.in-Some-Test.met c.in-Some-Test.unmet) = cc (v, c.in-Some-Test.field-0-is) in
    let low : c.args.id < length c.args.counts.now = omega (arith, c.requires.there, c.requires.size) in
    let r = test_least (procedure_of c.args.proc.now) loops c.args.graph.now n c.args.id c.in-Some-Test.field-0-0 c.in-Some-Test.met c.in-Some-Test.unmet d c.args.counts.now c.count_of.result c.count_of-in-Some-Test.result
    c.requires.lowered node u low k c.count_of.ensures.exact c.count_of-in-Some-Test.ensures.exact in
    omega (arith, r, c.min.ensures)

pub returns-in-Some-Assign-clause-least : goal.returns-in-Some-Assign-clause-least
returns-in-Some-Assign-clause-least c = λ loops n d h k u.
    let v = c.in-Some-Assign.ensures.value in
    let node : slice_get c.args.graph.now.nodes c.args.id ≡ Some (Assign c.in-Some-Assign.field-0-0 c.in-Some-Assign.field-0-1 c.in-Some-Assign.then) = cc (v, c.in-Some-Assign.field-0-is) in
    let low : c.args.id < length c.args.counts.now = omega (arith, c.requires.there, c.requires.size) in
    assign_least (procedure_of c.args.proc.now) loops c.args.graph.now n c.args.id c.in-Some-Assign.field-0-0 c.in-Some-Assign.field-0-1 c.in-Some-Assign.then d c.args.counts.now c.count_of-in-Some-Assign.result
    c.requires.lowered node u low k c.count_of-in-Some-Assign.ensures.exact

pub returns-in-Some-clause-least : goal.returns-in-Some-clause-least
returns-in-Some-clause-least c = λ loops n d h k u.
    let v = c.in-Some-AtLine.ensures.value in
    let node : slice_get c.args.graph.now.nodes c.args.id ≡ Some (AtLine c.in-Some-AtLine.line c.in-Some-AtLine.first) = cc (v, c.in-Some-AtLine.field-0-is) in
    let t = head_told (procedure_of c.args.proc.now) loops c.args.graph.now c.args.id c.in-Some-AtLine.line c.in-Some-AtLine.first d c.args.heads.now (Some c.in-Some.count)
    c.requires.lowered node u h c.in-Some.ensures.exact in
    omega (arith, head_counted (procedure_of c.args.proc.now) loops c.args.graph.now n c.args.id c.in-Some-AtLine.line c.in-Some-AtLine.first d c.in-Some.count c.requires.lowered node u t)

pub returns-in-None-head_count_of-clause-least : goal.returns-in-None-head_count_of-clause-least
returns-in-None-head_count_of-clause-least c = λ loops n d h k u.
    let v = c.in-Some-AtLine.ensures.value in
    let node : slice_get c.args.graph.now.nodes c.args.id ≡ Some (AtLine c.in-Some-AtLine.line c.in-Some-AtLine.first) = cc (v, c.in-Some-AtLine.field-0-is) in
    let t = head_told (procedure_of c.args.proc.now) loops c.args.graph.now c.args.id c.in-Some-AtLine.line c.in-Some-AtLine.first d c.args.heads.now None
    c.requires.lowered node u h c.in-None-head_count_of.ensures.exact in
    line_least (procedure_of c.args.proc.now) loops c.args.graph.now n c.args.id c.in-Some-AtLine.line c.in-Some-AtLine.first d c.args.counts.now c.count_of-in-None-head_count_of.result c.requires.lowered node u c.requires.size k t
    c.count_of-in-None-head_count_of.ensures.exact

pub returns-in-Some-Stop-clause-least : goal.returns-in-Some-Stop-clause-least
returns-in-Some-Stop-clause-least c = λ loops n d h k u.
    let v = c.in-Some-Stop.ensures.value in
    let node : slice_get c.args.graph.now.nodes c.args.id ≡ Some (Stop c.in-Some-Stop.field-0-0) = cc (v, c.in-Some-Stop.field-0-is) in
    omega (arith, stop_counted (procedure_of c.args.proc.now) loops c.args.graph.now n c.args.id c.in-Some-Stop.field-0-0 d c.requires.lowered node u)

pub returns-in-Some-Test-clause-most : goal.returns-in-Some-Test-clause-most
returns-in-Some-Test-clause-most c = λ loops n d h k u.
    let v = c.in-Some-Test.ensures.value in
    let node : slice_get c.args.graph.now.nodes c.args.id ≡ Some (Test c.in-Some-Test.field-0-0 c.in-Some-Test.met c.in-Some-Test.unmet) = cc (v, c.in-Some-Test.field-0-is) in
    let low : c.args.id < length c.args.counts.now = omega (arith, c.requires.there, c.requires.size) in
    let r = test_most (procedure_of c.args.proc.now) loops c.args.graph.now n c.args.id c.in-Some-Test.field-0-0 c.in-Some-Test.met c.in-Some-Test.unmet d c.args.counts.now c.count_of.result c.count_of-in-Some-Test.result
    c.requires.lowered node u low k c.count_of.ensures.exact c.count_of-in-Some-Test.ensures.exact in
    omega (arith, r, c.min.ensures)

pub returns-in-Some-Assign-clause-most : goal.returns-in-Some-Assign-clause-most
returns-in-Some-Assign-clause-most c = λ loops n d h k u.
    let v = c.in-Some-Assign.ensures.value in
    let node : slice_get c.args.graph.now.nodes c.args.id ≡ Some (Assign c.in-Some-Assign.field-0-0 c.in-Some-Assign.field-0-1 c.in-Some-Assign.then) = cc (v, c.in-Some-Assign.field-0-is) in
    let low : c.args.id < length c.args.counts.now = omega (arith, c.requires.there, c.requires.size) in
    assign_most (procedure_of c.args.proc.now) loops c.args.graph.now n c.args.id c.in-Some-Assign.field-0-0 c.in-Some-Assign.field-0-1 c.in-Some-Assign.then d c.args.counts.now c.count_of-in-Some-Assign.result
    c.requires.lowered node u low k c.count_of-in-Some-Assign.ensures.exact

pub returns-in-Some-clause-most : goal.returns-in-Some-clause-most
returns-in-Some-clause-most c = λ loops n d h k u.
    let v = c.in-Some-AtLine.ensures.value in
    let node : slice_get c.args.graph.now.nodes c.args.id ≡ Some (AtLine c.in-Some-AtLine.line c.in-Some-AtLine.first) = cc (v, c.in-Some-AtLine.field-0-is) in
    let t = head_told (procedure_of c.args.proc.now) loops c.args.graph.now c.args.id c.in-Some-AtLine.line c.in-Some-AtLine.first d c.args.heads.now (Some c.in-Some.count)
    c.requires.lowered node u h c.in-Some.ensures.exact in
    omega (arith, head_counted (procedure_of c.args.proc.now) loops c.args.graph.now n c.args.id c.in-Some-AtLine.line c.in-Some-AtLine.first d c.in-Some.count c.requires.lowered node u t)

pub returns-in-None-head_count_of-clause-most : goal.returns-in-None-head_count_of-clause-most
returns-in-None-head_count_of-clause-most c = λ loops n d h k u.
    let v = c.in-Some-AtLine.ensures.value in
    let node : slice_get c.args.graph.now.nodes c.args.id ≡ Some (AtLine c.in-Some-AtLine.line c.in-Some-AtLine.first) = cc (v, c.in-Some-AtLine.field-0-is) in
    let t = head_told (procedure_of c.args.proc.now) loops c.args.graph.now c.args.id c.in-Some-AtLine.line c.in-Some-AtLine.first d c.args.heads.now None
    c.requires.lowered node u h c.in-None-head_count_of.ensures.exact in
    line_most (procedure_of c.args.proc.now) loops c.args.graph.now n c.args.id c.in-Some-AtLine.line c.in-Some-AtLine.first d c.args.counts.now c.count_of-in-None-head_count_of.result c.requires.lowered node u c.requires.size k t
    c.count_of-in-None-head_count_of.ensures.exact

pub returns-in-Some-Stop-clause-most : goal.returns-in-Some-Stop-clause-most
returns-in-Some-Stop-clause-most c = λ loops n d h k u.
    let v = c.in-Some-Stop.ensures.value in
    let node : slice_get c.args.graph.now.nodes c.args.id ≡ Some (Stop c.in-Some-Stop.field-0-0) = cc (v, c.in-Some-Stop.field-0-is) in
    omega (arith, stop_counted (procedure_of c.args.proc.now) loops c.args.graph.now n c.args.id c.in-Some-Stop.field-0-0 d c.requires.lowered node u)
