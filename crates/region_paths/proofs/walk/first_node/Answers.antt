use Rattle.std.proofs.Common.{◌≡◌, sym, ap, ◌∙◌, Some, None, slice_get, length, ◌<◌, arith}
use Rattle.il_core.specs.Checked.{procedure_of}
use Rattle.std.proofs.lemmas.List.{length-map}
use Rattle.il_core.specs.Procedure.{instruction_of}
use Rattle.test_graph.specs.declared.graph.TestNode.TheVariants.{AtLine}
use Rattle.region_paths.proofs.Nodes.{first_unfolds, entry_there}
use Rattle.region_paths.proofs.walk.first_node.Goals as goal

pub returns : goal.returns
returns c =
    let inside : c.args.line < length (procedure_of c.args.proc.now).lines = omega (arith, c.requires.line, length-map c.args.proc.now.lines instruction_of) in
    let e : slice_get c.args.graph.now.entries c.args.line ≡ Some c.in-Some.entry.now = sym c.in-Some.ensures.value in
    let v = c.in-Some-get.ensures.value in
    let n : slice_get c.args.graph.now.nodes c.in-Some.entry.now ≡ Some (AtLine c.in-AtLine.field-0 c.in-AtLine.first) = cc (v, c.in-AtLine.is) in
    record { unfolds = first_unfolds (procedure_of c.args.proc.now) c.args.graph.now c.args.line c.in-Some.entry.now c.in-AtLine.field-0 c.in-AtLine.first c.requires.lowered inside e n }

pub unreachable-requires : goal.unreachable-requires
unreachable-requires c =
    let inside : c.args.line < length (procedure_of c.args.proc.now).lines = omega (arith, c.requires.line, length-map c.args.proc.now.lines instruction_of) in
    let k = entry_there (procedure_of c.args.proc.now) c.args.graph.now c.args.line c.requires.lowered inside in
    let there = k.2 in
    let line = k.3 in
    let e : slice_get c.args.graph.now.entries c.args.line ≡ Some c.in-Some.entry.now = sym c.in-Some.ensures.value in
    let v : Some c.in-Some-get.node.now ≡ slice_get c.args.graph.now.nodes c.in-Some.entry.now = c.in-Some-get.ensures.value in
    let same : c.in-Some.entry.now ≡ k.0 = cc (e, there) in
    let node : Some c.in-Some-get.node.now ≡ Some (AtLine c.args.line k.1) = v ∙ ap (slice_get c.args.graph.now.nodes) same ∙ line in
    c.in_default.not-AtLine c.args.line k.1 (cc node)

pub unreachable-requires-in-None-get : goal.unreachable-requires-in-None-get
unreachable-requires-in-None-get c =
    let inside : c.args.line < length (procedure_of c.args.proc.now).lines = omega (arith, c.requires.line, length-map c.args.proc.now.lines instruction_of) in
    let k = entry_there (procedure_of c.args.proc.now) c.args.graph.now c.args.line c.requires.lowered inside in
    let there = k.2 in
    let line = k.3 in
    let e : slice_get c.args.graph.now.entries c.args.line ≡ Some c.in-Some.entry.now = sym c.in-Some.ensures.value in
    let v : None ≡ slice_get c.args.graph.now.nodes c.in-Some.entry.now = c.in-None-get.ensures.value in
    let same : c.in-Some.entry.now ≡ k.0 = cc (e, there) in
    let node : None ≡ Some (AtLine c.args.line k.1) = v ∙ ap (slice_get c.args.graph.now.nodes) same ∙ line in
    absurd (cc node)

pub unreachable-requires-in-None : goal.unreachable-requires-in-None
unreachable-requires-in-None c =
    let inside : c.args.line < length (procedure_of c.args.proc.now).lines = omega (arith, c.requires.line, length-map c.args.proc.now.lines instruction_of) in
    let k = entry_there (procedure_of c.args.proc.now) c.args.graph.now c.args.line c.requires.lowered inside in
    let there = k.2 in
    let none = c.in-None.ensures.value in
    absurd (cc (there, none))
