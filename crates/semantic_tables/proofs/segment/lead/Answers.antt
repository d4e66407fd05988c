use Rattle.std.proofs.Common.{◌≡◌, sym, ap, ◌∙◌, subst, ℕ, Some, None, List, slice_get, arith}
use Rattle.std.proofs.lemmas.List.{length-map}
use Rattle.std.proofs.lemmas.Option.{slice_get-get_or, slice_get_past}
use Rattle.il_core.specs.Procedure.{instruction_of}
use Rattle.region_paths.specs.PathTree.{stops}
use Rattle.il_core.specs.declared.line.Stop.TheVariants as stop
use Rattle.semantic_tables.specs.Walk.{explored_procedure}
use Rattle.semantic_tables.proofs.Segments.{loop_there, line_inside, leads_on, lead_ends}
use Rattle.semantic_tables.proofs.segment.lead.Goals as goal

pub first_node-requires-clause-line : goal.first_node-requires-clause-line
first_node-requires-clause-line c =
    let l = loop_there c.args.exploration.loops.now c.args.at c.requires.segment in
    let e = c.leading_at.ensures l.0 l.1 in
    let there : slice_get c.leading_at.result.now c.args.from ≡ Some c.in-Some.line.now = let v = c.in-Some.ensures.lookup in slice_get-get_or c.leading_at.result.now c.args.from c.in-Some.line.now v.3.0 ∙ ap Some (sym v.1) in
    let inside = line_inside c.args.exploration c.args.at c.args.from c.in-Some.line.now l.0 c.requires.exploration l.1 (subst (λ (xs : List ℕ). slice_get xs c.args.from ≡ Some c.in-Some.line.now) e there) in
    omega (arith, inside, length-map c.args.exploration.proc.now.lines instruction_of)

pub returns-in-Some : goal.returns-in-Some
returns-in-Some c = λ q.
    let l = loop_there c.args.exploration.loops.now c.args.at c.requires.segment in
    let e = c.leading_at.ensures l.0 l.1 in
    let there : slice_get c.leading_at.result.now c.args.from ≡ Some c.in-Some.line.now = let v = c.in-Some.ensures.lookup in slice_get-get_or c.leading_at.result.now c.args.from c.in-Some.line.now v.3.0 ∙ ap Some (sym v.1) in
    leads_on c.args.exploration c.args.at c.args.from c.in-Some.line.now c.first_node.result l.0 c.requires.exploration c.requires.segment l.1
    (subst (λ (xs : List ℕ). slice_get xs c.args.from ≡ Some c.in-Some.line.now) e there) c.first_node.ensures.unfolds

pub returns-in-None : goal.returns-in-None
returns-in-None c = λ q.
    let l = loop_there c.args.exploration.loops.now c.args.at c.requires.segment in
    let e = c.leading_at.ensures l.0 l.1 in
    let none : None ≡ slice_get c.leading_at.result.now c.args.from = sym (slice_get_past c.leading_at.result.now c.args.from c.in-None.ensures.lookup.3) in
    lead_ends (explored_procedure c.args.exploration) (slice_get c.args.exploration.loops.now c.args.at) l.0 c.args.from l.1 (subst (λ (xs : List ℕ). None ≡ slice_get xs c.args.from) e none)
    ∙ ap (λ (n : ℕ). stops (stop.Head n)) (sym (c.head_at.ensures l.0 l.1))
