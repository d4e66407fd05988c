use Rattle.std.proofs.Common.{◌≡◌, sym, ap, ◌∙◌, subst, ℕ, Some, None, map, length, arith}
use Rattle.std.proofs.lemmas.List.{length-map}
use Rattle.il_core.specs.Procedure.{instruction_of}
use Rattle.il_core.specs.Checked.{procedure_of}
use Rattle.sym_terms.specs.Measure.{measured}
use Rattle.sym_terms.specs.Identity.{own_values}
use Rattle.sym_terms.proofs.Composed.{length-own_values}
use Rattle.test_graph.specs.Decision.{decision_at}
use Rattle.region_paths.specs.Walk.{LeadInside}
use Rattle.region_paths.specs.Size.{IsPast}
use Rattle.region_paths.specs.Count.{ArePathCounts}
use Rattle.region_paths.proofs.Sized.{lead_inside, begins, first_inside, past_from}
use Rattle.region_paths.proofs.Settled.{past_rows}
use Rattle.region_paths.proofs.Walking.{stands_line, is_some, is_none}
use Rattle.region_paths.proofs.sizing.Sizes.limit.Goals as goal

pub first_node-first-requires-clause-line : goal.first_node-first-requires-clause-line
first_node-first-requires-clause-line c =
    let b = begins (procedure_of c.args.proc.now) c.args.control.now c.args.pc c.places.ensures.checked c.requires.control c.requires.shape c.requires.first in
    omega (arith, first_inside (procedure_of c.args.proc.now) c.args.control.now.loops c.args.pc b, length-map c.args.proc.now.lines instruction_of)

pub follow-within-requires-clause-stands : goal.follow-within-requires-clause-stands
follow-within-requires-clause-stands c =
    stands_line (procedure_of c.args.proc.now) c.args.graph.now c.args.pc c.first_node-first.result c.places.ensures.checked c.first_node-first.ensures.unfolds

pub follow-within-requires-clause-leading : goal.follow-within-requires-clause-leading
follow-within-requires-clause-leading c =
    subst (LeadInside (procedure_of c.args.proc.now)) (sym c.as_slice-loops.ensures) (lead_inside (procedure_of c.args.proc.now) c.args.control.now c.requires.control)

pub follow-within-requires-clause-size : goal.follow-within-requires-clause-size
follow-within-requires-clause-size c =
    let count : c.len-places.result ≡ length c.args.proc.now.places = c.len-places.ensures ∙ ap length c.places.ensures.value in
    let sizes : c.deref_mut.result.now ≡ map measured (own_values (length c.args.proc.now.places)) =
    c.deref_mut.ensures.value ∙ c.in_ok-sizes.ensures.sizes ∙ ap (λ (k : ℕ). map measured (own_values k)) count in
    ap length sizes ∙ length-map (own_values (length c.args.proc.now.places)) measured ∙ length-own_values (length c.args.proc.now.places)

pub returns-then-within : goal.returns-then-within
returns-then-within c =
    let b = begins (procedure_of c.args.proc.now) c.args.control.now c.args.pc c.places.ensures.checked c.requires.control c.requires.shape c.requires.first in
    let count : c.len-places.result ≡ length c.args.proc.now.places = c.len-places.ensures ∙ ap length c.places.ensures.value in
    let sizes : c.deref_mut.result.now ≡ map measured (own_values (length c.args.proc.now.places)) =
    c.deref_mut.ensures.value ∙ c.in_ok-sizes.ensures.sizes ∙ ap (λ (k : ℕ). map measured (own_values k)) count in
    let room : c.len.result ≡ length (procedure_of c.args.proc.now).lines = c.len.ensures ∙ ap length c.lines.ensures.value ∙ sym (length-map c.args.proc.now.lines instruction_of) in
    subst (IsPast (procedure_of c.args.proc.now) c.args.control.now.loops c.args.pc) (sym c.limit.ensures)
    (past_from (procedure_of c.args.proc.now) c.args.control.now.loops c.args.pc (Some c.follow-within.new.tally) c.as_slice-loops.result.now c.len.result c.empty-tally.result c.paths_are_listed.ensures b c.as_slice-loops.ensures room c.empty-tally.ensures
    (is_some c.follow-within.result c.follow-within.new.tally _ c.if-within.true
    (c.follow-within.ensures.exact (own_values (length c.args.proc.now.places)) (decision_at (procedure_of c.args.proc.now) c.args.pc) (sym sizes) c.first_node-first.ensures.unfolds)))

pub returns : goal.returns
returns c =
    let b = begins (procedure_of c.args.proc.now) c.args.control.now c.args.pc c.places.ensures.checked c.requires.control c.requires.shape c.requires.first in
    let count : c.len-places.result ≡ length c.args.proc.now.places = c.len-places.ensures ∙ ap length c.places.ensures.value in
    let sizes : c.deref_mut.result.now ≡ map measured (own_values (length c.args.proc.now.places)) =
    c.deref_mut.ensures.value ∙ c.in_ok-sizes.ensures.sizes ∙ ap (λ (k : ℕ). map measured (own_values k)) count in
    let room : c.len.result ≡ length (procedure_of c.args.proc.now).lines = c.len.ensures ∙ ap length c.lines.ensures.value ∙ sym (length-map c.args.proc.now.lines instruction_of) in
    past_from (procedure_of c.args.proc.now) c.args.control.now.loops c.args.pc None c.as_slice-loops.result.now c.len.result c.empty-tally.result c.paths_are_listed.ensures b c.as_slice-loops.ensures room c.empty-tally.ensures
    (is_none c.follow-within.result c.follow-within.new.tally _ c.if-within.false
    (c.follow-within.ensures.exact (own_values (length c.args.proc.now.places)) (decision_at (procedure_of c.args.proc.now) c.args.pc) (sym sizes) c.first_node-first.ensures.unfolds))

pub path_count-requires-clause-counts : goal.path_count-requires-clause-counts
path_count-requires-clause-counts c =
    subst (ArePathCounts (procedure_of c.args.proc.now) c.args.control.now.loops c.args.graph.now) (sym c.deref.ensures.value) c.requires.sizes.counts

pub returns-then-path_count-gt-MOST_PATHS : goal.returns-then-path_count-gt-MOST_PATHS
returns-then-path_count-gt-MOST_PATHS c =
    let b = begins (procedure_of c.args.proc.now) c.args.control.now c.args.pc c.places.ensures.checked c.requires.control c.requires.shape c.requires.first in
    past_rows (procedure_of c.args.proc.now) c.args.control.now.loops c.args.pc c.path_count.result c.paths_are_listed.ensures b
    c.path_count.ensures c.if-path_count-gt-MOST_PATHS.true
