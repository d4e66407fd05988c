use Rattle.std.proofs.Common.{◌≡◌, sym, ap, ◌∙◌, subst, None, length}
use Rattle.std.proofs.lemmas.List.{length-map}
use Rattle.il_core.specs.Procedure.{instruction_of}
use Rattle.il_core.specs.Checked.{procedure_of}
use Rattle.region_paths.specs.Walk.{LeadInside}
use Rattle.region_paths.specs.Size.{IsPast}
use Rattle.region_paths.proofs.Sized.{lead_inside, begins, first_inside}
use Rattle.semantic_tables.specs.Walk.{is_long}
use Rattle.semantic_tables.proofs.Made.{made_found, small_exploration}
use Rattle.semantic_tables.proofs.making.explore.Goals as goal

pub found_in-requires-clause-exploration : goal.found_in-requires-clause-exploration
found_in-requires-clause-exploration c = record {
  checked = c.lines.ensures.checked;
  lowered = c.requires.lowered;
  leading = subst (LeadInside (procedure_of c.args.proc.now)) (sym c.as_slice-loops.ensures) (lead_inside (procedure_of c.args.proc.now) c.args.control.now c.requires.control);
}

pub found_in-requires-clause-line : goal.found_in-requires-clause-line
found_in-requires-clause-line c =
    first_inside (procedure_of c.args.proc.now) c.args.control.now.loops c.args.pc
    (begins (procedure_of c.args.proc.now) c.args.control.now c.args.pc c.lines.ensures.checked c.requires.control c.requires.shape c.requires.first)

pub found_in-requires-clause-small : goal.found_in-requires-clause-small
found_in-requires-clause-small c =
    let b = begins (procedure_of c.args.proc.now) c.args.control.now c.args.pc c.lines.ensures.checked c.requires.control c.requires.shape c.requires.first in
    let room : c.len-room.result ≡ length (procedure_of c.args.proc.now).lines = c.len-room.ensures ∙ ap length c.lines.ensures.value ∙ sym (length-map c.args.proc.now.lines instruction_of) in
    let past : IsPast (procedure_of c.args.proc.now) c.args.control.now.loops c.args.pc None = subst (IsPast (procedure_of c.args.proc.now) c.args.control.now.loops c.args.pc) c.in_default.is c.in_ok-limit.ensures in
    small_exploration (procedure_of c.args.proc.now) c.args.control.now.loops c.as_slice-loops.result.now c.args.pc c.len-room.result (is_long c.args.query) c.paths_are_listed.ensures c.one_listing.ensures b past
    c.as_slice-loops.ensures room

pub returns-clause-begins : goal.returns-clause-begins
returns-clause-begins c = begins (procedure_of c.args.proc.now) c.args.control.now c.args.pc c.lines.ensures.checked c.requires.control c.requires.shape c.requires.first

pub returns-clause-found : goal.returns-clause-found
returns-clause-found c =
    let b = begins (procedure_of c.args.proc.now) c.args.control.now c.args.pc c.lines.ensures.checked c.requires.control c.requires.shape c.requires.first in
    let room : c.len-room.result ≡ length (procedure_of c.args.proc.now).lines = c.len-room.ensures ∙ ap length c.lines.ensures.value ∙ sym (length-map c.args.proc.now.lines instruction_of) in
    let past : IsPast (procedure_of c.args.proc.now) c.args.control.now.loops c.args.pc None = subst (IsPast (procedure_of c.args.proc.now) c.args.control.now.loops c.args.pc) c.in_default.is c.in_ok-limit.ensures in
    made_found (procedure_of c.args.proc.now) c.args.control.now.loops c.as_slice-loops.result.now c.args.pc c.len-room.result c.args.query c.in_ok-found_in.field-0 c.paths_are_listed.ensures b past
    c.as_slice-loops.ensures room c.in_ok-found_in.ensures.adds

pub returns-in-Some-clause-found : goal.returns-in-Some-clause-found
returns-in-Some-clause-found c = subst (IsPast (procedure_of c.args.proc.now) c.args.control.now.loops c.args.pc) c.in-Some.is c.in_ok-limit.ensures
