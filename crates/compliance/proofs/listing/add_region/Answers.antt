use Rattle.std.proofs.Common.{sym, subst, Some, None, Ok, Err, OnOk}
use Rattle.std.specs.Prelude.{Result}
use Rattle.il_core.specs.declared.memory.NoMemory.{NoMemory}
use Rattle.il_core.specs.Checked.{procedure_of}
use Rattle.region_paths.specs.Size.{IsPast}
use Rattle.region_paths.specs.Walk.{AreLines}
use Rattle.region_paths.proofs.Sized.{begins}
use Rattle.semantic_tables.specs.Hazards.{IsHazard, AreHazardsOf, HaveLeast}
use Rattle.semantic_tables.specs.declared.hazard.HazardsOr.TheVariants.{Hazards}
use Rattle.compliance.proofs.Bounded.{leading_inside}
use Rattle.compliance.proofs.Regions.{hazards_behind, adds_none, adds_threats}
use Rattle.compliance.proofs.listing.add_region.Goals as goal

pub add_threats-requires-clause-leading : goal.add_threats-requires-clause-leading
add_threats-requires-clause-leading c =
    let b = begins (procedure_of c.args.proc.now) c.args.control.now c.args.pc c.requires.checked c.requires.control c.requires.shape c.requires.first in
    subst (AreLines (procedure_of c.args.proc.now)) (sym c.requires.leading) (leading_inside (procedure_of c.args.proc.now) c.args.control.now.loops c.args.pc b.regions)

pub add_threats-requires-clause-hazards : goal.add_threats-requires-clause-hazards
add_threats-requires-clause-hazards c =
    let b = begins (procedure_of c.args.proc.now) c.args.control.now c.args.pc c.requires.checked c.requires.control c.requires.shape c.requires.first in
    let k : IsPast (procedure_of c.args.proc.now) c.args.control.now.loops c.args.pc None × AreHazardsOf (IsHazard (procedure_of c.args.proc.now) c.args.control.now.loops c.args.pc) c.in-Hazards.list =
    rw c.in-Hazards.is at c.in_ok-hazards_by.ensures.hazards in
    let least : HaveLeast c.args.proc.now.places c.args.pc (Hazards c.in-Hazards.list) = rw c.in-Hazards.is at c.in_ok-hazards_by.ensures.least in
    hazards_behind (procedure_of c.args.proc.now) c.args.control.now.loops c.args.pc c.args.leading.now c.in-Hazards.list c.ways_go_along_arcs.ensures b c.requires.leading k.1 least

pub returns-in-Past : goal.returns-in-Past
returns-in-Past c =
    let k : IsPast (procedure_of c.args.proc.now) c.args.control.now.loops c.args.pc (Some c.in-Past.field-0) = rw c.in-Past.is at c.in_ok-hazards_by.ensures.hazards in
    adds_none (procedure_of c.args.proc.now) c.args.control.now.loops c.args.pc c.in-Past.field-0 c.args.found.now k

on_ok : (r : Result (Unit {0}) NoMemory) (X Y : Type 0) → (Y → X) → OnOk r Y → OnOk r X
on_ok (Ok a) X Y f h = f h
on_ok (Err e) X Y f h = h

pub returns-in-Hazards : goal.returns-in-Hazards
returns-in-Hazards c =
    let b = begins (procedure_of c.args.proc.now) c.args.control.now c.args.pc c.requires.checked c.requires.control c.requires.shape c.requires.first in
    let k : IsPast (procedure_of c.args.proc.now) c.args.control.now.loops c.args.pc None × AreHazardsOf (IsHazard (procedure_of c.args.proc.now) c.args.control.now.loops c.args.pc) c.in-Hazards.list =
    rw c.in-Hazards.is at c.in_ok-hazards_by.ensures.hazards in
    on_ok c.add_threats.result _ _
    (λ told.
    adds_threats (procedure_of c.args.proc.now) c.args.control.now.loops c.args.pc c.args.leading.now c.in-Hazards.list c.args.found.now c.add_threats.new.found c.ways_go_along_arcs.ensures
    b.regions c.requires.leading k.0 k.1 told)
    c.add_threats.ensures
