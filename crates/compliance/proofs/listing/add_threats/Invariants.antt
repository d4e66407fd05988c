use Rattle.std.proofs.Common.{◌≡◌, List, map, take, length, filter}
use Rattle.il_core.specs.Checked.{procedure_of}
use Rattle.region_paths.specs.Listing.{RegionPath}
use Rattle.semantic_tables.specs.Hazards.{hazard_of, normal_hazard}
use Rattle.compliance.specs.Behind.{is_bad_behind, AddsTold}
use Rattle.compliance.proofs.listing.add_threats.Given as goal

abbrev pub invariant-loop-hazard : goal.invariant-loop-hazard
invariant-loop-hazard l = record {
  can : (goal.iterator-loop-hazard).can_next l.hazard-iterator;
  finite : (goal.iterator-loop-hazard).is_finite l.hazard-iterator;
  told : (paths : List RegionPath) → map hazard_of l.fn.hazards ≡ map normal_hazard paths
      → AddsTold (procedure_of l.fn.proc) l.fn.pc (filter (is_bad_behind (procedure_of l.fn.proc) l.fn.leading) (take (length l.yielded) paths)) l.initial.found l.found;
}
