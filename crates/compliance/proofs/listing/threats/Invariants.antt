use Rattle.std.proofs.Common.{take}
use Rattle.il_core.specs.Checked.{procedure_of}
use Rattle.region_paths.specs.Region.{first_lines}
use Rattle.compliance.specs.Safe.{AreThreatsOf}
use Rattle.compliance.proofs.listing.threats.Given as goal

abbrev pub invariant-loop-info : goal.invariant-loop-info
invariant-loop-info l = AreThreatsOf (procedure_of l.fn.proc) l.fn.control.loops (first_lines (take l.info-index l.fn.control.loops)) l.found
