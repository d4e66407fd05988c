use Rattle.std.proofs.Common.{All}
use Rattle.il_core.specs.Checked.{procedure_of}
use Rattle.region_paths.specs.Count.{IsFew, IsRaised}
use Rattle.region_paths.proofs.counting.raise_lines.Given as goal

abbrev pub invariant-loop-line : goal.invariant-loop-line
invariant-loop-line l = record {
  few : All IsFew l.counts;
  raised : IsRaised (procedure_of l.proc) l.graph l.heads l.initial.counts l.counts;
}
