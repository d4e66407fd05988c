use Rattle.std.proofs.Common.{◌≡◌, take}
use Rattle.summary_text.specs.Summary.{counts_of}
use Rattle.summary_text.proofs.counts.counts_of.Given as goal

abbrev pub invariant-loop-part : goal.invariant-loop-part
invariant-loop-part l = l.counts ≡ counts_of (take l.part-index l.procs)
