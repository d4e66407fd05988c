use Rattle.std.proofs.Common.{◌≡◌, length, take}
use Rattle.il_core.specs.Text.{text_of}
use Rattle.malpas_literals.specs.Threatened.{AreThreatened}
use Rattle.malpas_literals.proofs.threats.all_threatened.Given as goal

abbrev pub invariant-loop-proc : goal.invariant-loop-proc
invariant-loop-proc l = record {
  found : AreThreatened (take (length l.all) (text_of l.text).procs) l.all;
  made : length l.all ≡ l.proc-index;
}
