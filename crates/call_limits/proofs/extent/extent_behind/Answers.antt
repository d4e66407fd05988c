use Rattle.std.proofs.Common.{sym, subst}
use Rattle.std.specs.Prelude.{Option, IfSome}
use Rattle.call_limits.specs.declared.measures.Measures.{Measures}
use Rattle.call_limits.specs.Measures.{IsSmall}
use Rattle.call_limits.proofs.Small.{small_called}
use Rattle.call_limits.proofs.extent.extent_behind.Goals as goal

pub with_call-requires : goal.with_call-requires
with_call-requires c = record {
  lines = c.requires.lines;
  brought = c.requires.brought;
  small = subst (λ (o : Option Measures). IfSome o IsSmall) (sym c.called.ensures)
      (small_called c.args.table.now c.args.setting.now c.in-Call.name c.requires.small);
}
