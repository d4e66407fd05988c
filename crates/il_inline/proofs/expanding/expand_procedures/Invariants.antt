use Rattle.std.proofs.Common.{◌≡◌, [], drop, map, length}
use Rattle.il_called.specs.Called.{procedure_of}
use Rattle.il_called.specs.Expansion.{callees_behind}
use Rattle.il_inline.specs.Held.{callees_held, HaveNames}
use Rattle.il_inline.proofs.expanding.expand_procedures.Given as goal

-- the procedures that are expanded, and those that come behind them, are all
abbrev pub invariant-loop-proc : goal.invariant-loop-proc
invariant-loop-proc l = record {
  size : length l.inlined.items ≡ l.proc-index;
  names : HaveNames l.written l.inlined.items;
  whole : callees_behind (callees_held l.written l.inlined.items) (map procedure_of (drop l.proc-index l.written)) ≡ callees_behind (callees_held l.written []) (map procedure_of l.written);
}
