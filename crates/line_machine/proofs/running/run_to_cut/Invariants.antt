use Rattle.il_core.specs.Checked.{procedure_of}
use Rattle.line_machine.proofs.Ways.{IsOnWay}
use Rattle.line_machine.proofs.running.run_to_cut.Given as goal

-- the steps so far came to no marked line
abbrev pub invariant-loop-taken : goal.invariant-loop-taken
invariant-loop-taken l = IsOnWay (procedure_of l.proc) l.cuts l.fn.pc l.fn.vals l._taken l.line l.vals
