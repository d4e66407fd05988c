use Rattle.std.proofs.Common.{◌+◌, ◌-◌, vec_len}
use Rattle.il_edge.proofs.Calls.{IsTaken}
use Rattle.il_edge.proofs.whole.read_all.Given as goal

abbrev pub invariant-loop-piece : goal.invariant-loop-piece
invariant-loop-piece g l =
    IsTaken (g.S.Source.left l.fn.source) (g.S.Source.left l.source) (g.S.Source.faults l.fn.source) (g.S.Source.faults l.source)
    (g.S.Source.reads l.fn.source) (g.S.Source.reads l.source) l.limit l.taken.items

abbrev pub decreases-loop-piece : goal.decreases-loop-piece
decreases-loop-piece g l = l.limit + 1 - vec_len l.taken
