use Rattle.std.proofs.Common.{◌≡◌, length, take}
use Rattle.row_inputs.specs.Heads.{AreMarked}
use Rattle.row_inputs.proofs.heads.mark_heads.Given as goal

-- the heads of the loops so far are marked
abbrev pub invariant-loop-info : goal.invariant-loop-info
invariant-loop-info l = record {
  size : length l.marks ≡ length l.initial.marks;
  each : AreMarked (take l.info-index l.loops) l.marks;
}
