use Rattle.std.proofs.Common.{◌≡◌, map}
use Rattle.il_inline.proofs.expanding.expand.Given as goal

-- the parts of the procedures so far
abbrev pub invariant-loop-proc : goal.invariant-loop-proc
invariant-loop-proc l = record {
  procs : l.procs ≡ map (λ x. x.proc) l.yielded;
  origins : l.origins ≡ map (λ x. x.origins) l.yielded;
  spans : l.spans ≡ map (λ x. x.spans) l.yielded;
}
