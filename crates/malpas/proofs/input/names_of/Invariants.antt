use Rattle.std.proofs.Common.{◌≡◌, take, map}
use Rattle.malpas.proofs.input.names_of.Given as goal

abbrev pub invariant-loop-proc : goal.invariant-loop-proc
invariant-loop-proc l = l.names.items ≡ map (λ p. p.name) (take l.proc-index l.text.procs)
