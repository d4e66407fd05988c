-- The shares so far are at the front, and what is left gets shorter.
use Rattle.std.proofs.Common.{length}
use Rattle.cert_text.proofs.Stuck.{SoFar}
use Rattle.cert_text.proofs.reading.read_shares.Given as goal

abbrev pub invariant-lines : goal.invariant-lines
invariant-lines l = SoFar l.fn.text l.rest l.shares

abbrev pub decreases-lines : goal.decreases-lines
decreases-lines l = length l.rest
