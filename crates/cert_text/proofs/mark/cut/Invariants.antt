-- No line before this place parts the input.
use Rattle.std.proofs.Common.{◌<◌, ℕ}
use Rattle.cert_text.specs.Mark.{IsMarkAt}
use Rattle.cert_text.proofs.mark.cut.Given as goal

abbrev pub invariant-loop-place : goal.invariant-loop-place
invariant-loop-place l = (n : ℕ) → n < l.place → IsMarkAt l.input n → ⊥
