-- One more write behind some that have been made.
use Rattle.std.proofs.Common.{◌≡◌, ℕ, ◌++◌, List, Option, Result, ◌∙◌, arith}
use Rattle.std.proofs.KnownBytes.{Appends-trans}
use Rattle.il_edge.specs.Faults.{HasCause}
use Rattle.il_edge.specs.Known.{SameTold, Appends}
use Rattle.form_text.proofs.Written.{IsSoFar}

-- Behind one more whole write all is as it was behind the first ones, with its text at the end.
pub so_far_more : {T E : Type 0} (before mid now : Option (List ℕ)) (settled_before settled_mid settled_now : Option ℕ) (faults_before faults_mid faults_now : ℕ)
    (text more next : List ℕ) (result : Result T E) → IsSoFar before mid settled_before settled_mid faults_before faults_mid text
    → Appends mid now more → SameTold mid now → settled_now ≡ settled_mid → HasCause faults_mid faults_now result → next ≡ text ++ more
    → IsSoFar before now settled_before settled_now faults_before faults_now next
so_far_more before mid now settled_before settled_mid settled_now faults_before faults_mid faults_now text more next result so_far wrote told settled cause parts = record {
  wrote = rw parts (Appends-trans before mid now text more so_far.wrote wrote);
  told = told ∙ so_far.told;
  settled = settled ∙ so_far.settled;
  later = omega (arith, so_far.later, cause.later);
}
