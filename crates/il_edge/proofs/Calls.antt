-- What the loops of a whole read and a whole write keep from call to call.
use Rattle.std.proofs.Common.{◌≡◌, ℕ, ◌+◌, ◌≤◌, List, ◌++◌, length, take, drop, Option, ap, sym, ◌∙◌, append_assoc, take-append-drop}
use Rattle.il_edge.specs.Known.{SameTold, Consumes, Appends}

-- After some reads of a whole read: `taken` has gone from what was left, in at most one read for each of its bytes and
-- at most `limit + 1` reads, and the faults have not fallen.
pub record IsTaken (before now : Option (List ℕ)) (faults_before faults_now reads_before reads_now limit : ℕ) (taken : List ℕ) : Type 0 where
  pub took : Consumes before now taken
  pub told : SameTold before now
  pub later : faults_before ≤ faults_now
  pub one_each : reads_now ≤ reads_before + length taken
  pub few : reads_now ≤ reads_before + limit + 1

-- After some writes of a whole write: a front of `bytes` is written and `rest` is still to come, the faults have not
-- fallen, and what is settled is as before.
pub record IsWritten (before now : Option (List ℕ)) (settled_before settled_now : Option ℕ) (faults_before faults_now : ℕ) (bytes rest : List ℕ) : Type 0 where
  pub front : List ℕ
  pub parts : bytes ≡ front ++ rest
  pub wrote : Appends before now front
  pub told : SameTold before now
  pub settled : settled_now ≡ settled_before
  pub later : faults_before ≤ faults_now

-- the first `n` bytes of the rest move to the front
pub parts-moved : (bytes front rest : List ℕ) (n : ℕ) → bytes ≡ front ++ rest → bytes ≡ (front ++ take n rest) ++ drop n rest
parts-moved bytes front rest n parts =
    parts ∙ ap (λ l. front ++ l) (sym (take-append-drop n rest)) ∙ sym (append_assoc front (take n rest) (drop n rest))
