-- Certificates stand behind the first line of an input that is exactly `%%` and is ended by a newline; what stands before it is the text.
use Rattle.std.specs.Prelude.{◌≡◌, ℕ, ◌+◌, ◌≤◌, ◌<◌, List, length, take, drop, codes, Option, None, Some}
use Rattle.cert_text.specs.Reading.{IsWhole}

-- such a line begins at this place
pub record IsMarkAt (input : List ℕ) (place : ℕ) : Type 0 where
  pub within : place + 3 ≤ length input
  pub mark : take 3 (drop place input) ≡ codes "%%\n"
  pub line : IsWhole (take place input)

-- the first such line begins at this place, or there is none
abbrev pub IsFirstMark : List ℕ → Option ℕ → Type 0
IsFirstMark input (Some place) = IsMarkAt input place × ((n : ℕ) → n < place → IsMarkAt input n → ⊥)
IsFirstMark input None = (n : ℕ) → IsMarkAt input n → ⊥
