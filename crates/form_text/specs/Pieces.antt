-- A text that goes out in pieces is their concatenation, and a call that puts a text into a sink leaves all of it there or, where it failed, a
-- prefix of it.
use Rattle.std.specs.Prelude.{◌≡◌, ℕ, List, Option, Result, MatchResult}
use Rattle.std.specs.List.{flat_map}
use Rattle.std.specs.Borrow.{Bor}
use Rattle.il_edge.specs.Faults.{HasCause}
use Rattle.il_edge.specs.Known.{Appends, AppendsPrefix, SameTold}

-- the pieces, one after the other
abbrev pub joined : List (Bor (List ℕ)) → List ℕ
joined pieces = flat_map (λ (piece : Bor (List ℕ)). piece.now) pieces

-- What is held has grown by the text, or by a prefix of it where the call failed.
abbrev pub Writes : {T E : Type 0} → Option (List ℕ) → Option (List ℕ) → Result T E → List ℕ → Type 0
Writes old new result text = MatchResult result (λ _. Appends old new text) (λ _. AppendsPrefix old new text)

-- A call puts a text into a sink that is seen by what it holds, the length of it that is settled, and its count of faults: it writes the text,
-- leaves what is settled as it was, and fails only by a fault of the sink.
pub record Puts {K T E : Type 0} (held : K → Option (List ℕ)) (settled_length : K → Option ℕ) (faults : K → ℕ) (old new : K) (result : Result T E) (bytes : List ℕ) : Type 0 where
  pub text : Writes (held old) (held new) result bytes
  pub told : SameTold (held old) (held new)
  pub settled : settled_length new ≡ settled_length old
  pub cause : HasCause (faults old) (faults new) result
