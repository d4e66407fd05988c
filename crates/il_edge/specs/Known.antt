-- What a call does to the bytes that a source has left or a sink holds, where these are told; nothing is said of bytes that are not told.
use Rattle.std.specs.Prelude.{◌≡◌, ℕ, ◌<◌, List, ◌++◌, length, Option, None, Some}
use Rattle.std.specs.Option.{is_some}
pub use Rattle.std.specs.Io.KnownBytes.{IsAtEnd, Appends, Consumes}

-- The bytes are not told.
abbrev pub untold : Option (List ℕ)
untold = None

-- The settled length is not told.
abbrev pub untold_length : Option ℕ
untold_length = None

-- The bytes are told now exactly where they were told before.
abbrev pub SameTold : Option (List ℕ) → Option (List ℕ) → Type 0
SameTold old new = is_some new ≡ is_some old

-- Some bytes have gone from the front of what was left.
abbrev pub Took : Option (List ℕ) → Option (List ℕ) → Type 0
Took old new = (bytes : List ℕ) × Consumes old new bytes

-- More than `limit` bytes have gone from the front of what was left.
abbrev pub TookMore : ℕ → Option (List ℕ) → Option (List ℕ) → Type 0
TookMore limit old new = (bytes : List ℕ) × (limit < length bytes) × Consumes old new bytes

-- What is held has grown by a prefix of `bytes`.
abbrev pub AppendsPrefix : Option (List ℕ) → Option (List ℕ) → List ℕ → Type 0
AppendsPrefix old new bytes = (front : List ℕ) × (rest : List ℕ) × (bytes ≡ front ++ rest) × Appends old new front

-- The settled length is the length of all that is held.
abbrev pub IsSettled : Option (List ℕ) → Option ℕ → Type 0
IsSettled None settled = Unit {0}
IsSettled (Some held) settled = settled ≡ Some (length held)
