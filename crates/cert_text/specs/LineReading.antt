-- A line is read word by word: what stands before the first space says which form it has.
use Rattle.std.specs.Prelude.{◌≡◌, ℕ, ◌==◌, nat_le, ◌&&◌, List, [], ◌∷◌, ◌++◌, codes, decimal, bytes_eq, Option, None, Some, if◌then◌else◌}
use Rattle.std.specs.Borrow.{Bor}
use Rattle.std.specs.Option.{option_map, option_and_then}
use Rattle.std.specs.Str.Parse.{digits_value}
use Rattle.il_core.specs.Name.{is_name}
use Rattle.il_core.specs.declared.certificate.Item.{Item}
use Rattle.il_core.specs.declared.certificate.Item.TheVariants.{Up, Down, Never, Low, High, OldUp, OldDown}
use Rattle.cert_text.specs.declared.line.Line.{Line}
use Rattle.cert_text.specs.declared.line.Line.TheVariants as lines
use Rattle.cert_text.specs.Line.{spelling, IsReadableLine}

-- what stands before the first such byte, and what stands behind it
unfoldable pub parted : ℕ → List ℕ → Option (List ℕ × List ℕ)
parted end [] = None
parted end (b ∷ bs) = if b == end then Some ([], bs) else option_map (λ x. (b ∷ x.0, x.1)) (parted end bs)

-- the number up to a greatest one that these digits spell
unfoldable pub number_read : ℕ → List ℕ → Option ℕ
number_read most digits = if nat_le (digits_value 10 digits) most && bytes_eq (decimal (digits_value 10 digits)) digits then Some (digits_value 10 digits) else None

abbrev pub not_none : ℕ → Option ℕ
not_none n = if n == 0 then None else Some n

abbrev pub factor_read : List ℕ → Option ℕ
factor_read digits = option_and_then not_none (number_read 65536 digits)

unfoldable pub item_read : List ℕ → ℕ → Option Item
item_read word i =
    if bytes_eq word (codes "UP") then Some (Up i)
    else (if bytes_eq word (codes "DOWN") then Some (Down i)
    else (if bytes_eq word (codes "NEVER") then Some (Never i)
    else (if bytes_eq word (codes "LOW") then Some (Low i)
    else (if bytes_eq word (codes "HIGH") then Some (High i)
    else (if bytes_eq word (codes "OLDUP") then Some (OldUp i)
    else (if bytes_eq word (codes "OLDDOWN") then Some (OldDown i)
    else None))))))

abbrev pub name_read : List ℕ → Option (List ℕ)
name_read word = if is_name word then Some word else None

abbrev pub head_number : List ℕ → List ℕ → Option Line
head_number digits p = option_map (λ t. lines.Head p t) (number_read 16384000 digits)

abbrev pub head_parts : List ℕ × List ℕ → Option Line
head_parts x = option_and_then (head_number x.1) (name_read x.0)

abbrev pub head_read : List ℕ → Option Line
head_read rest = option_and_then head_parts (parted 32 rest)

abbrev pub split_read : List ℕ → Option Line
split_read rest = option_map (λ i. lines.Split i) (number_read 16384000 rest)

abbrev pub shared : Item → ℕ → Line
shared item times = lines.Share (record { item = item; times = times })

abbrev pub share_factor : List ℕ → Item → Option Line
share_factor times item = option_map (shared item) (factor_read times)

abbrev pub share_item : List ℕ → List ℕ → ℕ → Option Line
share_item word times i = option_and_then (share_factor times) (item_read word i)

abbrev pub share_parts : List ℕ → List ℕ × List ℕ → Option Line
share_parts word x = option_and_then (share_item word x.1) (number_read 16384000 x.0)

abbrev pub share_read : List ℕ → List ℕ → Option Line
share_read word rest = option_and_then (share_parts word) (parted 32 rest)

abbrev pub bare_read : List ℕ → Option Line
bare_read word = if bytes_eq word (codes "SUM") then Some lines.Sum else (if bytes_eq word (codes "END") then Some lines.End else None)

abbrev pub worded_read : List ℕ → List ℕ → Option Line
worded_read word rest = if bytes_eq word (codes "CERT") then head_read rest else (if bytes_eq word (codes "SPLIT") then split_read rest else share_read word rest)

abbrev pub line_at : List ℕ → Option (List ℕ × List ℕ) → Option Line
line_at text None = bare_read text
line_at text (Some x) = worded_read x.0 x.1

unfoldable pub line_read : List ℕ → Option Line
line_read text = line_at text (parted 32 text)

-- the two parts at the first such byte
abbrev pub IsParted : Option (Bor (List ℕ) × Bor (List ℕ)) → Option (List ℕ × List ℕ) → Type 0
IsParted None parts = parts ≡ None
IsParted (Some x) parts = parts ≡ Some (x.0.now, x.1.now)

-- the line at the front, readable and ended by a newline, and what stands behind it
pub record StandsNext (text : List ℕ) (line : Line) (rest : List ℕ) : Type 0 where
  pub readable : IsReadableLine line
  pub is : text ≡ spelling line ++ 10 ∷ rest

abbrev pub NextIs : List ℕ → Option (Line × Bor (List ℕ)) → Type 0
NextIs text None = (line : Line) (rest : List ℕ) → StandsNext text line rest → ⊥
NextIs text (Some x) = StandsNext text x.0 x.1.now
