-- The lines in which certificates are written, and how each is spelt: words with one space between them, numbers in digits without leading zeros.
use Rattle.std.specs.Prelude.{ℕ, ◌≤◌, IsTrue, List, ◌++◌, codes, decimal}
use Rattle.std.specs.List.{flat_map}
use Rattle.il_core.specs.Name.{is_name}
use Rattle.il_core.specs.declared.certificate.Item.{Item}
use Rattle.il_core.specs.declared.certificate.Item.TheVariants.{Up, Down, Never, Low, High, OldUp, OldDown}
use Rattle.il_core.specs.declared.certificate.Share.{Share}
use Rattle.cert_text.specs.declared.line.Line.{Line}
use Rattle.cert_text.specs.declared.line.Line.TheVariants as lines

-- the word of an item, and the literal or place that it counts
abbrev pub item_word : Item → List ℕ
item_word (Up i) = codes "UP"
item_word (Down i) = codes "DOWN"
item_word (Never i) = codes "NEVER"
item_word (Low p) = codes "LOW"
item_word (High p) = codes "HIGH"
item_word (OldUp p) = codes "OLDUP"
item_word (OldDown p) = codes "OLDDOWN"

abbrev pub item_index : Item → ℕ
item_index (Up i) = i
item_index (Down i) = i
item_index (Never i) = i
item_index (Low p) = p
item_index (High p) = p
item_index (OldUp p) = p
item_index (OldDown p) = p

-- the bytes of a line, but for the newline that ends it
abbrev pub spelling : Line → List ℕ
spelling (lines.Head procedure threat) = codes "CERT " ++ (procedure ++ (codes " " ++ decimal threat))
spelling (lines.Split literal) = codes "SPLIT " ++ decimal literal
spelling lines.Sum = codes "SUM"
spelling (lines.Share share) = item_word share.item ++ (codes " " ++ (decimal (item_index share.item) ++ (codes " " ++ decimal share.times)))
spelling lines.End = codes "END"

-- lines, each ended by a newline
unfoldable pub text_of : List Line → List ℕ
text_of ls = flat_map (λ line. spelling line ++ codes "\n") ls

-- no number is above 16,384,000, no factor above 65,536 or 0
abbrev pub IsReadableShare : Share → Type 0
IsReadableShare share = (item_index share.item ≤ 16384000) × (1 ≤ share.times) × (share.times ≤ 65536)

abbrev pub IsReadableLine : Line → Type 0
IsReadableLine (lines.Head procedure threat) = IsTrue (is_name procedure) × (threat ≤ 16384000)
IsReadableLine (lines.Split literal) = literal ≤ 16384000
IsReadableLine (lines.Share share) = IsReadableShare share
IsReadableLine _ = Unit {0}
