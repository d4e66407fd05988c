-- What words ask for is read from left to right: each word is a number where one is due, else it names a section, or brings the one number.
use Rattle.std.specs.Prelude.{ℕ, zero, suc, Bool, true, ◌||◌, not, List, [], ◌∷◌, ◌++◌, codes, decimal, Option, None, Some, bytes_eq, if◌then◌else◌}
use Rattle.std.specs.Option.{option_and_then}
use Rattle.request.specs.declared.selection.Selection.{Selection}
use Rattle.request.specs.declared.asked.Asked.{Asked}
use Rattle.request.specs.declared.asked.Number.{Number}
use Rattle.request.specs.declared.asked.Number.TheVariants.{Untold, Due, Told}
use Rattle.request.specs.declared.section.Section.{Section}
use Rattle.request.specs.declared.section.Section.TheVariants.{Control, Usage, Flow, Slice, Paths, Semantic, Inputs, Compliance, Certificates}
use Rattle.request.specs.declared.spelt.Request.{Request}
use Rattle.request.specs.Words.{six_reports}

-- the section that a word asks for
unfoldable pub section_of : List ℕ → Option Section
section_of word =
    if bytes_eq word (codes "--control") then Some Control
    else (if bytes_eq word (codes "--use") then Some Usage
    else (if bytes_eq word (codes "--flow") then Some Flow
    else (if bytes_eq word (codes "--slice") then Some Slice
    else (if bytes_eq word (codes "--paths") then Some Paths
    else (if bytes_eq word (codes "--semantic") then Some Semantic
    else (if bytes_eq word (codes "--inputs") then Some Inputs
    else (if bytes_eq word (codes "--compliance") then Some Compliance
    else (if bytes_eq word (codes "--certificates") then Some Certificates
    else None))))))))

-- the number, up to this one, whose digits stand behind the front in the word
unfoldable pub number_to : List ℕ → ℕ → List ℕ → Option ℕ
number_to front zero word = None
number_to front (suc n) word = if bytes_eq word (front ++ decimal (suc n)) then Some (suc n) else number_to front n word

-- the number from 1 to 200 whose digits stand behind the front in the word
unfoldable pub number_behind : List ℕ → List ℕ → Option ℕ
number_behind front word = number_to front 200 word

abbrev pub number_of : List ℕ → Option ℕ
number_of word = number_behind [] word

-- the number behind `--generate=` in the same word
abbrev pub joined_number : List ℕ → Option ℕ
joined_number word = number_behind (codes "--generate=") word

abbrev pub with_section : Selection → Section → Selection
with_section s Control = record s { control = true }
with_section s Usage = record s { usage = true }
with_section s Flow = record s { flow = true }
with_section s Slice = record s { slice = true }
with_section s Paths = record s { paths = true }
with_section s Semantic = record s { semantic = true }
with_section s Inputs = record s { inputs = true }
with_section s Compliance = record s { compliance = true }
with_section s Certificates = record s { certificates = true }

abbrev pub told : Selection → Option ℕ → Option Asked
told sections None = None
told sections (Some n) = Some (record { sections = sections; number = Told n })

abbrev pub begun : Selection → List ℕ → Option Asked
begun sections word = if bytes_eq word (codes "--generate") then Some (record { sections = sections; number = Due }) else told sections (joined_number word)

-- what is asked behind a word that is no number, by the section that it names
abbrev pub after_name : Asked → List ℕ → Number → Option Section → Option Asked
after_name asked word number (Some s) = Some (record { sections = with_section asked.sections s; number = number })
after_name asked word Untold None = begun asked.sections word
after_name asked word _ None = None

abbrev pub after_at : Asked → List ℕ → Number → Option Asked
after_at asked word Due = told asked.sections (number_of word)
after_at asked word number = after_name asked word number (section_of word)

abbrev pub after_word : Asked → List ℕ → Option Asked
after_word asked word = after_at asked word asked.number

abbrev pub is_none : Selection → Bool
is_none s = not (s.control || s.usage || s.flow || s.slice || s.paths || s.semantic || s.inputs || s.compliance || s.certificates)

abbrev pub selection_of : Selection → Selection
selection_of s = if is_none s then six_reports else s

abbrev pub request_at : Selection → Number → Option Request
request_at selection Untold = Some (record { selection = selection; generate = None })
request_at selection (Told n) = Some (record { selection = selection; generate = Some n })
request_at selection Due = None

abbrev pub request_of : Asked → Option Request
request_of asked = request_at (selection_of asked.sections) asked.number

-- the request that words ask for behind what was asked before them
unfoldable pub read_from : Asked → List (List ℕ) → Option Request
read_from asked [] = request_of asked
read_from asked (word ∷ words) = option_and_then (λ more. read_from more words) (after_word asked word)
