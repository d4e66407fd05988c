-- Words spell a request where they are the spellings of wishes, one behind the other: of any sections, and of at most one number from 1 to 200.
use Rattle.std.specs.Prelude.{◌≡◌, ℕ, ◌≤◌, Bool, true, false, List, [], ◌∷◌, ◌++◌, codes, decimal, Option, None, Some, IfSome}
use Rattle.std.specs.List.{flat_map, list_any}
use Rattle.request.specs.declared.selection.Selection.{Selection}
use Rattle.request.specs.declared.section.Section.{Section}
use Rattle.request.specs.declared.section.Section.TheVariants.{Control, Usage, Flow, Slice, Paths, Semantic, Inputs, Compliance, Certificates}
use Rattle.request.specs.declared.spelt.Request.{Request}

-- what one or two words ask for: a section, or a text of this number, which is told apart or in the same word
pub data Wish : Type 0 where
  section : Section → Wish
  apart : ℕ → Wish
  joined : ℕ → Wish

-- the word that asks for a section
abbrev pub section_word : Section → List ℕ
section_word Control = codes "--control"
section_word Usage = codes "--use"
section_word Flow = codes "--flow"
section_word Slice = codes "--slice"
section_word Paths = codes "--paths"
section_word Semantic = codes "--semantic"
section_word Inputs = codes "--inputs"
section_word Compliance = codes "--compliance"
section_word Certificates = codes "--certificates"

-- the words of a wish
abbrev pub spelling : Wish → List (List ℕ)
spelling (section s) = section_word s ∷ []
spelling (apart n) = codes "--generate" ∷ decimal n ∷ []
spelling (joined n) = (codes "--generate=" ++ decimal n) ∷ []

-- the sections that a wish asks for
abbrev pub sections_of : Wish → List Section
sections_of (section s) = s ∷ []
sections_of (apart n) = []
sections_of (joined n) = []

-- the numbers that a wish tells
abbrev pub numbers_of : Wish → List ℕ
numbers_of (section s) = []
numbers_of (apart n) = n ∷ []
numbers_of (joined n) = n ∷ []

abbrev pub is_control : Section → Bool
is_control Control = true
is_control _ = false

abbrev pub is_usage : Section → Bool
is_usage Usage = true
is_usage _ = false

abbrev pub is_flow : Section → Bool
is_flow Flow = true
is_flow _ = false

abbrev pub is_slice : Section → Bool
is_slice Slice = true
is_slice _ = false

abbrev pub is_paths : Section → Bool
is_paths Paths = true
is_paths _ = false

abbrev pub is_semantic : Section → Bool
is_semantic Semantic = true
is_semantic _ = false

abbrev pub is_inputs : Section → Bool
is_inputs Inputs = true
is_inputs _ = false

abbrev pub is_compliance : Section → Bool
is_compliance Compliance = true
is_compliance _ = false

abbrev pub is_certificates : Section → Bool
is_certificates Certificates = true
is_certificates _ = false

-- the sections that are asked for
abbrev pub named : List Section → Selection
named sections = record {
  control = list_any is_control sections;
  usage = list_any is_usage sections;
  flow = list_any is_flow sections;
  slice = list_any is_slice sections;
  paths = list_any is_paths sections;
  semantic = list_any is_semantic sections;
  inputs = list_any is_inputs sections;
  compliance = list_any is_compliance sections;
  certificates = list_any is_certificates sections;
}

-- the six reports: each section but the slices, the test inputs and the certificates
abbrev pub six_reports : Selection
six_reports = record {
  control = true;
  usage = true;
  flow = true;
  slice = false;
  paths = true;
  semantic = true;
  inputs = false;
  compliance = true;
  certificates = false;
}

-- the sections that are asked for, or the six reports where none is
abbrev pub selected : List Section → Selection
selected [] = six_reports
selected (s ∷ ss) = named (s ∷ ss)

-- the list of what is there
abbrev pub list_of : Option ℕ → List ℕ
list_of None = []
list_of (Some n) = n ∷ []

-- a number of a text that can be made
abbrev pub IsNumber : ℕ → Type 0
IsNumber n = (1 ≤ n) × (n ≤ 200)

pub record IsRequest (words : List (List ℕ)) (request : Request) : Type 0 where
  pub wishes : List Wish
  pub spelt : words ≡ flat_map spelling wishes
  pub numbers : flat_map numbers_of wishes ≡ list_of request.generate
  pub range : IfSome request.generate IsNumber
  pub selection : request.selection ≡ selected (flat_map sections_of wishes)

-- the answer to words is the request that they spell, and `None` exactly where they spell none
abbrev pub Understands : List (List ℕ) → Option Request → Type 0
Understands words (Some request) = IsRequest words request
Understands words None = (request : Request) → IsRequest words request → ⊥

-- no words have two answers: no two requests, no request and none
abbrev pub OneRequest : Type 0
OneRequest = (words : List (List ℕ)) (a b : Option Request) → Understands words a → Understands words b → a ≡ b
