-- Which section a word names, and which sections are selected once all words are read.
use Rattle.std.proofs.Common.{◌≡◌, ℕ, Bool, true, false, ◌||◌, List, [], ◌∷◌, refl, sym, ◌∙◌, ap, if◌then◌else◌}
use Rattle.std.specs.Prelude.{Option, Some, None, codes, bytes_eq, not}
use Rattle.std.proofs.lemmas.Slice.Eq.{bytes_eq-Decides}
use Rattle.request.specs.declared.selection.Selection.{Selection}
use Rattle.request.specs.declared.section.Section.{Section}
use Rattle.request.specs.declared.section.Section.TheVariants.{Control, Usage, Flow, Slice, Paths, Semantic, Inputs, Compliance, Certificates}
use Rattle.request.specs.Words.{section_word, named, selected, six_reports}
use Rattle.request.specs.Reading.{section_of, with_section, selection_of}
use Rattle.request.proofs.Numbers.{not_some}

-- a word is read as the section that it asks for
pub word_named : (s : Section) → section_of (section_word s) ≡ Some s
unfolding section_of
word_named Control = refl
word_named Usage = refl
word_named Flow = refl
word_named Slice = refl
word_named Paths = refl
word_named Semantic = refl
word_named Inputs = refl
word_named Compliance = refl
word_named Certificates = refl

-- one step of the choice among words
chosen : (word spelt : List ℕ) (x s : Section) (rest : Option Section) → spelt ≡ section_word x → (rest ≡ Some s → word ≡ section_word s)
    → (if bytes_eq word spelt then Some x else rest) ≡ Some s → word ≡ section_word s
chosen word spelt x s rest e claim h = by (bytes_eq word spelt) refl h
  where
    by : (b : Bool) → bytes_eq word spelt ≡ b → (if b then Some x else rest) ≡ Some s → word ≡ section_word s
    by true f g = let same : x ≡ s = cc in (bytes_eq-Decides word spelt).0 f ∙ e ∙ ap section_word same
    by false f g = claim g

pub named_word : (word : List ℕ) (s : Section) → section_of word ≡ Some s → word ≡ section_word s
unfolding section_of
named_word word s h =
    chosen word (codes "--control") Control s _ refl
    (chosen word (codes "--use") Usage s _ refl
    (chosen word (codes "--flow") Flow s _ refl
    (chosen word (codes "--slice") Slice s _ refl
    (chosen word (codes "--paths") Paths s _ refl
    (chosen word (codes "--semantic") Semantic s _ refl
    (chosen word (codes "--inputs") Inputs s _ refl
    (chosen word (codes "--compliance") Compliance s _ refl
    (chosen word (codes "--certificates") Certificates s None refl (λ g. absurd (not_some s g)))))))))) h

-- these sections, with those that were selected before
abbrev pub adding : Selection → List Section → Selection
adding s [] = s
adding s (x ∷ xs) = adding (with_section s x) xs

-- the one or the other section is selected
abbrev pub joined : Selection → Selection → Selection
joined a b = record {
  control = a.control || b.control;
  usage = a.usage || b.usage;
  flow = a.flow || b.flow;
  slice = a.slice || b.slice;
  paths = a.paths || b.paths;
  semantic = a.semantic || b.semantic;
  inputs = a.inputs || b.inputs;
  compliance = a.compliance || b.compliance;
  certificates = a.certificates || b.certificates;
}

abbrev pub no_section : Selection
no_section = record {
  control = false;
  usage = false;
  flow = false;
  slice = false;
  paths = false;
  semantic = false;
  inputs = false;
  compliance = false;
  certificates = false;
}

or_true : (b : Bool) → (b || true) ≡ true
or_true true = refl
or_true false = refl

-- a section that is selected anew
joined_more : (s : Selection) (x : Section) (xs : List Section) → joined (with_section s x) (named xs) ≡ joined s (named (x ∷ xs))
joined_more s Control xs = ap (λ (b : Bool). record (joined s (named (Control ∷ xs))) { control = b }) (sym (or_true s.control))
joined_more s Usage xs = ap (λ (b : Bool). record (joined s (named (Usage ∷ xs))) { usage = b }) (sym (or_true s.usage))
joined_more s Flow xs = ap (λ (b : Bool). record (joined s (named (Flow ∷ xs))) { flow = b }) (sym (or_true s.flow))
joined_more s Slice xs = ap (λ (b : Bool). record (joined s (named (Slice ∷ xs))) { slice = b }) (sym (or_true s.slice))
joined_more s Paths xs = ap (λ (b : Bool). record (joined s (named (Paths ∷ xs))) { paths = b }) (sym (or_true s.paths))
joined_more s Semantic xs = ap (λ (b : Bool). record (joined s (named (Semantic ∷ xs))) { semantic = b }) (sym (or_true s.semantic))
joined_more s Inputs xs = ap (λ (b : Bool). record (joined s (named (Inputs ∷ xs))) { inputs = b }) (sym (or_true s.inputs))
joined_more s Compliance xs = ap (λ (b : Bool). record (joined s (named (Compliance ∷ xs))) { compliance = b }) (sym (or_true s.compliance))
joined_more s Certificates xs = ap (λ (b : Bool). record (joined s (named (Certificates ∷ xs))) { certificates = b }) (sym (or_true s.certificates))

or_false : (b : Bool) → (b || false) ≡ b
or_false true = refl
or_false false = refl

-- nothing more is selected
joined_none : (s : Selection) → joined s (named []) ≡ s
joined_none s =
    ap (λ (b : Bool). record (joined s (named [])) { control = b }) (or_false s.control)
    ∙ ap (λ (b : Bool). record (joined s (named [])) { control = s.control; usage = b }) (or_false s.usage)
    ∙ ap (λ (b : Bool). record (joined s (named [])) { control = s.control; usage = s.usage; flow = b }) (or_false s.flow)
    ∙ ap (λ (b : Bool). record (joined s (named [])) { control = s.control; usage = s.usage; flow = s.flow; slice = b }) (or_false s.slice)
    ∙ ap (λ (b : Bool). record (joined s (named [])) { control = s.control; usage = s.usage; flow = s.flow; slice = s.slice; paths = b }) (or_false s.paths)
    ∙ ap (λ (b : Bool). record s { semantic = b; inputs = s.inputs || false; compliance = s.compliance || false; certificates = s.certificates || false }) (or_false s.semantic)
    ∙ ap (λ (b : Bool). record s { inputs = b; compliance = s.compliance || false; certificates = s.certificates || false }) (or_false s.inputs)
    ∙ ap (λ (b : Bool). record s { compliance = b; certificates = s.certificates || false }) (or_false s.compliance)
    ∙ ap (λ (b : Bool). record s { certificates = b }) (or_false s.certificates)

adding_joined : (s : Selection) (xs : List Section) → adding s xs ≡ joined s (named xs)
adding_joined s [] = sym (joined_none s)
adding_joined s (x ∷ xs) = adding_joined (with_section s x) xs ∙ joined_more s x xs

-- named sections are selected as they are
selects : (x : Section) (xs : List Section) → selection_of (named (x ∷ xs)) ≡ named (x ∷ xs)
selects Control xs = refl
selects Usage xs = let n = named (Usage ∷ xs) in ap (λ (z : Bool). if not (z || n.flow || n.slice || n.paths || n.semantic || n.inputs || n.compliance || n.certificates) then six_reports else n) (or_true n.control)
selects Flow xs = let n = named (Flow ∷ xs) in ap (λ (z : Bool). if not (z || n.slice || n.paths || n.semantic || n.inputs || n.compliance || n.certificates) then six_reports else n) (or_true (n.control || n.usage))
selects Slice xs = let n = named (Slice ∷ xs) in ap (λ (z : Bool). if not (z || n.paths || n.semantic || n.inputs || n.compliance || n.certificates) then six_reports else n) (or_true (n.control || n.usage || n.flow))
selects Paths xs = let n = named (Paths ∷ xs) in ap (λ (z : Bool). if not (z || n.semantic || n.inputs || n.compliance || n.certificates) then six_reports else n) (or_true (n.control || n.usage || n.flow || n.slice))
selects Semantic xs = let n = named (Semantic ∷ xs) in ap (λ (z : Bool). if not (z || n.inputs || n.compliance || n.certificates) then six_reports else n) (or_true (n.control || n.usage || n.flow || n.slice || n.paths))
selects Inputs xs = let n = named (Inputs ∷ xs) in ap (λ (z : Bool). if not (z || n.compliance || n.certificates) then six_reports else n) (or_true (n.control || n.usage || n.flow || n.slice || n.paths || n.semantic))
selects Compliance xs = let n = named (Compliance ∷ xs) in ap (λ (z : Bool). if not (z || n.certificates) then six_reports else n) (or_true (n.control || n.usage || n.flow || n.slice || n.paths || n.semantic || n.inputs))
selects Certificates xs = let n = named (Certificates ∷ xs) in ap (λ (z : Bool). if not z then six_reports else n) (or_true (n.control || n.usage || n.flow || n.slice || n.paths || n.semantic || n.inputs || n.compliance))

-- once all words are read, the sections that they name are selected, or each where they name none
pub selection_is : (xs : List Section) → selection_of (adding no_section xs) ≡ selected xs
selection_is [] = refl
selection_is (x ∷ xs) = ap selection_of (adding_joined no_section (x ∷ xs)) ∙ selects x xs
