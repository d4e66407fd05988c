-- Words that are spelt by wishes are read.
use Rattle.std.proofs.Common.{◌≡◌, ℕ, List, [], ◌∷◌, ◌++◌, refl, sym, ◌∙◌, ap, subst}
use Rattle.std.specs.Prelude.{Option, Some, None, codes, decimal, IfSome}
use Rattle.std.specs.List.{flat_map}
use Rattle.std.specs.Option.{option_and_then}
use Rattle.request.specs.declared.selection.Selection.{Selection}
use Rattle.request.specs.declared.asked.Asked.{Asked}
use Rattle.request.specs.declared.asked.Number.{Number}
use Rattle.request.specs.declared.asked.Number.TheVariants.{Untold, Due, Told}
use Rattle.request.specs.declared.section.Section.{Section}
use Rattle.request.specs.declared.spelt.Request.{Request}
use Rattle.request.specs.Words.{Wish, section, apart, joined, section_word, spelling, sections_of, numbers_of, list_of, IsNumber}
use Rattle.request.specs.Reading.{section_of, number_behind, with_section, told, after_name, selection_of, read_from}
use Rattle.request.proofs.Numbers.{to_find}
use Rattle.request.proofs.Named.{word_named, adding}
use Rattle.request.proofs.ReadIsSpelt.{read, given}

-- no number is due
abbrev pub IsSettled : Number → Type 0
IsSettled Due = ⊥
IsSettled _ = Unit {0}

-- what is left to be wished leads from these sections and this number to the request
pub record Leads (s : Selection) (number : Number) (wishes : List Wish) (r : Request) : Type 0 where
  pub numbers : given number ++ flat_map numbers_of wishes ≡ list_of r.generate
  pub range : IfSome r.generate IsNumber
  pub selection : r.selection ≡ selection_of (adding s (flat_map sections_of wishes))

abbrev Claim : List Wish → Type 0
Claim wishes = (s : Selection) (number : Number) (r : Request) → IsSettled number → Leads s number wishes r → read s number (flat_map spelling wishes) ≡ Some r

-- a list of at most one number with a first one
only : (o : Option ℕ) (n : ℕ) (ns : List ℕ) → n ∷ ns ≡ list_of o → IfSome o IsNumber → IsNumber n
only None n ns e h = absurd (let f : ◌≡◌ {A = List ℕ} (n ∷ ns) [] = e in cc)
only (Some m) n ns e h = let f : m ≡ n = cc in let P : ℕ → Type 0 = IsNumber in subst P f h

-- a list of at most one number has no two
not_two : (o : Option ℕ) (m n : ℕ) (ns : List ℕ) → m ∷ n ∷ ns ≡ list_of o → ⊥
not_two None m n ns e = let f : ◌≡◌ {A = List ℕ} (m ∷ n ∷ ns) [] = e in cc
not_two (Some k) m n ns e = let f : ◌≡◌ {A = List ℕ} (m ∷ n ∷ ns) (k ∷ []) = e in let g : ◌≡◌ {A = List ℕ} (n ∷ ns) [] = cc in cc

-- what was told is the number of the request
is_told : (o : Option ℕ) (number : Number) → IsSettled number → given number ++ [] ≡ list_of o → (s : Selection) → read s number [] ≡ Some (record { selection = selection_of s; generate = o })
unfolding read_from
is_told None Untold fine e s = refl
is_told (Some n) Untold fine e s = absurd (let f : ◌≡◌ {A = List ℕ} [] (n ∷ []) = e in cc)
is_told None (Told n) fine e s = absurd (let f : ◌≡◌ {A = List ℕ} (n ∷ []) [] = e in cc)
is_told (Some m) (Told n) fine e s = let f : n ≡ m = cc in ap (λ (k : ℕ). Some (record { selection = selection_of s; generate = Some k })) f
is_told o Due fine e s = absurd fine

none_left : Claim []
none_left s number r fine h = is_told r.generate number fine h.numbers s ∙ ap (λ (x : Selection). Some (record { selection = x; generate = r.generate })) (sym h.selection)

-- what follows a number that is found
goes_on : (words : List (List ℕ)) (s : Selection) (n : ℕ) (o : Option ℕ) (r : Request) → o ≡ Some n → read s (Told n) words ≡ Some r
    → option_and_then (λ (more : Asked). read_from more words) (told s o) ≡ Some r
goes_on words s n o r e h = ap (λ (x : Option ℕ). option_and_then (λ (more : Asked). read_from more words) (told s x)) e ∙ h

-- what follows a section that is named
names_on : (word : List ℕ) (words : List (List ℕ)) (s : Selection) (number : Number) (x : Section) (r : Request) → section_of word ≡ Some x → IsSettled number
    → read (with_section s x) number words ≡ Some r → read s number (word ∷ words) ≡ Some r
unfolding read_from
names_on word words s Untold x r e fine h =
    ap (λ (o : Option Section). option_and_then (λ (more : Asked). read_from more words) (after_name (record { sections = s; number = Untold }) word Untold o)) e ∙ h
names_on word words s (Told n) x r e fine h =
    ap (λ (o : Option Section). option_and_then (λ (more : Asked). read_from more words) (after_name (record { sections = s; number = Told n }) word (Told n) o)) e ∙ h
names_on word words s Due x r e fine h = absurd fine

-- the word that brings a number, and the number behind it
apart_on : (words : List (List ℕ)) (s : Selection) (n : ℕ) (r : Request) → IsNumber n → read s (Told n) words ≡ Some r
    → read s Untold (codes "--generate" ∷ decimal n ∷ words) ≡ Some r
unfolding read_from section_of
apart_on words s n r h e = goes_on words s n (number_behind [] (decimal n)) r (to_find [] (decimal n) n refl h) e

-- the word that has a number
joined_on : (words : List (List ℕ)) (s : Selection) (n : ℕ) (r : Request) → IsNumber n → read s (Told n) words ≡ Some r
    → read s Untold ((codes "--generate=" ++ decimal n) ∷ words) ≡ Some r
unfolding read_from section_of
joined_on words s n r h e = let word = codes "--generate=" ++ decimal n in goes_on words s n (number_behind (codes "--generate=") word) r (to_find (codes "--generate=") word n refl h) e

one_more : (wish : Wish) (wishes : List Wish) → Claim wishes → Claim (wish ∷ wishes)
one_more (section x) wishes claim s number r fine h = names_on (section_word x) (flat_map spelling wishes) s number x r (word_named x) fine
    (claim (with_section s x) number r fine (record { numbers = h.numbers; range = h.range; selection = h.selection }))
one_more (apart n) wishes claim s Untold r fine h = apart_on (flat_map spelling wishes) s n r (only r.generate n (flat_map numbers_of wishes) h.numbers h.range)
    (claim s (Told n) r tt (record { numbers = h.numbers; range = h.range; selection = h.selection }))
one_more (joined n) wishes claim s Untold r fine h = joined_on (flat_map spelling wishes) s n r (only r.generate n (flat_map numbers_of wishes) h.numbers h.range)
    (claim s (Told n) r tt (record { numbers = h.numbers; range = h.range; selection = h.selection }))
one_more (apart n) wishes claim s (Told m) r fine h = absurd (not_two r.generate m n (flat_map numbers_of wishes) h.numbers)
one_more (joined n) wishes claim s (Told m) r fine h = absurd (not_two r.generate m n (flat_map numbers_of wishes) h.numbers)
one_more (apart n) wishes claim s Due r fine h = absurd fine
one_more (joined n) wishes claim s Due r fine h = absurd fine

-- words that are spelt are read
pub spelt_read : (wishes : List Wish) → Claim wishes
spelt_read [] = none_left
spelt_read (wish ∷ wishes) = one_more wish wishes (spelt_read wishes)
