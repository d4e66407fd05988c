-- Words that are read are spelt by wishes.
use Rattle.std.proofs.Common.{◌≡◌, ℕ, Bool, true, false, List, [], ◌∷◌, ◌++◌, refl, sym, ◌∙◌, ap, subst, if◌then◌else◌}
use Rattle.std.specs.Prelude.{Option, Some, None, codes, decimal, bytes_eq, IfSome}
use Rattle.std.specs.List.{flat_map}
use Rattle.std.specs.Option.{option_and_then}
use Rattle.std.proofs.lemmas.Slice.Eq.{bytes_eq-Decides}
use Rattle.request.specs.declared.selection.Selection.{Selection}
use Rattle.request.specs.declared.asked.Asked.{Asked}
use Rattle.request.specs.declared.asked.Number.{Number}
use Rattle.request.specs.declared.asked.Number.TheVariants.{Untold, Due, Told}
use Rattle.request.specs.declared.section.Section.{Section}
use Rattle.request.specs.declared.spelt.Request.{Request}
use Rattle.request.specs.Words.{Wish, section, apart, joined, section_word, spelling, sections_of, numbers_of, list_of, IsNumber}
use Rattle.request.specs.Reading.{section_of, number_behind, with_section, told, begun, after_name, selection_of, read_from}
use Rattle.request.proofs.Numbers.{not_some, found}
use Rattle.request.proofs.Named.{named_word, adding}

-- what words ask for behind these sections and this number
abbrev pub read : Selection → Number → List (List ℕ) → Option Request
read s number words = read_from (record { sections = s; number = number }) words

-- the number that is told
abbrev pub given : Number → List ℕ
given Untold = []
given Due = []
given (Told n) = n ∷ []

abbrev pub IsFine : Number → Type 0
IsFine Untold = Unit {0}
IsFine Due = Unit {0}
IsFine (Told n) = IsNumber n

-- the words are spelt by wishes, which lead from these sections and this number to the request
pub record Continues (s : Selection) (number : Number) (words : List (List ℕ)) (r : Request) : Type 0 where
  pub wishes : List Wish
  pub spelt : words ≡ flat_map spelling wishes
  pub numbers : given number ++ flat_map numbers_of wishes ≡ list_of r.generate
  pub range : IfSome r.generate IsNumber
  pub selection : r.selection ≡ selection_of (adding s (flat_map sections_of wishes))

-- where a number is due, the first word is it
pub record Awaits (s : Selection) (words : List (List ℕ)) (r : Request) : Type 0 where
  pub number : ℕ
  pub rest : List (List ℕ)
  pub first : words ≡ decimal number ∷ rest
  pub behind : Continues s (Told number) rest r

abbrev pub Reads : Selection → Number → List (List ℕ) → Request → Type 0
Reads s Untold words r = Continues s Untold words r
Reads s Due words r = Awaits s words r
Reads s (Told n) words r = Continues s (Told n) words r

-- one more word names a section
more_section : (s : Selection) (number : Number) (x : Section) (word : List ℕ) (words : List (List ℕ)) (r : Request) → word ≡ section_word x
    → Continues (with_section s x) number words r → Continues s number (word ∷ words) r
more_section s number x word words r e h = record {
  wishes = section x ∷ h.wishes;
  spelt = ap (λ w. w ∷ words) e ∙ ap (λ ws. section_word x ∷ ws) h.spelt;
  numbers = h.numbers;
  range = h.range;
  selection = h.selection;
}

-- one more word has a number
more_joined : (s : Selection) (n : ℕ) (word : List ℕ) (words : List (List ℕ)) (r : Request) → word ≡ codes "--generate=" ++ decimal n
    → Continues s (Told n) words r → Continues s Untold (word ∷ words) r
more_joined s n word words r e h = record {
  wishes = joined n ∷ h.wishes;
  spelt = ap (λ w. w ∷ words) e ∙ ap (λ ws. (codes "--generate=" ++ decimal n) ∷ ws) h.spelt;
  numbers = h.numbers;
  range = h.range;
  selection = h.selection;
}

-- one more word brings the number behind it
more_apart : (s : Selection) (word : List ℕ) (words : List (List ℕ)) (r : Request) → word ≡ codes "--generate" → Awaits s words r → Continues s Untold (word ∷ words) r
more_apart s word words r e h = record {
  wishes = apart h.number ∷ h.behind.wishes;
  spelt = ap (λ w. w ∷ words) e ∙ ap (λ ws. codes "--generate" ∷ ws) (h.first ∙ ap (λ ws. decimal h.number ∷ ws) h.behind.spelt);
  numbers = h.behind.numbers;
  range = h.behind.range;
  selection = h.behind.selection;
}

-- what is read of the words behind one
abbrev Claim : List (List ℕ) → Type 0
Claim words = (s : Selection) (number : Number) (r : Request) → IsFine number → read s number words ≡ Some r → Reads s number words r

-- a number that is read is spelt, and the words go on behind it
told_number : (words : List (List ℕ)) → Claim words → (front word : List ℕ) (s : Selection) (r : Request)
    → option_and_then (λ (more : Asked). read_from more words) (told s (number_behind front word)) ≡ Some r
    → (n : ℕ) × (word ≡ front ++ decimal n) × Continues s (Told n) words r
told_number words claim front word s r e = by (number_behind front word) refl e
  where
    by : (o : Option ℕ) → number_behind front word ≡ o → option_and_then (λ (more : Asked). read_from more words) (told s o) ≡ Some r
        → (n : ℕ) × (word ≡ front ++ decimal n) × Continues s (Told n) words r
    by None f g = absurd (not_some r g)
    by (Some n) f g = let h = found front word n f in (n, h.is, claim s (Told n) r (h.least, h.most) g)

-- no word is left
none_left : Claim []
unfolding read_from
none_left s Untold r fine e = let made : Request = record { selection = selection_of s; generate = None } in let f : made ≡ r = cc in record {
  wishes = [];
  spelt = refl;
  numbers = ap (λ (q : Request). list_of q.generate) f;
  range = let P : Request → Type 0 = λ q. IfSome q.generate IsNumber in subst P f tt;
  selection = sym (ap (λ (q : Request). q.selection) f);
}
none_left s Due r fine e = absurd (not_some r e)
none_left s (Told n) r fine e = let made : Request = record { selection = selection_of s; generate = Some n } in let f : made ≡ r = cc in record {
  wishes = [];
  spelt = refl;
  numbers = ap (λ (q : Request). list_of q.generate) f;
  range = let P : Request → Type 0 = λ q. IfSome q.generate IsNumber in subst P f fine;
  selection = sym (ap (λ (q : Request). q.selection) f);
}

-- the words behind one that names no section, where no number is told
brought : (word : List ℕ) (words : List (List ℕ)) → Claim words → (s : Selection) (r : Request)
    → option_and_then (λ (more : Asked). read_from more words) (begun s word) ≡ Some r → Continues s Untold (word ∷ words) r
brought word words claim s r e = by (bytes_eq word (codes "--generate")) refl e
  where
    by : (b : Bool) → bytes_eq word (codes "--generate") ≡ b
        → option_and_then (λ (more : Asked). read_from more words) (if b then Some (record { sections = s; number = Due }) else told s (number_behind (codes "--generate=") word)) ≡ Some r
        → Continues s Untold (word ∷ words) r
    by true f g = more_apart s word words r ((bytes_eq-Decides word (codes "--generate")).0 f) (claim s Due r tt g)
    by false f g = let t = told_number words claim (codes "--generate=") word s r g in more_joined s t.0 word words r t.1 t.2

one_more : (word : List ℕ) (words : List (List ℕ)) → Claim words → Claim (word ∷ words)
unfolding read_from
one_more word words claim s Due r fine e = let t = told_number words claim [] word s r e in record { number = t.0; rest = words; first = ap (λ w. w ∷ words) t.1; behind = t.2 }
one_more word words claim s Untold r fine e = by (section_of word) refl e
  where
    by : (o : Option Section) → section_of word ≡ o
        → option_and_then (λ (more : Asked). read_from more words) (after_name (record { sections = s; number = Untold }) word Untold o) ≡ Some r
        → Continues s Untold (word ∷ words) r
    by (Some x) f g = more_section s Untold x word words r (named_word word x f) (claim (with_section s x) Untold r tt g)
    by None f g = brought word words claim s r g
one_more word words claim s (Told n) r fine e = by (section_of word) refl e
  where
    by : (o : Option Section) → section_of word ≡ o
        → option_and_then (λ (more : Asked). read_from more words) (after_name (record { sections = s; number = Told n }) word (Told n) o) ≡ Some r
        → Continues s (Told n) (word ∷ words) r
    by (Some x) f g = more_section s (Told n) x word words r (named_word word x f) (claim (with_section s x) (Told n) r fine g)
    by None f g = absurd (not_some r g)

-- words that are read are spelt
pub read_spelt : (words : List (List ℕ)) → Claim words
read_spelt [] = none_left
read_spelt (word ∷ words) = one_more word words (read_spelt words)
