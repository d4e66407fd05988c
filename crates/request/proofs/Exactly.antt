-- Reading from the left answers the request that words spell, exactly where they spell one; so they spell no two.
use Rattle.std.proofs.Common.{◌≡◌, ℕ, suc, ◌+◌, ◌<◌, ◌≤◌, List, ◌∷◌, map, length, get_or, drop, refl, sym, ◌∙◌, ap, add-one}
use Rattle.std.specs.Prelude.{Option, Some, None}
use Rattle.std.specs.List.{flat_map}
use Rattle.std.specs.Option.{option_and_then}
use Rattle.std.proofs.Math.Seq.{drop-cons}
use Rattle.std.proofs.lemmas.List.{drop_all}
use Rattle.request.specs.declared.asked.Asked.{Asked}
use Rattle.request.specs.declared.asked.Number.TheVariants.{Untold}
use Rattle.request.specs.declared.spelt.Request.{Request}
use Rattle.request.specs.Words.{sections_of, IsRequest, Understands, OneRequest}
use Rattle.request.specs.Reading.{read_from, after_word, request_of}
use Rattle.request.proofs.Named.{no_section, selection_is}
use Rattle.request.proofs.ReadIsSpelt.{read, read_spelt}
use Rattle.request.proofs.SpeltIsRead.{spelt_read}

-- what words ask for
abbrev pub answer : List (List ℕ) → Option Request
answer words = read no_section Untold words

pub asked_for : (words : List (List ℕ)) (r : Request) → answer words ≡ Some r → IsRequest words r
asked_for words r e = let h = read_spelt words no_section Untold r tt e in record {
  wishes = h.wishes;
  spelt = h.spelt;
  numbers = h.numbers;
  range = h.range;
  selection = h.selection ∙ selection_is (flat_map sections_of h.wishes);
}

pub answered : (words : List (List ℕ)) (r : Request) → IsRequest words r → answer words ≡ Some r
answered words r h = ap answer h.spelt ∙ spelt_read h.wishes no_section Untold r tt
    (record { numbers = h.numbers; range = h.range; selection = h.selection ∙ sym (selection_is (flat_map sections_of h.wishes)) })

pub understood : (words : List (List ℕ)) (o : Option Request) → answer words ≡ o → Understands words o
understood words (Some r) e = asked_for words r e
understood words None e = λ r h. let f = answered words r h in let g : ◌≡◌ {A = Option Request} None (Some r) = sym e ∙ f in cc

-- an answer that understands the words is what is read
is_answer : (words : List (List ℕ)) (o : Option Request) → Understands words o → o ≡ answer words
is_answer words (Some r) h = sym (answered words r h)
is_answer words None h = by (answer words) refl
  where
    by : (o : Option Request) → answer words ≡ o → None ≡ o
    by None e = refl
    by (Some r) e = absurd (h r (asked_for words r e))

pub one_answer : OneRequest
one_answer words a b h k = is_answer words a h ∙ sym (is_answer words b k)

-- the words from one on
from_one : {A : Type 0} (v : A → List ℕ) (words : List A) (i : ℕ) (word : A) → i < length words → get_or words i word ≡ word
    → map v (drop i words) ≡ v word ∷ map v (drop (i + 1) words)
from_one v words i word h e =
    ap (map v) (drop-cons words i word h) ∙ ap (λ w. v w ∷ map v (drop (suc i) words)) e ∙ ap (λ k. v word ∷ map v (drop k words)) (sym (add-one i))

-- the reading goes on behind a word that can stand
pub goes_on : {A : Type 0} (v : A → List ℕ) (words : List A) (i : ℕ) (word : A) (asked more : Asked) (all : Option Request) → i < length words → get_or words i word ≡ word
    → read_from asked (map v (drop i words)) ≡ all → after_word asked (v word) ≡ Some more → read_from more (map v (drop (i + 1) words)) ≡ all
unfolding read_from
goes_on v words i word asked more all h is before e =
    let rest = map v (drop (i + 1) words) in
    sym (ap (λ (o : Option Asked). option_and_then (λ (next : Asked). read_from next rest) o) e) ∙ ap (read_from asked) (sym (from_one v words i word h is)) ∙ before

-- it ends at a word that can't stand
pub breaks : {A : Type 0} (v : A → List ℕ) (words : List A) (i : ℕ) (word : A) (asked : Asked) (all : Option Request) → i < length words → get_or words i word ≡ word
    → read_from asked (map v (drop i words)) ≡ all → after_word asked (v word) ≡ None → all ≡ None
unfolding read_from
breaks v words i word asked all h is before e =
    let rest = map v (drop (i + 1) words) in
    sym before ∙ ap (read_from asked) (from_one v words i word h is) ∙ ap (λ (o : Option Asked). option_and_then (λ (next : Asked). read_from next rest) o) e

-- and behind the last word
pub ends : {A : Type 0} (v : A → List ℕ) (words : List A) (i : ℕ) (asked : Asked) (all : Option Request) → length words ≤ i → read_from asked (map v (drop i words)) ≡ all → all ≡ request_of asked
unfolding read_from
ends v words i asked all h before = sym before ∙ ap (λ ws. read_from asked (map v ws)) (drop_all i words h)
