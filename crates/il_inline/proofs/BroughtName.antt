-- The name of a place that a call brings is a name.
use Rattle.std.proofs.Common.{◌≡◌, ℕ, zero, suc, ◌+◌, ◌%◌, ◌^◌, ◌<◌, ◌≤◌, Bool, true, false, List, [], ◌∷◌, ◌++◌, length, refl, ap, ◌∙◌, arith}
use Rattle.std.specs.Prelude.{codes, decimal, ◌&&◌, nat_le, if◌then◌else◌}
use Rattle.std.specs.List.{list_all}
use Rattle.std.proofs.lemmas.Bool.{false≢true}
use Rattle.std.proofs.lemmas.Fmt.{decimal_by_steps}
use Rattle.std.proofs.lemmas.List.Folds.{list_all-append}
use Rattle.il_core.specs.Name.{is_name_part, starts_with_letter, is_word, is_name}
use Rattle.il_core.specs.declared.line.Place.{Place}
use Rattle.il_called.specs.Expansion.{brought_name}

digit_part : (n : ℕ) → n < 10 → list_all is_name_part ((48 + n) ∷ []) ≡ true
digit_part zero h = refl
digit_part (suc zero) h = refl
digit_part (suc (suc zero)) h = refl
digit_part (suc (suc (suc zero))) h = refl
digit_part (suc (suc (suc (suc zero)))) h = refl
digit_part (suc (suc (suc (suc (suc zero))))) h = refl
digit_part (suc (suc (suc (suc (suc (suc zero)))))) h = refl
digit_part (suc (suc (suc (suc (suc (suc (suc zero))))))) h = refl
digit_part (suc (suc (suc (suc (suc (suc (suc (suc zero)))))))) h = refl
digit_part (suc (suc (suc (suc (suc (suc (suc (suc (suc zero))))))))) h = refl
digit_part (suc (suc (suc (suc (suc (suc (suc (suc (suc (suc n)))))))))) h = absurd (omega arith)

decimal_parts : (n : ℕ) → n < 2 ^ 64 → list_all is_name_part (decimal n) ≡ true
decimal_parts n h = decimal_by_steps (λ m ds. list_all is_name_part ds ≡ true) digit_part
    (λ m ds big e. list_all-append is_name_part ds ((48 + m % 10) ∷ []) ∙ ap (λ b. b && list_all is_name_part ((48 + m % 10) ∷ [])) e ∙ digit_part (m % 10) (omega arith)) n h

-- a letter, digits, an underscore and the parts of a name
parts_of : (letter : List ℕ) (k : ℕ) (name : List ℕ) → k < 2 ^ 64 → list_all is_name_part letter ≡ true → list_all is_name_part name ≡ true
    → list_all is_name_part (letter ++ decimal k ++ codes "_" ++ name) ≡ true
parts_of letter k name h l e =
    list_all-append is_name_part (letter ++ decimal k ++ codes "_") name
    ∙ ap (λ b. b && list_all is_name_part name) (list_all-append is_name_part (letter ++ decimal k) (codes "_")
    ∙ ap (λ b. b && list_all is_name_part (codes "_")) (list_all-append is_name_part letter (decimal k) ∙ ap (λ b. b && list_all is_name_part (decimal k)) l ∙ decimal_parts k h))
    ∙ e

word_of : (old : Bool) (k : ℕ) (name : List ℕ) → k < 2 ^ 64 → list_all is_name_part name ≡ true
    → is_word ((if old then codes "o" else codes "c") ++ decimal k ++ codes "_" ++ name) ≡ true
word_of true k name h e = parts_of (codes "o") k name h refl e
word_of false k name h e = parts_of (codes "c") k name h refl e

second : (a b : Bool) → (a && b) ≡ true → b ≡ true
second true b e = e
second false b e = absurd (false≢true e)

short : (a b : ℕ) → a ≤ b → nat_le a b ≡ true
short a b h = grind arith

pub name_of : (k : ℕ) (place : Place) → k < 2 ^ 64 → is_name place.name ≡ true → length (brought_name k place) ≤ 40 → is_name (brought_name k place) ≡ true
name_of k place h e s =
    let w = word_of place.old k place.name h
    (second (starts_with_letter place.name) (list_all is_name_part place.name) (second (nat_le (length place.name) 40) (is_word place.name) e)) in
    ap (λ b. b && is_word (brought_name k place)) (short (length (brought_name k place)) 40 s) ∙ w

pub letter_is : (b : Bool) → (if b then 111 else 99) ∷ [] ≡ (if b then codes "o" else codes "c")
letter_is true = refl
letter_is false = refl
