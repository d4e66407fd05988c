-- What the fronts of a text spell.
use Rattle.std.proofs.Common.{Some, None, ◌≡◌, ℕ, zero, suc, ◌+◌, ◌<◌, ◌≤◌, Bool, true, false, cond, ◌&&◌, List, [], ◌∷◌, length, take, refl, ap, arith}
use Rattle.std.specs.Option.{option_map}
use Rattle.std.specs.List.{list_all, prefix_len}
use Rattle.std.specs.Char.{is_ascii_alphabetic, is_ascii_digit}
use Rattle.il_core.specs.Name.{is_name_part}
use Rattle.il_core.specs.declared.token.TokenKind.TheVariants.{Symbol}
use Rattle.il_lexer.specs.Spelling.{spells, word_kind, number_kind}
use Rattle.il_lexer.specs.Symbol.{symbol_of}

-- all pass in a front that is no longer than the run that passes
pub list_all-take : (p : ℕ → Bool) (xs : List ℕ) (k : ℕ) → k ≤ prefix_len p xs → list_all p (take k xs) ≡ true
list_all-take p xs zero h = refl
list_all-take p [] (suc k) h = refl
list_all-take p (x ∷ xs) (suc k) h =
    (elim (p x) as (λ b. suc k ≤ cond b (1 + prefix_len p xs) 0 → (b && list_all p (take k xs)) ≡ true) [
      | true ↦ λ h. list_all-take p xs k (omega arith)
      | false ↦ λ h. absurd (omega arith)
    ]) h

-- one fails in a front that is longer than the run that passes
pub list_all-take_more : (p : ℕ → Bool) (xs : List ℕ) (k : ℕ) → prefix_len p xs < k → k ≤ length xs → list_all p (take k xs) ≡ false
list_all-take_more p xs zero h i = absurd (omega arith)
list_all-take_more p [] (suc k) h i = absurd (omega arith)
list_all-take_more p (x ∷ xs) (suc k) h i =
    (elim (p x) as (λ b. cond b (1 + prefix_len p xs) 0 < suc k → (b && list_all p (take k xs)) ≡ false) [
      | true ↦ λ h. list_all-take_more p xs k (omega arith) (omega arith)
      | false ↦ λ h. refl
    ]) h

-- the run goes past a first element that passes
pub prefix_len-cons : (p : ℕ → Bool) (x : ℕ) (xs : List ℕ) → p x ≡ true → prefix_len p (x ∷ xs) ≡ 1 + prefix_len p xs
prefix_len-cons p x xs h = ap (λ b. cond b (1 + prefix_len p xs) 0) h

-- behind a letter, name bytes spell a word
pub word_spelt : (b : ℕ) (bs : List ℕ) → is_ascii_alphabetic b ≡ true → list_all is_name_part bs ≡ true → spells (b ∷ bs) ≡ Some (word_kind (b ∷ bs))
word_spelt b bs letter parts = rw (letter, parts)

-- behind a letter, any other bytes spell nothing
pub word_unspelt : (b : ℕ) (bs : List ℕ) → is_ascii_alphabetic b ≡ true → list_all is_name_part bs ≡ false → spells (b ∷ bs) ≡ None
word_unspelt b bs letter parts = rw (letter, parts)

-- behind a digit, digits spell a number
pub number_spelt : (b : ℕ) (bs : List ℕ) → is_ascii_alphabetic b ≡ false → is_ascii_digit b ≡ true → list_all is_ascii_digit bs ≡ true → spells (b ∷ bs) ≡ Some (number_kind (b ∷ bs))
number_spelt b bs letter digit digits = rw (letter, digit, digits)

-- behind a digit, any other bytes spell nothing
pub number_unspelt : (b : ℕ) (bs : List ℕ) → is_ascii_alphabetic b ≡ false → is_ascii_digit b ≡ true → list_all is_ascii_digit bs ≡ false → spells (b ∷ bs) ≡ None
number_unspelt b bs letter digit digits = rw (letter, digit, digits)

-- what begins with neither letter nor digit spells a symbol or nothing
pub symbol_spelt : (b : ℕ) (bs : List ℕ) → is_ascii_alphabetic b ≡ false → is_ascii_digit b ≡ false → spells (b ∷ bs) ≡ option_map Symbol (symbol_of (b ∷ bs))
symbol_spelt b bs letter digit = rw (letter, digit)
