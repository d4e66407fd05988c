-- The number behind a front in a word is the one number from 1 to 200 that is spelt there.
use Rattle.std.proofs.Common.{◌≡◌, ℕ, zero, suc, ◌≤◌, ◌<◌, ◌^◌, Bool, true, false, List, [], ◌++◌, refl, sym, ◌∙◌, ap, arith, if◌then◌else◌, lit<}
use Rattle.std.specs.Prelude.{Option, Some, None, Result, Ok, decimal, bytes_eq}
use Rattle.std.specs.Str.Parse.{ParsesUnsigned}
use Rattle.std.proofs.lemmas.Fmt.{decimal_injective, parse-decimal}
use Rattle.std.proofs.lemmas.List.{append_cancel_left}
use Rattle.std.proofs.lemmas.Slice.Eq.{bytes_eq-Decides}
use Rattle.request.specs.Words.{IsNumber}
use Rattle.request.specs.Reading.{number_to, number_behind}

pub not_some : {A : Type 0} (x : A) → ◌≡◌ {A = Option A} None (Some x) → ⊥
not_some x e = cc

-- the word is the front and the digits of a number up to a limit
pub record IsBehind (front : List ℕ) (limit : ℕ) (word : List ℕ) (n : ℕ) : Type 0 where
  pub is : word ≡ front ++ decimal n
  pub least : 1 ≤ n
  pub most : n ≤ limit

found_to : (front : List ℕ) (limit : ℕ) (word : List ℕ) (n : ℕ) → number_to front limit word ≡ Some n → IsBehind front limit word n
unfolding number_to
found_to front zero word n e = absurd (not_some n e)
found_to front (suc limit) word n e = by (λ g. found_to front limit word n g) (bytes_eq word (front ++ decimal (suc limit))) refl e
  where
    by : (number_to front limit word ≡ Some n → IsBehind front limit word n) → (b : Bool) → bytes_eq word (front ++ decimal (suc limit)) ≡ b
        → (if b then Some (suc limit) else number_to front limit word) ≡ Some n → IsBehind front (suc limit) word n
    by claim true f g = let same : suc limit ≡ n = cc in record {
      is = (bytes_eq-Decides word (front ++ decimal (suc limit))).0 f ∙ ap (λ m. front ++ decimal m) same;
      least = omega arith;
      most = omega arith;
    }
    by claim false f g = let before = claim g in record { is = before.is; least = before.least; most = omega arith }

to_found : (front : List ℕ) (limit : ℕ) (word : List ℕ) (n : ℕ) → limit < 2 ^ 64 → IsBehind front limit word n → number_to front limit word ≡ Some n
unfolding number_to
to_found front zero word n small h = absurd (omega arith)
to_found front (suc limit) word n small h = by (λ k. to_found front limit word n (omega arith) k) (bytes_eq word (front ++ decimal (suc limit))) refl
  where
    by : (IsBehind front limit word n → number_to front limit word ≡ Some n) → (b : Bool) → bytes_eq word (front ++ decimal (suc limit)) ≡ b → (if b then Some (suc limit) else number_to front limit word) ≡ Some n
    by claim true f =
        let same : front ++ decimal (suc limit) ≡ front ++ decimal n = sym ((bytes_eq-Decides word (front ++ decimal (suc limit))).0 f) ∙ h.is in
        ap Some (decimal_injective (suc limit) n small (omega arith) (append_cancel_left front (decimal (suc limit)) (decimal n) same))
    by claim false f =
        let other : n ≡ suc limit → ⊥ = λ g. let t : bytes_eq word (front ++ decimal (suc limit)) ≡ true = (bytes_eq-Decides word (front ++ decimal (suc limit))).1 (h.is ∙ ap (λ m. front ++ decimal m) g) in cc in
        claim (record { is = h.is; least = h.least; most = omega arith })

pub found : (front word : List ℕ) (n : ℕ) → number_behind front word ≡ Some n → IsBehind front 200 word n
unfolding number_behind
found front word n e = found_to front 200 word n e

pub to_find : (front word : List ℕ) (n : ℕ) → word ≡ front ++ decimal n → IsNumber n → number_behind front word ≡ Some n
unfolding number_behind
to_find front word n e h = to_found front 200 word n (lit< tt) (record { is = e; least = h.0; most = h.1 })

-- no number is found where none is spelt
pub not_found : (front word : List ℕ) → ((n : ℕ) → IsBehind front 200 word n → ⊥) → None ≡ number_behind front word
not_found front word h = by (number_behind front word) refl
  where
    by : (o : Option ℕ) → number_behind front word ≡ o → None ≡ o
    by None e = refl
    by (Some n) e = absurd (h n (found front word n e))

-- the number in digits is the number behind a front in the word that both make
pub behind_front : (front word digits : List ℕ) → word ≡ front ++ digits → number_behind [] digits ≡ number_behind front word
behind_front front word digits e = by (number_behind [] digits) refl
  where
    by : (o : Option ℕ) → number_behind [] digits ≡ o → o ≡ number_behind front word
    by (Some n) f = let h = found [] digits n f in sym (to_find front word n (e ∙ ap (λ ds. front ++ ds) h.is) (h.least, h.most))
    by None f = not_found front word (λ n h.
        let same : digits ≡ decimal n = append_cancel_left front digits (decimal n) (sym e ∙ h.is) in
        not_some n (sym f ∙ to_find [] digits n same (h.least, h.most)))

-- no digits of a number are refused
pub not_parsed : {E : Type 0} (digits : List ℕ) (r : Result ℕ E) → ParsesUnsigned 8 10 digits r → ((n : ℕ) → r ≡ Ok n → 1 ≤ n → n ≤ 200 → decimal n ≡ digits → ⊥) → None ≡ number_behind [] digits
not_parsed digits r parses h = not_found [] digits (λ n k. h n (parse-decimal 8 n digits r (omega arith) (omega arith) k.is parses) k.least k.most (sym k.is))
