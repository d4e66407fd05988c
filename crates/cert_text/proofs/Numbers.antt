-- A number is read from its digits, and from no other bytes.
use Rattle.std.proofs.Common.{◌≡◌, ℕ, ◌≤◌, ◌<◌, ◌^◌, ◌+◌, ◌%◌, ◌==◌, ◌&&◌, nat_le, Bool, true, false, List, [], ◌∷◌, refl, sym, ◌∙◌, ap, subst, arith, if◌then◌else◌}
use Rattle.std.specs.Prelude.{Option, Some, None, decimal, bytes_eq}
use Rattle.std.specs.Str.{IsUtf8}
use Rattle.std.specs.Str.Parse.{digits_value}
use Rattle.std.proofs.lemmas.Bool.{le-leb, leb-true}
use Rattle.std.proofs.lemmas.Fmt.{decimal_is_IsNumeral, decimal_by_steps, IsAscii-decimal}
use Rattle.std.proofs.lemmas.Str.{IsUtf8-from_ascii}
use Rattle.std.proofs.lemmas.Slice.Eq.{bytes_eq-Decides}
use borrow.Author.Tests.{eqb-true}
use Rattle.cert_text.specs.LineReading.{number_read}
use Rattle.cert_text.proofs.Options.{not_some}
use Rattle.cert_text.proofs.Parts.{Without, without-append}

pub number_found : (most n : ℕ) (digits : List ℕ) → n < 2 ^ 64 → n ≤ most → decimal n ≡ digits → number_read most digits ≡ Some n
unfolding number_read
number_found most n digits small h e =
    let v : n ≡ digits_value 10 digits = sym (decimal_is_IsNumeral n small).1 ∙ ap (digits_value 10) e in
    subst (λ m. (if nat_le m most && bytes_eq (decimal m) digits then Some m else None) ≡ Some n) v
    (ap (λ t. if t && bytes_eq (decimal n) digits then Some n else None) (le-leb n most h)
    ∙ ap (λ t. if t then Some n else None) ((bytes_eq-Decides (decimal n) digits).1 e))

pub number_is : (most n : ℕ) (digits : List ℕ) → number_read most digits ≡ Some n → (n ≤ most) × (decimal n ≡ digits)
unfolding number_read
number_is most n digits e = by (nat_le (digits_value 10 digits) most) refl (bytes_eq (decimal (digits_value 10 digits)) digits) refl e
  where
    by : (s : Bool) → nat_le (digits_value 10 digits) most ≡ s → (t : Bool) → bytes_eq (decimal (digits_value 10 digits)) digits ≡ t
        → (if s && t then Some (digits_value 10 digits) else None) ≡ Some n → (n ≤ most) × (decimal n ≡ digits)
    by true f true g h =
        let same : digits_value 10 digits ≡ n = (let i : ◌≡◌ {A = Option ℕ} (Some (digits_value 10 digits)) (Some n) = h in cc) in
        subst (λ m. (m ≤ most) × (decimal m ≡ digits)) same (leb-true _ _ f, (bytes_eq-Decides (decimal (digits_value 10 digits)) digits).0 g)
    by true f false g h = absurd (not_some n h)
    by false f t g h = absurd (not_some n h)

-- no number is read where none is spelt
pub not_number : (most : ℕ) (digits : List ℕ) → ((n : ℕ) → n ≤ most → decimal n ≡ digits → ⊥) → None ≡ number_read most digits
not_number most digits h = by (number_read most digits) refl
  where
    by : (o : Option ℕ) → number_read most digits ≡ o → None ≡ o
    by None e = refl
    by (Some n) e = let g = number_is most n digits e in absurd (h n g.0 g.1)

-- digits are text
pub digits_utf8 : (n : ℕ) (digits : List ℕ) → n < 2 ^ 64 → decimal n ≡ digits → IsUtf8 digits
digits_utf8 n digits small e = subst IsUtf8 e (IsUtf8-from_ascii (decimal n) (IsAscii-decimal n small))

one_digit : (end n : ℕ) → end < 48 → (48 + n == end) ≡ false
one_digit end n h = by (48 + n == end) refl
  where
    by : (t : Bool) → (48 + n == end) ≡ t → t ≡ false
    by true e = let f : 48 + n ≡ end = eqb-true (48 + n) end e in absurd (omega arith)
    by false e = refl

-- no digit is a byte before the digits
pub digits_without : (end n : ℕ) → end < 48 → n < 2 ^ 64 → Without end (decimal n)
digits_without end n h small =
    decimal_by_steps (λ m ds. Without end ds) (λ m low. (one_digit end m h, tt))
    (λ m ds high w. without-append end ds ((48 + m % 10) ∷ []) w (one_digit end (m % 10) h, tt)) n small
