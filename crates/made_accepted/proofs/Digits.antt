-- The digits of a number are one token, which is that number.
use Rattle.std.proofs.Common.{◌≡◌, ℕ, zero, suc, ◌+◌, ◌-◌, ◌*◌, ◌%◌, ◌/◌, ◌^◌, ◌<◌, ◌≤◌, min, Bool, true, false, cond, ◌&&◌, List, [], ◌∷◌, ◌++◌, length, take, drop, refl, sym, ap, ◌∙◌, subst, arith, slice_index, length-append}
use Rattle.std.specs.Prelude.{decimal, nat_lt, not}
use Rattle.std.specs.List.{list_all, prefix_len}
use Rattle.std.specs.Char.{is_ascii_alphabetic, is_ascii_digit}
use Rattle.std.proofs.Math.Nat.{div-add-mod}
use Rattle.std.proofs.Math.Seq.{take-append_seam}
use Rattle.std.proofs.lemmas.Fmt.{decimal_by_steps}
use Rattle.std.proofs.lemmas.Int.{clamps}
use Rattle.std.proofs.lemmas.List.Sums.{fold-append}
use Rattle.il_core.specs.declared.token.TokenKind.TheVariants as kind
use Rattle.il_lexer.specs.Spelling.{number_kind}
use Rattle.il_lexer.specs.Spelling as spelling
use Rattle.il_lexer.specs.Step.{IsLongest}
use Rattle.il_lexer.proofs.Steps.{number_token}
use Rattle.made_accepted.proofs.Cutting.{IsHop, Hops, token}

abbrev pub is_low : ℕ → Bool
is_low b = not (nat_lt 127 b)

-- a byte of a digit
record IsDigit (b : ℕ) : Type 0 where
  digit : is_ascii_digit b ≡ true
  letter : is_ascii_alphabetic b ≡ false
  low : is_low b ≡ true

abbrev AreDigits : List ℕ → Type 0
AreDigits [] = Unit {0}
AreDigits (b ∷ bs) = IsDigit b × AreDigits bs

plain : (b : ℕ) → is_ascii_digit b ≡ true → is_ascii_alphabetic b ≡ false → is_low b ≡ true → IsDigit b
plain b d l w = record { digit = d; letter = l; low = w }

digit_is : (k : ℕ) → k < 10 → IsDigit (48 + k)
digit_is zero h = plain 48 refl refl refl
digit_is (suc zero) h = plain 49 refl refl refl
digit_is (suc (suc zero)) h = plain 50 refl refl refl
digit_is (suc (suc (suc zero))) h = plain 51 refl refl refl
digit_is (suc (suc (suc (suc zero)))) h = plain 52 refl refl refl
digit_is (suc (suc (suc (suc (suc zero))))) h = plain 53 refl refl refl
digit_is (suc (suc (suc (suc (suc (suc zero)))))) h = plain 54 refl refl refl
digit_is (suc (suc (suc (suc (suc (suc (suc zero))))))) h = plain 55 refl refl refl
digit_is (suc (suc (suc (suc (suc (suc (suc (suc zero)))))))) h = plain 56 refl refl refl
digit_is (suc (suc (suc (suc (suc (suc (suc (suc (suc zero))))))))) h = plain 57 refl refl refl
digit_is (suc (suc (suc (suc (suc (suc (suc (suc (suc (suc k)))))))))) h = absurd (omega arith)

digits_more : (ds : List ℕ) (b : ℕ) → AreDigits ds → IsDigit b → AreDigits (ds ++ b ∷ [])
digits_more [] b h d = (d, tt)
digits_more (c ∷ ds) b h d = (h.0, digits_more ds b h.1 d)

-- bytes that are the digits of a number
record AreDigitsOf (n : ℕ) (ds : List ℕ) : Type 0 where
  digits : AreDigits ds
  some : 0 < length ds
  value : spelling.decimal ds ≡ n

below_ten : (n : ℕ) → n % 10 < 10
below_ten n = omega (arith, div-add-mod n 10)

one_digit : (n : ℕ) → n < 10 → AreDigitsOf n ((48 + n) ∷ [])
one_digit n h = record { digits = (digit_is n h, tt); some = omega arith; value = omega arith }

one_more : (n : ℕ) (ds : List ℕ) → 10 ≤ n → AreDigitsOf (n / 10) ds → AreDigitsOf n (ds ++ (48 + n % 10) ∷ [])
one_more n ds h d =
    let whole : 10 * (n / 10) + n % 10 ≡ n = div-add-mod n 10 in
    let tens : spelling.decimal ds ≡ n / 10 = d.value in
    record {
      digits = digits_more ds (48 + n % 10) d.digits (digit_is (n % 10) (below_ten n));
      some = omega (arith, length-append ds ((48 + n % 10) ∷ []));
      value = fold-append (λ (v b : ℕ). v * 10 + (b - 48)) 0 ds ((48 + n % 10) ∷ []) ∙ omega (arith, whole, tens);
    }

digits_of : (n : ℕ) → n < 2 ^ 64 → AreDigitsOf n (decimal n)
digits_of n h = decimal_by_steps AreDigitsOf one_digit one_more n h

-- the run of digits ends where another byte follows
run_is : (ds : List ℕ) (b : ℕ) (rest : List ℕ) → AreDigits ds → is_ascii_digit b ≡ false → prefix_len is_ascii_digit (ds ++ b ∷ rest) ≡ length ds
run_is [] b rest h e = ap (λ t. cond t (1 + prefix_len is_ascii_digit rest) 0) e
run_is (c ∷ ds) b rest h e =
    let claim : prefix_len is_ascii_digit (ds ++ b ∷ rest) ≡ length ds = run_is ds b rest h.1 e in
    ap (λ t. cond t (1 + prefix_len is_ascii_digit (ds ++ b ∷ rest)) 0) h.0.digit ∙ omega (arith, claim)

-- a digit stands first
first_letter : (ds rest : List ℕ) → 0 < length ds → AreDigits ds → is_ascii_alphabetic (slice_index (ds ++ rest) 0) ≡ false
first_letter [] rest h d = absurd (omega arith)
first_letter (b ∷ ds) rest h d = d.0.letter

first_digit : (ds rest : List ℕ) → 0 < length ds → AreDigits ds → is_ascii_digit (slice_index (ds ++ rest) 0) ≡ true
first_digit [] rest h d = absurd (omega arith)
first_digit (b ∷ ds) rest h d = d.0.digit

left_is : (xs ys : List ℕ) → ys ≡ drop (length xs) (xs ++ ys)
left_is [] ys = refl
left_is (x ∷ xs) ys = left_is xs ys

-- the digits are one token
pub number_cut : (n : ℕ) (b : ℕ) (rest : List ℕ) → n ≤ 200 → is_ascii_digit b ≡ false → Hops (decimal n ++ b ∷ rest) (token (length (decimal n)) (kind.Number n) ∷ []) (b ∷ rest)
number_cut n b rest h e = (step, left_is (decimal n) (b ∷ rest))
  where
    step : IsHop (decimal n ++ b ∷ rest) (token (length (decimal n)) (kind.Number n))
    step =
        let d = digits_of n (omega arith) in
        let run = run_is (decimal n) b rest d.digits e in
        let value : spelling.decimal (decimal n) ≡ n = d.value in
        let small : min (spelling.decimal (decimal n)) (2 ^ 64 - 1) ≡ n = omega (arith, clamps, value) in
        let same : number_kind (take (length (decimal n)) (decimal n ++ b ∷ rest)) ≡ kind.Number n = ap number_kind (take-append_seam (decimal n) (b ∷ rest)) ∙ ap kind.Number small in
        record {
          inside = omega (arith, length-append (decimal n) (b ∷ rest));
          takes = subst (λ k. IsLongest (decimal n ++ b ∷ rest) (length (decimal n)) k) same
              (number_token (decimal n ++ b ∷ rest) (length (decimal n)) (first_letter (decimal n) (b ∷ rest) d.some d.digits) (first_digit (decimal n) (b ∷ rest) d.some d.digits) (sym run));
        }

low_digits : (ds : List ℕ) → AreDigits ds → list_all is_low ds ≡ true
low_digits [] h = refl
low_digits (b ∷ ds) h = ap (λ t. t && list_all is_low ds) h.0.low ∙ low_digits ds h.1

pub low_decimal : (n : ℕ) → n ≤ 200 → list_all is_low (decimal n) ≡ true
low_decimal n h = low_digits (decimal n) (digits_of n (omega arith)).digits
