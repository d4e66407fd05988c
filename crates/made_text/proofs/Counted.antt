-- How long a made text is, and how many lines it has.
use Rattle.std.proofs.Common.{◌≡◌, ℕ, zero, suc, ◌+◌, ◌*◌, ◌%◌, ◌^◌, ◌≤◌, ◌<◌, ◌==◌, Bool, true, false, cond, List, [], ◌∷◌, ◌++◌, length, refl, ◌∙◌, ap, length-append, arith, lit<}
use Rattle.std.specs.Prelude.{codes, decimal, count_by}
use Rattle.std.specs.List.{flat_map, range_with_len}
use Rattle.std.proofs.lemmas.Fmt.{length-decimal-le, decimal_by_steps}
use Rattle.std.proofs.lemmas.List.Sums.{sum_by-append}
use borrow.Author.Tests.{eqb-true}
use Rattle.made_text.specs.Made.{made_text, opening_text, round_text, HasMadeLines}
use Rattle.made_text.proofs.Pieces.{rounds, opening_is, round_is, made_is}

opening_short : (n : ℕ) → n ≤ 200 → length (opening_text n) ≤ 100
opening_short n h =
    let d : length (decimal n) ≤ 3 = length-decimal-le 3 n (lit< tt) (omega arith) (omega arith) in
    rw (opening_is n) (omega (arith, length-append (decimal n) (codes ";\n")))

round_short : (k : ℕ) → k ≤ 200 → length (round_text k) ≤ 100
round_short k h =
    let d : length (decimal k) ≤ 3 = length-decimal-le 3 k (lit< tt) (omega arith) (omega arith) in
    rw (round_is k) (omega (arith, length-append (decimal k) (codes ";\nx := x + 1;\nENDLOOP;\n")))

rounds_short : (a n : ℕ) → a + n ≤ 201 → length (flat_map round_text (range_with_len a n)) ≤ 100 * n
rounds_short a zero h = omega arith
rounds_short a (suc n) h =
    omega (arith, rounds_short (a + 1) n (omega arith), round_short a (omega arith), length-append (round_text a) (flat_map round_text (range_with_len (a + 1) n)))

pub is_short : (n : ℕ) → n ≤ 200 → length (made_text n) ≤ 1048576
is_short n h =
    rw (made_is n) (omega (arith, opening_short n h, rounds_short 1 n (omega arith), length-append (opening_text n ++ rounds n) (codes "ENDPROC;\nFINISH;\n"), length-append (opening_text n) (rounds n)))

-- how many newlines there are
abbrev ends : List ℕ → ℕ
ends bytes = count_by (λ b. b == 10) bytes

ends-append : (a b : List ℕ) → ends (a ++ b) ≡ ends a + ends b
ends-append a b = sum_by-append (λ (x : ℕ). cond (x == 10) 1 0) a b

one_digit : (n : ℕ) → ends ((48 + n) ∷ []) ≡ 0
one_digit n = by (48 + n == 10) refl
  where
    by : (b : Bool) → (48 + n == 10) ≡ b → 0 + cond b 1 0 ≡ 0
    by true e = let f : 48 + n ≡ 10 = eqb-true (48 + n) 10 e in absurd (omega arith)
    by false e = refl

-- digits are no newlines
digits_none : (n : ℕ) → n < 2 ^ 64 → ends (decimal n) ≡ 0
digits_none n h = decimal_by_steps (λ m ds. ends ds ≡ 0) (λ m small. one_digit m) (λ m ds big e. ends-append ds ((48 + m % 10) ∷ []) ∙ ap (λ k. k + ends ((48 + m % 10) ∷ [])) e ∙ ap (λ k. 0 + k) (one_digit (m % 10))) n h

opening_ends : (n : ℕ) → n < 2 ^ 64 → ends (opening_text n) ≡ 5
opening_ends n h =
    ap ends (opening_is n) ∙ ends-append (codes "TITLE gen;\nPROC p;\nINOUT x : 0 .. 200;\nPRE TRUE;\nPOST x >= ") (decimal n ++ codes ";\n")
    ∙ ap (λ k. 4 + k) (ends-append (decimal n) (codes ";\n") ∙ ap (λ k. k + 1) (digits_none n h))

round_ends : (k : ℕ) → k < 2 ^ 64 → ends (round_text k) ≡ 4
round_ends k h =
    ap ends (round_is k) ∙ ends-append (codes "LOOP;\nEXIT WHEN x >= ") (decimal k ++ codes ";\nx := x + 1;\nENDLOOP;\n")
    ∙ ap (λ m. 1 + m) (ends-append (decimal k) (codes ";\nx := x + 1;\nENDLOOP;\n") ∙ ap (λ m. m + 3) (digits_none k h))

rounds_ends : (a n : ℕ) → a + n ≤ 2 ^ 64 → ends (flat_map round_text (range_with_len a n)) ≡ 4 * n
rounds_ends a zero h = refl
rounds_ends a (suc n) h =
    let rest : ends (flat_map round_text (range_with_len (a + 1) n)) ≡ 4 * n = rounds_ends (a + 1) n (omega arith) in
    let first : ends (round_text a) ≡ 4 = round_ends a (omega arith) in
    ends-append (round_text a) (flat_map round_text (range_with_len (a + 1) n)) ∙ omega (arith, rest, first)

pub made_ends : HasMadeLines
made_ends n h =
    let first : ends (opening_text n) ≡ 5 = opening_ends n h in
    let inner : ends (rounds n) ≡ 4 * n = rounds_ends 1 n (omega arith) in
    ap ends (made_is n) ∙ ends-append (opening_text n ++ rounds n) (codes "ENDPROC;\nFINISH;\n") ∙ ap (λ k. k + 2) (ends-append (opening_text n) (rounds n)) ∙ omega (arith, first, inner)
