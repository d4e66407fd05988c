-- The made text of a number n has, one statement a line, a procedure with n loops, of which the k-th raises x to at least k.
use Rattle.std.specs.Prelude.{◌≡◌, ℕ, ◌+◌, ◌*◌, ◌^◌, ◌<◌, ◌==◌, List, [], ◌∷◌, ◌++◌, codes, count_by, decimal}
use Rattle.std.specs.List.{flat_map, range_with_len}

-- lines, each ended by a newline
abbrev pub text_of : List (List ℕ) → List ℕ
text_of lines = flat_map (λ line. line ++ codes "\n") lines

abbrev pub opening : ℕ → List (List ℕ)
opening n = codes "TITLE gen;" ∷ codes "PROC p;" ∷ codes "INOUT x : 0 .. 200;" ∷ codes "PRE TRUE;" ∷ (codes "POST x >= " ++ decimal n ++ codes ";") ∷ []

abbrev pub round : ℕ → List (List ℕ)
round k = codes "LOOP;" ∷ (codes "EXIT WHEN x >= " ++ decimal k ++ codes ";") ∷ codes "x := x + 1;" ∷ codes "ENDLOOP;" ∷ []

abbrev pub closing : List (List ℕ)
closing = codes "ENDPROC;" ∷ codes "FINISH;" ∷ []

-- its lines, with a loop for each k from 1 to n
abbrev pub lines : ℕ → List (List ℕ)
lines n = opening n ++ flat_map round (range_with_len 1 n) ++ closing

unfoldable pub made_text : ℕ → List ℕ
made_text n = text_of (lines n)

unfoldable pub opening_text : ℕ → List ℕ
opening_text n = text_of (opening n)

unfoldable pub round_text : ℕ → List ℕ
round_text k = text_of (round k)

-- the made text of n has 4n + 7 newlines, as many as lines
abbrev pub HasMadeLines : Type 0
HasMadeLines = (n : ℕ) → n < 2 ^ 64 → count_by (λ b. b == 10) (made_text n) ≡ 4 * n + 7
