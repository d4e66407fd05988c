-- What a read out of a list in memory gives, and what it leaves.
use Rattle.std.proofs.Common.{◌≡◌, ℕ, ◌+◌, ◌-◌, ◌<◌, ◌≤◌, min, List, [], ◌++◌, length, take, drop, ap, sym, ◌∙◌, arith, take-append-drop, drop_of_length-le}
use Rattle.std.proofs.lemmas.List.{drop-drop}
use Rattle.std.proofs.lemmas.Grind.{common_steps}

-- Where all bytes from `at` on are left, what is left after `n` bytes more are all from there on.
left-rest : (left all : List ℕ) (at n : ℕ) → drop at all ≡ left → drop n left ≡ drop (at + n) all
left-rest left all at n from = ap (drop n) (sym from) ∙ drop-drop n at all

-- A range from `at` to the end has what is left.
pub left-range : (left all seen : List ℕ) (at : ℕ) → drop at all ≡ left → seen ≡ all → take (length seen - at) (drop at seen) ≡ left
left-range left all seen at from same = grind (arith, common_steps)

-- The `n` bytes at the front of the buffer are those at the front of what was left, and the rest is left.
pub left-parts : (left all seen buf : List ℕ) (at n : ℕ) → drop at all ≡ left → seen ≡ left → take n buf ≡ take n seen → left ≡ take n buf ++ drop (at + n) all
left-parts left all seen buf at n from same front =
    sym (take-append-drop n left) ∙ ap (λ l. l ++ drop n left) (ap (take n) (sym same) ∙ sym front)
    ∙ ap (λ l. take n buf ++ l) (left-rest left all at n from)

-- A read gives no byte only where none is left, since its piece and its buffer have room for one.
pub left-none : (left all seen : List ℕ) (at n piece room : ℕ) → drop at all ≡ left → seen ≡ left → n ≡ min piece (min room (length seen))
    → 0 < piece → n ≡ 0 → 0 < room → drop (at + n) all ≡ []
left-none left all seen at n piece room from same count some none has_room =
    let short : length left ≤ n = omega (arith, ap length same, count, some, none, has_room) in
    sym (left-rest left all at n from) ∙ drop_of_length-le left short
