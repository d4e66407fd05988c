-- What stands before the first underscore of a new name.
use Rattle.std.proofs.Common.{◌≡◌, ℕ, suc, ◌+◌, ◌-◌, ◌<◌, ◌%◌, ◌^◌, ◌==◌, nat_lt, nat_eq, ◌∙◌, sym, ap, subst, refl, if◌then◌else◌, get_or, ◌||◌, cond, not, Bool, true, false, List, [], ◌∷◌, ◌++◌, length, take, drop, arith, append_assoc}
use Rattle.std.specs.Prelude.{Option, Some, None, find, position, decimal}
use Rattle.std.specs.Cmp.Lexicographic.{pointwise, nat_list_eq_equiv}
use Rattle.std.specs.List.{list_any, position_or_len}
use Rattle.std.specs.Option.{option_to_list}
use Rattle.std.specs.Str.{IsUtf8}
use Rattle.std.proofs.lemmas.Fmt.{decimal_by_steps, IsAscii-decimal}
use Rattle.std.proofs.lemmas.Str.{IsUtf8-from_ascii}
use Rattle.std.proofs.lemmas.List.{length-append, take_more}
use Rattle.std.proofs.lemmas.List.Folds.{list_any-append}
use Rattle.std.proofs.lemmas.Option.{same_Some}
use Rattle.il_core.specs.declared.line.Place.{Place}
use Rattle.il_called.specs.Expansion.{brought_name}
use Rattle.call_names.specs.Search.{is_among, mark, names_under}
use Rattle.call_names.specs.Numbers.{AreNumbersBehind}
use Rattle.call_names.proofs.Joined.{same_bytes}

-- none of the bytes is an underscore
abbrev Without : List ℕ → Type 0
Without [] = Unit {0}
Without (b ∷ bs) = ((b == 95) ≡ false) × Without bs

without_more : (a b : List ℕ) → Without a → Without b → Without (a ++ b)
without_more [] b v w = w
without_more (x ∷ a) b v w = (v.0, without_more a b v.1 w)

one_digit : (n : ℕ) → n < 10 → (48 + n == 95) ≡ false
one_digit n h = grind arith

digits_without : (n : ℕ) → n < 2 ^ 64 → Without (decimal n)
digits_without n small =
    decimal_by_steps (λ m ds. Without ds) (λ m low. (one_digit m low, tt))
    (λ m ds high w. without_more ds ((48 + m % 10) ∷ []) w (one_digit (m % 10) (omega arith), tt)) n small

first_at : (a x : List ℕ) → Without a → position_or_len (λ b. b == 95) (a ++ 95 ∷ x) ≡ length a
first_at [] x w = refl
first_at (b ∷ a) x w = by (b == 95) w.0 (first_at a x w.1)
  where
    by : (t : Bool) → t ≡ false → position_or_len (λ b. b == 95) (a ++ 95 ∷ x) ≡ length a → cond (not t) (1 + position_or_len (λ b. b == 95) (a ++ 95 ∷ x)) 0 ≡ suc (length a)
    by true e rest = absurd (cc)
    by false e rest = omega (arith, rest)

taken : (a x : List ℕ) → take (length a) (a ++ x) ≡ a
taken [] x = refl
taken (y ∷ a) x = ap (λ zs. y ∷ zs) (taken a x)

abbrev letter : Bool → ℕ
letter old = if old then 111 else 99

shape : (old : Bool) (k : ℕ) (rest : List ℕ) → mark old k ++ rest ≡ letter old ∷ (decimal k ++ 95 ∷ rest)
shape true k rest = ap (λ xs. 111 ∷ xs) (append_assoc (decimal k) (95 ∷ []) rest)
shape false k rest = ap (λ xs. 99 ∷ xs) (append_assoc (decimal k) (95 ∷ []) rest)

no_letter : (old : Bool) → (letter old == 95) ≡ false
no_letter true = refl
no_letter false = refl

-- the first underscore of a new name stands behind the number
underscore_at : (old : Bool) (k : ℕ) (rest : List ℕ) → k < 2 ^ 64 → position (λ b. b == 95) (mark old k ++ rest) ≡ Some (suc (length (decimal k)))
underscore_at old k rest small =
    let at = first_at (letter old ∷ decimal k) rest (no_letter old, digits_without k small) in
    let size = length-append (decimal k) (95 ∷ rest) in
    ap (position (λ b. b == 95)) (shape old k rest)
    ∙ ap (λ n. cond (nat_lt n (suc (length (decimal k ++ 95 ∷ rest)))) (Some n) None) at
    ∙ ap (λ b. cond b (Some (suc (length (decimal k)))) None) (less (length (decimal k)) (length (decimal k ++ 95 ∷ rest)) (omega (arith, size)))
  where
    less : (m n : ℕ) → m < n → nat_lt (suc m) (suc n) ≡ true
    less m n h = grind arith

-- and the number stands before it
pub digits_there : (bytes : List ℕ) (old : Bool) (k : ℕ) (rest : List ℕ) (end : ℕ) → k < 2 ^ 64 → bytes ≡ mark old k ++ rest → Some end ≡ position (λ b. b == 95) bytes
    → take (end - 1) (drop 1 bytes) ≡ decimal k
digits_there bytes old k rest end small is at =
    let place : end ≡ suc (length (decimal k)) = same_Some _ _ (at ∙ ap (position (λ b. b == 95)) is ∙ underscore_at old k rest small) in
    let n : suc (length (decimal k)) - 1 ≡ length (decimal k) = omega arith in
    ap (λ bs. take (end - 1) (drop 1 bs)) (is ∙ shape old k rest) ∙ ap (λ m. take (m - 1) (decimal k ++ 95 ∷ rest)) place
    ∙ ap (λ m. take m (decimal k ++ 95 ∷ rest)) n ∙ taken (decimal k) (95 ∷ rest)

pub some_place : (bytes : List ℕ) (old : Bool) (k : ℕ) (rest : List ℕ) → k < 2 ^ 64 → bytes ≡ mark old k ++ rest → None ≡ position (λ b. b == 95) bytes → ⊥
some_place bytes old k rest small is at = none (at ∙ ap (position (λ b. b == 95)) is ∙ underscore_at old k rest small)
  where
    none : {A : Type 0} {y : A} → None ≡ Some y → ⊥
    none h = cc

pub digits_text : (k : ℕ) (bytes : List ℕ) → k < 2 ^ 64 → bytes ≡ decimal k → IsUtf8 bytes
digits_text k bytes small e = subst IsUtf8 (sym e) (IsUtf8-from_ascii (decimal k) (IsAscii-decimal k small))

-- what begins with some bytes
pub begun : (stem rest : List ℕ) → pointwise nat_eq (take (length stem) (stem ++ rest)) stem ≡ true
begun stem rest = ap (λ xs. pointwise nat_eq xs stem) (taken stem rest) ∙ nat_list_eq_equiv.refl stem

-- the numbers with one name more
pub one_more_name : (stem : List ℕ) (names : List (List ℕ)) (i : ℕ) (name : List ℕ) (numbers grown : List ℕ) (o : Option ℕ) → i < length names → name ≡ get_or names i name
    → AreNumbersBehind stem (take i names) numbers → ((old : Bool) (k : ℕ) (rest : List ℕ) → k < 2 ^ 64 → name ≡ stem ++ (mark old k ++ rest) → o ≡ Some k)
    → grown ≡ numbers ++ option_to_list o → AreNumbersBehind stem (take (i + 1) names) grown
one_more_name stem names i name numbers grown o inside is before told e = λ old k rest small among.
    let q = stem ++ (mark old k ++ rest) in
    let front : take (i + 1) names ≡ take i names ++ name ∷ [] = take_more names i name inside ∙ ap (λ n. take i names ++ n ∷ []) (sym is) in
    let parts = sym (list_any-append (pointwise nat_eq q) (take i names) (name ∷ [])) ∙ sym (ap (λ ns. is_among ns q) front) ∙ among in
    let joined = list_any-append (nat_eq k) numbers (option_to_list o) in
    ap (list_any (nat_eq k)) e ∙ joined ∙ by old k rest small (is_among (take i names) q) refl parts
  where
    either : (b c : Bool) → b ≡ true → (b || c) ≡ true
    either true c e = refl
    either false c e = absurd (cc)

    last : (b : Bool) → (b || true) ≡ true
    last true = refl
    last false = refl

    only : (b : Bool) → (b || false) ≡ true → b ≡ true
    only true h = refl
    only false h = h

    itself : (n : ℕ) → nat_eq n n ≡ true
    itself n = grind arith

    by : (old : Bool) (k : ℕ) (rest : List ℕ) → k < 2 ^ 64 → (b : Bool) → is_among (take i names) (stem ++ (mark old k ++ rest)) ≡ b
        → (b || (pointwise nat_eq (stem ++ (mark old k ++ rest)) name || false)) ≡ true → (list_any (nat_eq k) numbers || list_any (nat_eq k) (option_to_list o)) ≡ true
    by old k rest small true h f = either (list_any (nat_eq k) numbers) (list_any (nat_eq k) (option_to_list o)) (before old k rest small h)
    by old k rest small false h f =
        let same = same_bytes (stem ++ (mark old k ++ rest)) name (only (pointwise nat_eq (stem ++ (mark old k ++ rest)) name) f) in
        let here : list_any (nat_eq k) (option_to_list o) ≡ true = ap (λ x. list_any (nat_eq k) (option_to_list x)) (told old k rest small (sym same)) ∙ ap (λ b. b || false) (itself k) in
        ap (λ b. list_any (nat_eq k) numbers || b) here ∙ last (list_any (nat_eq k) numbers)

-- a call of another number brings none of the names
pub none_numbered : (stem : List ℕ) (those : List (List ℕ)) (numbers : List ℕ) (k : ℕ) (ps : List Place) → AreNumbersBehind stem those numbers → k < 2 ^ 64
    → list_any (nat_eq k) numbers ≡ false → find (is_among those) (names_under stem k ps) ≡ None
none_numbered stem those numbers k [] h small other = refl
none_numbered stem those numbers k (p ∷ ps) h small other =
    ap (λ b. cond b (Some (stem ++ brought_name k p)) (find (is_among those) (names_under stem k ps))) (by (is_among those (stem ++ brought_name k p)) refl)
    ∙ none_numbered stem those numbers k ps h small other
  where
    differ : true ≡ false → ⊥
    differ x = cc

    by : (b : Bool) → is_among those (stem ++ brought_name k p) ≡ b → is_among those (stem ++ brought_name k p) ≡ false
    by true e = absurd (differ (sym (h p.old k p.name small e) ∙ other))
    by false e = e
