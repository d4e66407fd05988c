-- The pieces in which a made text is written are its lines, each with its newline.
use Rattle.std.proofs.Common.{◌≡◌, ℕ, zero, suc, ◌+◌, ◌-◌, ◌≤◌, List, [], ◌∷◌, ◌++◌, refl, sym, ◌∙◌, ap, append_assoc, append-nil, arith}
use Rattle.std.specs.Prelude.{codes, decimal}
use Rattle.std.specs.List.{flat_map, range_with_len}
use Rattle.std.proofs.lemmas.Grind.{flat_map-append}
use Rattle.made_text.specs.Made.{text_of, opening, round, closing, made_text, opening_text, round_text}

-- the end of a line is one piece with what follows
pub joined_end : (digits rest : List ℕ) → ((digits ++ codes ";") ++ codes "\n") ++ rest ≡ digits ++ (codes ";\n" ++ rest)
joined_end digits rest = append_assoc (digits ++ codes ";") (codes "\n") rest ∙ append_assoc digits (codes ";") (codes "\n" ++ rest)

pub opening_is : (n : ℕ) → opening_text n ≡ codes "TITLE gen;\nPROC p;\nINOUT x : 0 .. 200;\nPRE TRUE;\nPOST x >= " ++ (decimal n ++ codes ";\n")
unfolding opening_text
opening_is n = ap (λ t. codes "TITLE gen;\nPROC p;\nINOUT x : 0 .. 200;\nPRE TRUE;\nPOST x >= " ++ t) (joined_end (decimal n) [])

pub round_is : (k : ℕ) → round_text k ≡ codes "LOOP;\nEXIT WHEN x >= " ++ (decimal k ++ codes ";\nx := x + 1;\nENDLOOP;\n")
unfolding round_text
round_is k = ap (λ t. codes "LOOP;\nEXIT WHEN x >= " ++ t) (joined_end (decimal k) (codes "x := x + 1;\nENDLOOP;\n"))

-- three pieces behind what was there
pub three : (old a b c whole one two all : List ℕ) → whole ≡ a ++ (b ++ c) → one ≡ old ++ a → two ≡ one ++ b → all ≡ two ++ c → all ≡ old ++ whole
three old a b c whole one two all e f g h =
    h ∙ ap (λ t. t ++ c) (g ∙ ap (λ t. t ++ b) f) ∙ append_assoc (old ++ a) b c ∙ append_assoc old a (b ++ c) ∙ ap (λ t. old ++ t) (sym e)

-- so many rounds
abbrev pub rounds : ℕ → List ℕ
rounds n = flat_map round_text (range_with_len 1 n)

range_more : (a n : ℕ) → range_with_len a (suc n) ≡ range_with_len a n ++ (a + n) ∷ []
range_more a zero = let e : a ≡ a + 0 = omega arith in ap (λ k. k ∷ []) e
range_more a (suc n) =
    let e : a + 1 + n ≡ a + suc n = omega arith in
    ap (λ ks. a ∷ ks) (range_more (a + 1) n ∙ ap (λ k. range_with_len (a + 1) n ++ k ∷ []) e)

rounds_more : (n : ℕ) → rounds (suc n) ≡ rounds n ++ round_text (suc n)
rounds_more n =
    let e : 1 + n ≡ suc n = omega arith in
    ap (flat_map round_text) (range_more 1 n) ∙ flat_map-append round_text (range_with_len 1 n) ((1 + n) ∷ [])
    ∙ ap (λ k. rounds n ++ (round_text k ++ [])) e ∙ ap (λ t. rounds n ++ t) (append-nil (round_text (suc n)))

-- one more round behind those up to it
pub one_more : (old text all : List ℕ) (k : ℕ) → 1 ≤ k → text ≡ old ++ rounds (k - 1) → all ≡ text ++ round_text k → all ≡ old ++ rounds k
one_more old text all zero h e f = absurd (omega arith)
one_more old text all (suc n) h e f =
    let same : suc n - 1 ≡ n = omega arith in
    f ∙ ap (λ t. t ++ round_text (suc n)) (e ∙ ap (λ m. old ++ rounds m) same) ∙ append_assoc old (rounds n) (round_text (suc n)) ∙ ap (λ t. old ++ t) (sym (rounds_more n))

-- a line's text, and the text of the lines of several rounds
rounds_lines : (ks : List ℕ) → text_of (flat_map round ks) ≡ flat_map round_text ks
unfolding round_text
rounds_lines [] = refl
rounds_lines (k ∷ ks) = flat_map-append (λ (line : List ℕ). line ++ codes "\n") (round k) (flat_map round ks) ∙ ap (λ t. text_of (round k) ++ t) (rounds_lines ks)

pub made_is : (n : ℕ) → made_text n ≡ (opening_text n ++ rounds n) ++ codes "ENDPROC;\nFINISH;\n"
unfolding made_text opening_text
made_is n =
    flat_map-append (λ (line : List ℕ). line ++ codes "\n") (opening n ++ flat_map round (range_with_len 1 n)) closing
    ∙ ap (λ t. t ++ codes "ENDPROC;\nFINISH;\n") (flat_map-append (λ (line : List ℕ). line ++ codes "\n") (opening n) (flat_map round (range_with_len 1 n))
    ∙ ap (λ t. text_of (opening n) ++ t) (rounds_lines (range_with_len 1 n)))
