-- Lines and their text determine one another, and readable certificates have readable lines.
use Rattle.std.proofs.Common.{◌≡◌, ℕ, zero, suc, ◌<◌, ◌==◌, Bool, true, false, List, [], ◌∷◌, ◌++◌, length, map, refl, sym, ◌∙◌, ap, arith, append_assoc, length-append, inl, inr}
use Rattle.std.specs.Prelude.{codes}
use Rattle.std.specs.List.{All, flat_map}
use Rattle.std.proofs.lemmas.Grind.{flat_map-append}
use Rattle.std.proofs.lemmas.List.Elements.{All-append}
use borrow.Author.Tests.{eqb-true}
use Rattle.il_core.specs.Certificate.{Certificate, sum, split}
use Rattle.il_core.specs.declared.certificate.Share.{Share}
use Rattle.cert_text.specs.declared.line.Line.{Line}
use Rattle.cert_text.specs.declared.line.Line.TheVariants as lines
use Rattle.cert_text.specs.Line.{spelling, text_of, IsReadableShare, IsReadableLine}
use Rattle.cert_text.specs.Text.{Named, body_lines, cert_lines, IsReadableBody, IsReadable}
use Rattle.cert_text.specs.Reading.{IsWhole}
use Rattle.cert_text.specs.Progress.{share_lines}
use Rattle.cert_text.proofs.Parts.{Without, same_parts}
use Rattle.cert_text.proofs.LinesRead.{spelling_without, same_line}
use Rattle.cert_text.proofs.Bodies.{not_cons, same_head}

pub text-nil : text_of [] ≡ []
unfolding text_of
text-nil = refl

pub text-cons : (l : Line) (ls : List Line) → text_of (l ∷ ls) ≡ spelling l ++ 10 ∷ text_of ls
unfolding text_of
text-cons l ls = append_assoc (spelling l) (codes "\n") (text_of ls)

pub text-append : (a b : List Line) → text_of (a ++ b) ≡ text_of a ++ text_of b
unfolding text_of
text-append a b = flat_map-append (λ (line : Line). spelling line ++ codes "\n") a b

-- all elements of a list, one by one
pub all_nil : {A : Type 0} (P : A → Type 0) → All P []
all_nil P k d h = absurd (omega arith)

pub all_cons : {A : Type 0} (P : A → Type 0) (x : A) (xs : List A) → P x → All P xs → All P (x ∷ xs)
all_cons P x xs p ps zero d h = p
all_cons P x xs p ps (suc k) d h = ps k d (omega arith)

pub all_head : {A : Type 0} (P : A → Type 0) (x : A) (xs : List A) → All P (x ∷ xs) → P x
all_head P x xs ps = ps 0 x (omega arith)

pub all_tail : {A : Type 0} (P : A → Type 0) (x : A) (xs : List A) → All P (x ∷ xs) → All P xs
all_tail P x xs ps k d h = ps (suc k) d (omega arith)

pub all_behind : {A : Type 0} (P : A → Type 0) (xs ys : List A) → All P (xs ++ ys) → All P ys
all_behind P [] ys ps = ps
all_behind P (x ∷ xs) ys ps = all_behind P xs ys (all_tail P x (xs ++ ys) ps)

pub all_push : {A : Type 0} (P : A → Type 0) (xs : List A) (y : A) → All P xs → P y → All P (xs ++ y ∷ [])
all_push P xs y ps p = All-append P xs (y ∷ []) ps (all_cons P y [] p (all_nil P))

-- readable certificates have readable lines
pub shares_lines : (shares : List Share) → All IsReadableShare shares → All IsReadableLine (map lines.Share shares)
shares_lines [] h = all_nil IsReadableLine
shares_lines (s ∷ ss) h = all_cons IsReadableLine (lines.Share s) (map lines.Share ss) (all_head IsReadableShare s ss h) (shares_lines ss (all_tail IsReadableShare s ss h))

pub body_readable : (body : Certificate) → IsReadableBody body → All IsReadableLine (body_lines body)
body_readable (sum shares) h = all_cons IsReadableLine lines.Sum (share_lines shares) tt (all_push IsReadableLine (map lines.Share shares) lines.End (shares_lines shares h.2) tt)
body_readable (split i low high) h = all_cons IsReadableLine (lines.Split i) (body_lines low ++ body_lines high) h.0 (All-append IsReadableLine (body_lines low) (body_lines high) (body_readable low h.1) (body_readable high h.2))

pub cert_readable : (names : List (List ℕ)) (cert : Named) → IsReadable names cert → All IsReadableLine (cert_lines cert)
cert_readable names cert h = all_cons IsReadableLine (lines.Head cert.procedure cert.threat) (body_lines cert.body) (h.name, h.threat) (body_readable cert.body h.body)

pub certs_readable : (names : List (List ℕ)) (certs : List Named) → All (IsReadable names) certs → All IsReadableLine (flat_map cert_lines certs)
certs_readable names [] h = all_nil IsReadableLine
certs_readable names (c ∷ cs) h =
    All-append IsReadableLine (cert_lines c) (flat_map cert_lines cs) (cert_readable names c (all_head (IsReadable names) c cs h)) (certs_readable names cs (all_tail (IsReadable names) c cs h))

-- a newline stands in no empty text
no_newline : (a x : List ℕ) → ◌≡◌ {A = List ℕ} [] (a ++ 10 ∷ x) → ⊥
no_newline [] x e = not_cons 10 x e
no_newline (b ∷ a) x e = not_cons b (a ++ 10 ∷ x) e

-- lines with one text are the same
pub same_lines : (a b : List Line) → All IsReadableLine a → All IsReadableLine b → text_of a ≡ text_of b → a ≡ b
same_lines [] [] h i e = refl
same_lines [] (m ∷ b) h i e = absurd (no_newline (spelling m) (text_of b) (sym text-nil ∙ e ∙ text-cons m b))
same_lines (l ∷ a) [] h i e = absurd (no_newline (spelling l) (text_of a) (sym text-nil ∙ sym e ∙ text-cons l a))
same_lines (l ∷ a) (m ∷ b) h i e =
    let p = all_head IsReadableLine l a h in
    let q = all_head IsReadableLine m b i in
    let parts = same_parts 10 (spelling l) (spelling m) (text_of a) (text_of b) (spelling_without l p) (spelling_without m q) (sym (text-cons l a) ∙ e ∙ text-cons m b) in
    ap (λ z. z ∷ a) (same_line l m p q parts.0) ∙ ap (λ zs. m ∷ zs) (same_lines a b (all_tail IsReadableLine l a h) (all_tail IsReadableLine m b i) parts.1)

-- the line that follows some lines in a text
pub record GoesOn (front all : List Line) (word : List ℕ) : Type 0 where
  pub line : Line
  pub others : List Line
  pub all_is : all ≡ front ++ line ∷ others
  pub word_is : spelling line ≡ word
  pub readable : IsReadableLine line

pub goes_on : (a b : List Line) (word rest : List ℕ) → All IsReadableLine a → All IsReadableLine b → Without 10 word → text_of a ++ (word ++ 10 ∷ rest) ≡ text_of b → GoesOn a b word
goes_on a [] word rest h i w e = absurd (by (text_of a) (sym text-nil ∙ sym e))
  where
    by : (t : List ℕ) → ◌≡◌ {A = List ℕ} [] (t ++ (word ++ 10 ∷ rest)) → ⊥
    by [] f = no_newline word rest f
    by (b ∷ t) f = not_cons b (t ++ (word ++ 10 ∷ rest)) f
goes_on [] (m ∷ b) word rest h i w e =
    let q = all_head IsReadableLine m b i in
    let parts = same_parts 10 word (spelling m) rest (text_of b) w (spelling_without m q) (ap (λ t. t ++ (word ++ 10 ∷ rest)) (sym text-nil) ∙ e ∙ text-cons m b) in
    record { line = m; others = b; all_is = refl; word_is = sym parts.0; readable = q }
goes_on (l ∷ a) (m ∷ b) word rest h i w e =
    let p = all_head IsReadableLine l a h in
    let q = all_head IsReadableLine m b i in
    let f = sym (append_assoc (spelling l) (10 ∷ text_of a) (word ++ 10 ∷ rest)) ∙ ap (λ t. t ++ (word ++ 10 ∷ rest)) (sym (text-cons l a)) ∙ e ∙ text-cons m b in
    let parts = same_parts 10 (spelling l) (spelling m) (text_of a ++ (word ++ 10 ∷ rest)) (text_of b) (spelling_without l p) (spelling_without m q) f in
    let g = goes_on a b word rest (all_tail IsReadableLine l a h) (all_tail IsReadableLine m b i) w parts.1 in
    record { line = g.line; others = g.others; all_is = ap (λ z. z ∷ b) (sym (same_line l m p q parts.0)) ∙ ap (λ zs. l ∷ zs) g.all_is; word_is = g.word_is; readable = g.readable }

-- the text of lines is whole
pub text-whole : (ls : List Line) → IsWhole (text_of ls)
text-whole [] = inl text-nil
text-whole (l ∷ ls) = by (text-whole ls)
  where
    by : IsWhole (text_of ls) → IsWhole (text_of (l ∷ ls))
    by (inl e) = inr (spelling l, text-cons l ls ∙ ap (λ t. spelling l ++ 10 ∷ t) e)
    by (inr (front, e)) = inr (spelling l ++ 10 ∷ front, text-cons l ls ∙ ap (λ t. spelling l ++ 10 ∷ t) e ∙ sym (append_assoc (spelling l) (10 ∷ front) (10 ∷ [])))

-- what is left of whole bytes ends with a newline
pub whole-behind : (a b : List ℕ) → 0 < length b → IsWhole (a ++ b) → (front : List ℕ) × (b ≡ front ++ 10 ∷ [])
whole-behind [] b h (inl e) = absurd (let n : length b ≡ 0 = ap length e in omega arith)
whole-behind [] b h (inr w) = w
whole-behind (x ∷ a) b h (inl e) = absurd (not_cons x (a ++ b) (sym e))
whole-behind (x ∷ a) b h (inr ([], e)) = absurd (let n : length (a ++ b) ≡ 0 = ap length (same_head _ _ _ _ e).1 in omega (arith, length-append a b))
whole-behind (x ∷ a) b h (inr (y ∷ front, e)) = whole-behind a b h (inr (front, (same_head _ _ _ _ e).1))

-- bytes with a newline, parted at the first one
pub record IsCutAtNewline (bytes : List ℕ) : Type 0 where
  pub word : List ℕ
  pub rest : List ℕ
  pub is : bytes ≡ word ++ 10 ∷ rest
  pub without : Without 10 word

pub first_newline : (a x : List ℕ) → IsCutAtNewline (a ++ 10 ∷ x)
first_newline [] x = record { word = []; rest = x; is = refl; without = tt }
first_newline (b ∷ a) x = by (first_newline a x) (b == 10) refl
  where
    by : IsCutAtNewline (a ++ 10 ∷ x) → (t : Bool) → (b == 10) ≡ t → IsCutAtNewline (b ∷ (a ++ 10 ∷ x))
    by claim true e = record { word = []; rest = a ++ 10 ∷ x; is = ap (λ c. c ∷ (a ++ 10 ∷ x)) (eqb-true b 10 e); without = tt }
    by claim false e = record { word = b ∷ claim.word; rest = claim.rest; is = ap (λ z. b ∷ z) claim.is; without = (e, claim.without) }
