-- The names of a text's procedures are those that its checked text gives them; and no input has two answers.
use Rattle.std.proofs.Common.{◌≡◌, ◌⊎◌, inl, inr, ℕ, ◌+◌, Bool, true, false, List, map, drop, Option, None, Some, Result, Ok, Err, refl, sym, ap, subst, ◌∙◌, arith}
use Rattle.std.proofs.lemmas.Bool.{cases_order}
use Rattle.std.proofs.lemmas.Simd.{map-map}
use Rattle.acceptance.specs.Acceptance.{Accepts, HasRefusal, OneAnswer}
use Rattle.cert_text.specs.Mark.{IsFirstMark}
use Rattle.cert_text.specs.Reading.{OneReading}
use Rattle.cert_text.specs.Text.{named_of}
use Rattle.il_core.specs.Checked.{NamedText}
use Rattle.il_core.specs.Text.{Text, TextProcedure, text_procedure, text_of}
use Rattle.il_core.specs.declared.certificate.NamedCert.{NamedCert}
use Rattle.il_core.specs.declared.refusal.Code.TheVariants.{BadCertificate}
use Rattle.il_core.specs.declared.refusal.Refusal.{Refusal}
use Rattle.il_inline.specs.Expanded.{WholeExpansion}
use Rattle.malpas.specs.Input.{names_in, text_before, IsCut, HasCertificates, HasBadCertificate, AcceptsInput, RefusesParts, RefusesInput, OneInput}

pub names_all : (t : NamedText) (names : List (List ℕ)) → names ≡ map (λ p. p.name) t.procs → names ≡ names_in (text_of t)
names_all t names all = all ∙ sym (map-map (λ (p : TextProcedure). p.name) text_procedure t.procs)

-- an input has one first mark,
first_mark : (input : List ℕ) (a b : Option ℕ) → IsFirstMark input a → IsFirstMark input b → a ≡ b
first_mark input None None x y = refl
first_mark input None (Some n) x y = absurd (x n y.0)
first_mark input (Some m) None x y = absurd (y m x.0)
first_mark input (Some m) (Some n) x y = elim (cases_order m n) [
  | inl same ↦ ap Some same
  | inr other ↦ elim other [ inl before ↦ absurd (y.1 m before x.0) | inr behind ↦ absurd (x.1 n behind y.0) ]
]

-- and is cut at one place
one_cut : (certificates : Bool) (input : List ℕ) (a b : Option ℕ) → IsCut certificates input a → IsCut certificates input b → a ≡ b
one_cut true input a b x y = first_mark input a b x y
one_cut false input a b x y = x ∙ sym y

-- certificates behind it have one reading,
one_list : OneReading → (t : Text) (mark : Option ℕ) (input : List ℕ) (a b : List NamedCert) → HasCertificates t mark input a → HasCertificates t mark input b → map named_of a ≡ map named_of b
one_list once t None input a b x y = ap (map named_of) (x ∙ sym y)
one_list once t (Some place) input a b x y = once.one_list (names_in t) (drop (place + 3) input) (map named_of a) (map named_of b) x y

-- none that is bad,
read_or_bad : (t : Text) (mark : Option ℕ) (input : List ℕ) (certs : List NamedCert) (refusal : Refusal) → HasCertificates t mark input certs → HasBadCertificate t mark input refusal → ⊥
read_or_bad t None input certs refusal x y = y
read_or_bad t (Some place) input certs refusal x y = y.bad.unread (map named_of certs) x

abbrev bad_at : ℕ → ℕ → Refusal
bad_at offset place = record { code = BadCertificate; place = offset + place; name = None }

-- and one first bad line
one_bad : OneReading → (t : Text) (mark : Option ℕ) (input : List ℕ) (a b : Refusal) → HasBadCertificate t mark input a → HasBadCertificate t mark input b → a ≡ b
one_bad once t None input a b x y = absurd x
one_bad once t (Some place) input a b x y =
    let same = once.one_place (names_in t) (drop (place + 3) input) x.place y.place x.bad y.bad in
    x.is ∙ ap (bad_at (place + 3)) same ∙ sym y.is

-- a text has one expansion
one_text : OneAnswer → (text : List ℕ) (a b : WholeExpansion) → Accepts text a → Accepts text b → a ≡ b
one_text once text a b x y = let same : ◌≡◌ {A = Result WholeExpansion Refusal} (Ok a) (Ok b) = once text (Ok a) (Ok b) x y in cc

one_refusal : OneAnswer → (text : List ℕ) (a b : Refusal) → HasRefusal text a → HasRefusal text b → a ≡ b
one_refusal once text a b x y = let same : ◌≡◌ {A = Result WholeExpansion Refusal} (Err a) (Err b) = once text (Err a) (Err b) x y in cc

text_or_refusal : OneAnswer → (text : List ℕ) (a : WholeExpansion) (b : Refusal) → Accepts text a → HasRefusal text b → ⊥
text_or_refusal once text a b x y = let same : ◌≡◌ {A = Result WholeExpansion Refusal} (Ok a) (Err b) = once text (Ok a) (Err b) x y in absurd (cc)

-- of an input that is cut at one place
accepted_twice : OneAnswer → OneReading → (certificates : Bool) (input : List ℕ) (s t : WholeExpansion) (a b : List NamedCert) → AcceptsInput certificates input s a → AcceptsInput certificates input t b
    → (s ≡ t) × (map named_of a ≡ map named_of b)
accepted_twice text_once certs_once certificates input s t a b x y =
    let cut : x.mark ≡ y.mark = one_cut certificates input x.mark y.mark x.cut y.cut in
    let text : s ≡ t = one_text text_once (text_before y.mark input) s t (subst (λ m. Accepts (text_before m input) s) cut x.text) y.text in
    let read : HasCertificates t.text y.mark input a = subst (λ m. HasCertificates t.text m input a) cut (subst (λ (u : WholeExpansion). HasCertificates u.text x.mark input a) text x.read) in
    (text, one_list certs_once t.text y.mark input a b read y.read)

accepted_or_refused : OneAnswer → (certificates : Bool) (input : List ℕ) (t : WholeExpansion) (certs : List NamedCert) (refusal : Refusal) → AcceptsInput certificates input t certs
    → RefusesParts certificates input refusal → ⊥
accepted_or_refused text_once certificates input t certs refusal x y =
    let cut : x.mark ≡ y.mark = one_cut certificates input x.mark y.mark x.cut y.cut in
    let accepted : Accepts (text_before y.mark input) t = subst (λ m. Accepts (text_before m input) t) cut x.text in
    let read : HasCertificates t.text y.mark input certs = subst (λ m. HasCertificates t.text m input certs) cut x.read in
    elim y.first [
      | inl refused ↦ text_or_refusal text_once (text_before y.mark input) t refusal accepted refused
      | inr bad ↦
          let same : t ≡ bad.0 = one_text text_once (text_before y.mark input) t bad.0 accepted bad.1 in
          read_or_bad bad.0.text y.mark input certs refusal (subst (λ (u : WholeExpansion). HasCertificates u.text y.mark input certs) same read) bad.2
    ]

refused_twice : OneAnswer → OneReading → (certificates : Bool) (input : List ℕ) (a b : Refusal) → RefusesParts certificates input a → RefusesParts certificates input b → a ≡ b
refused_twice text_once certs_once certificates input a b x y =
    let cut : x.mark ≡ y.mark = one_cut certificates input x.mark y.mark x.cut y.cut in
    by (subst (λ m. Refuses m a) cut x.first) y.first
  where
    Refuses : Option ℕ → Refusal → Type 0
    Refuses m r = HasRefusal (text_before m input) r ⊎ ((t : WholeExpansion) × Accepts (text_before m input) t × HasBadCertificate t.text m input r)

    by : Refuses y.mark a → Refuses y.mark b → a ≡ b
    by (inl v) (inl w) = one_refusal text_once (text_before y.mark input) a b v w
    by (inl v) (inr w) = absurd (text_or_refusal text_once (text_before y.mark input) w.0 a w.1 v)
    by (inr v) (inl w) = absurd (text_or_refusal text_once (text_before y.mark input) v.0 b v.1 w)
    by (inr v) (inr w) =
        let same : v.0 ≡ w.0 = one_text text_once (text_before y.mark input) v.0 w.0 v.1 w.1 in
        one_bad certs_once w.0.text y.mark input a b (subst (λ (t : WholeExpansion). HasBadCertificate t.text y.mark input a) same v.2) w.2

pub one_input : OneAnswer → OneReading → OneInput
one_input text_once certs_once certificates input (Ok a) (Ok b) x y =
    let same = accepted_twice text_once certs_once certificates input a.0 b.0 x.0 y.0 x.2 y.2 in
    let text : a.0 ≡ b.0 = same.0 in
    let certs : a.1 ≡ b.1 = sym x.1 ∙ same.1 ∙ y.1 in
    ap (λ t. Ok (t, a.1)) text ∙ ap (λ u. Ok (b.0, u)) certs
one_input text_once certs_once certificates input (Ok a) (Err b) x y = absurd (elim y [ inl long ↦ omega (arith, long.0, x.2.short) | inr parts ↦ accepted_or_refused text_once certificates input a.0 x.0 b x.2 parts ])
one_input text_once certs_once certificates input (Err a) (Ok b) x y = absurd (elim x [ inl long ↦ omega (arith, long.0, y.2.short) | inr parts ↦ accepted_or_refused text_once certificates input b.0 y.0 a y.2 parts ])
one_input text_once certs_once certificates input (Err a) (Err b) x y = ap Err (by x y)
  where
    by : RefusesInput certificates input a → RefusesInput certificates input b → a ≡ b
    by (inl v) (inl w) = v.1 ∙ sym w.1
    by (inl v) (inr w) = absurd (omega (arith, v.0, w.short))
    by (inr v) (inl w) = absurd (omega (arith, v.short, w.0))
    by (inr v) (inr w) = refused_twice text_once certs_once certificates input a b v w
